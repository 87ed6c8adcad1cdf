use Rattle.tokens.proofs.Places.{past_one, past_none}
use mathlib.Core.Path.{sym, ◌∙◌}
use Rattle.tokens.proofs.past_comment.Goals as goal

pub returns-then-stands_at : goal.returns-then-stands_at
returns-then-stands_at c = rw c.line_end.ensures (past_one _ _ (sym c.stands_at.ensures ∙ c.if-stands_at.true))

pub returns-else-stands_at : goal.returns-else-stands_at
returns-else-stands_at c = past_none _ _ c.requires (sym c.stands_at.ensures ∙ c.if-stands_at.false)
