use Rattle.tokens.proofs.First.{solid_comment, solid_tokens}
use mathlib.Core.Path.{sym, ◌∙◌}
use Rattle.tokens.proofs.solid.Goals as goal

pub returns-then-not-stands_at : goal.returns-then-not-stands_at
returns-then-not-stands_at c = solid_tokens c.requires c.next.ensures (sym c.stands_at.ensures ∙ c.if-not-stands_at.true)

pub returns-else-not-stands_at : goal.returns-else-not-stands_at
returns-else-not-stands_at c = rw c.if-not-stands_at.false (solid_comment c.requires (sym c.stands_at.ensures ∙ c.if-not-stands_at.false))
