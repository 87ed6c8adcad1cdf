use Rattle.tokens.proofs.Places.{stands_got}
use mathlib.Core.Path.{◌∙◌}
use Rattle.tokens.proofs.stands_at.Goals as goal

pub returns : goal.returns
returns c = c.eq.ensures ∙ stands_got _ _ _ _ c.get.ensures.lookup
