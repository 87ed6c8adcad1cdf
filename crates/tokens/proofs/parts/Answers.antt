use Rattle.tokens.specs.Scan.{parts}
use borrow.Author.Tests.{ne_eqb}
use mathlib.Core.Path.{◌∙◌}
use Rattle.tokens.proofs.parts.Goals as goal

pub returns-then-b-eq10 : goal.returns-then-b-eq10
unfolding parts
returns-then-b-eq10 c = simp c.if-b-eq10.true

pub returns-else-b-eq10 : goal.returns-else-b-eq10
unfolding parts
returns-else-b-eq10 c = c.is_blank.ensures ∙ simp (ne_eqb _ _ c.if-b-eq10.false)
