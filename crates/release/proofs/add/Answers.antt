use mathlib.Core.List.{[], ◌∷◌, ◌++◌}
use native.Mathlib.Omega.{arith}
use borrow.Author.Tests.{ne_eqb}
use Rattle.release.specs.Report.{answer}
use Rattle.release.proofs.More.{given_is}
use Rattle.release.proofs.add.Goals as goal

pub returns-else-number-eq0 : goal.returns-else-number-eq0
returns-else-number-eq0 c xs e =
    let new = answer c.args.place c.args.number c.args.total in
    given_is (xs ++ new ∷ []) (c.refuse.ensures xs new (ne_eqb c.args.number 0 (λ z. omega arith)) e) (omega arith)
