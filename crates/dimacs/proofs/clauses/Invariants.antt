use Rattle.dimacs.proofs.Steps.{Standing}
use lib.ListN.{length}
use mathlib.Core.Path.{◌≡◌}
use Prim.Native.Nat.{◌-◌}
use Rattle.dimacs.proofs.clauses.Given as goal

abbrev pub invariant-loop-at : goal.invariant-loop-at
invariant-loop-at l = Standing l.text l.sizes.variables l.sizes.clauses l.start l.clause l.words l.k l.used l.ended l.at × (length l.words ≡ length l.initial.words) × (length l.clause ≡ length l.initial.clause)

abbrev pub decreases-loop-at : goal.decreases-loop-at
decreases-loop-at l = length l.text - l.at
