use Rattle.dimacs.proofs.Buffers.{Moved}
use lib.ListN.{length}
use Prim.Native.Nat.{◌≤◌, ◌<◌}
use Rattle.dimacs.proofs.splice.Given as goal

abbrev pub invariant-loop-i : goal.invariant-loop-i
invariant-loop-i l = (l.at ≤ l.i) × (l.i ≤ l.k) × (l.k < length l.initial.clause) × Moved l.initial.clause l.k l.i l.clause
