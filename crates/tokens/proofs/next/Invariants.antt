use Rattle.tokens.specs.Scan.{tokens_from}
use lib.ListN.{length}
use mathlib.Core.Path.{◌≡◌}
use Prim.Native.Nat.{◌-◌, ◌≤◌}
use Rattle.tokens.proofs.next.Given as goal

abbrev pub invariant-loop-b : goal.invariant-loop-b
invariant-loop-b l = (l.start ≤ l.at) × (l.at ≤ length l.text) × (tokens_from l.text l.start ≡ tokens_from l.text l.at)

abbrev pub decreases-loop-b : goal.decreases-loop-b
decreases-loop-b l = length l.text - l.at
