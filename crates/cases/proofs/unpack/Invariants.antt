use Rattle.std.proofs.Common.{◌-◌, ◌≤◌, length}
use Rattle.cases.proofs.unpack.Given as goal

-- The place stays within the window, and comes nearer to the end.
abbrev pub invariant-loop-at : goal.invariant-loop-at
invariant-loop-at g l = l.at ≤ length l.window

abbrev pub decreases-loop-at : goal.decreases-loop-at
decreases-loop-at g l = l.end - l.at
