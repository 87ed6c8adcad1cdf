use Rattle.std.proofs.Common.{◌^◌, ◌<◌}
use Rattle.cases.proofs.number.Given as goal

-- The number of so many bytes is below that power of 256.
abbrev pub invariant-loop-i : goal.invariant-loop-i
invariant-loop-i l = l.number < 256 ^ l.i
