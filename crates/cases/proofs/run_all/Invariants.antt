use Rattle.std.proofs.Common.{◌≤◌}
use Rattle.cases.proofs.run_all.Given as goal

-- At most one wrong case in each turn.
abbrev pub invariant-loop-k : goal.invariant-loop-k
invariant-loop-k g l = l.wrong ≤ l.k
