use Rattle.release.proofs.Turn.{Over}
use Rattle.release.proofs.report_over.Given as goal

-- `release::report_over` meets its contract: the figures of the answers passed, one more in each turn. Assumes nothing.
abbrev pub invariant-loop-i : goal.invariant-loop-i
invariant-loop-i l = Over l.answers l.i l.figures
