use lib.ListN.{length, take}
use mathlib.Core.Path.{◌≡◌}
use Rattle.dimacs.proofs.copied.Given as goal

abbrev pub invariant-loop-i : goal.invariant-loop-i
invariant-loop-i l = (length l.to ≡ length l.from) × (take l.i l.to ≡ take l.i l.from)
