use Rattle.tokens.specs.Scan.{line_end}
use lib.ListN.{length}
use mathlib.Core.Path.{◌≡◌}
use Prim.Native.Nat.{◌≤◌, max}
use Rattle.tokens.proofs.line_end.Given as goal

abbrev pub invariant-loop-at : goal.invariant-loop-at
invariant-loop-at l = (line_end l.text l.at ≡ line_end l.text l.start) × (l.at ≤ max l.start (length l.text))
