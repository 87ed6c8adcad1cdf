use Rattle.tokens.specs.Numbers.{Running}
use lib.ListN.{length}
use mathlib.Core.Path.{◌≡◌}
use Prim.Native.Nat.{◌+◌}
use Rattle.tokens.proofs.digits_from.Given as goal

abbrev pub invariant-loop-b : goal.invariant-loop-b
invariant-loop-b l = (l.end ≡ l.start + length l.yielded) × Running l.text l.start l.value l.end
