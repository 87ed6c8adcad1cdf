use mathlib.Core.Path.{◌≡◌}
use Prim.Native.Nat.{ℕ, ◌+◌, ◌-◌, ◌≤◌, ◌<◌, ◌^◌}
use lib.ListN.{length}
use lib.Seq.{sets}
use Rattle.render.specs.Shown.{shown}
use Rattle.render.proofs.Tail.put_number.Given as goal

-- `render::Tail::put_number` meets its contract: writing the digits that are left is writing the number's. Assumes nothing.
-- where the number begins
abbrev pub start : ℕ → ℕ → ℕ
start end number = end - length (shown number)

abbrev pub invariant-loop-rest : goal.invariant-loop-rest
invariant-loop-rest l =
    let s = start l.initial.self.at l.number in
    (l.self.at ≡ s + length (shown l.rest))
    × (l.rest < 2 ^ 64)
    × (l.self.at ≤ l.initial.self.at)
    × (l.self.buffer.ghost_name ≡ l.initial.self.buffer.ghost_name)
    × (length l.self.buffer.now ≡ length l.initial.self.buffer.now)
    × (sets l.self.buffer.now s (shown l.rest) ≡ sets l.initial.self.buffer.now s (shown l.number))

abbrev pub decreases-loop-rest : goal.decreases-loop-rest
decreases-loop-rest l = l.rest
