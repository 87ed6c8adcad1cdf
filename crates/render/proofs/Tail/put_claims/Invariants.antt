use mathlib.Core.Path.{◌≡◌}
use mathlib.Core.List.{List}
use Prim.Native.Nat.{ℕ, ◌+◌, ◌-◌, ◌≤◌}
use lib.ListN.{length}
use lib.Seq.{sets}
use Rattle.std.specs.Iterator.Adapters.{rev_source, enumerate_source, enumerate_count}
use Rattle.std.specs.Slice.Iter.{iter_rest}
use Rattle.render.specs.Shown.{claim_lines}
use Rattle.render.proofs.Tail.put_claims.Given as goal

-- `render::put_claims` meets its contract: writing the lines that are left is writing the lines. Assumes nothing.
-- where the lines begin
abbrev pub start : ℕ → List ℕ → ℕ
start end counts = end - length (claim_lines 1 counts)

abbrev pub invariant-loop-i : goal.invariant-loop-i
invariant-loop-i l =
    let numbered = rev_source l.i-iterator in
    let left = iter_rest (enumerate_source numbered) in
    (enumerate_count numbered ≡ 0)
    × (l.self.at ≡ start l.initial.self.at l.counts + length (claim_lines 1 left))
    × (l.self.at ≤ l.initial.self.at)
    × (l.self.buffer.ghost_name ≡ l.initial.self.buffer.ghost_name)
    × (length l.self.buffer.now ≡ length l.initial.self.buffer.now)
    × (sets l.self.buffer.now (start l.initial.self.at l.counts) (claim_lines 1 left) ≡ sets l.initial.self.buffer.now (start l.initial.self.at l.counts) (claim_lines 1 l.counts))
