use mathlib.Core.Path.{◌≡◌}
use mathlib.Core.List.{List}
use Prim.Native.Nat.{ℕ, ◌/◌}
use lib.ListN.{length, drop}
use lib.Seq.{sets}
use Rattle.std.specs.Simd.{first_chunks}
use Rattle.render.proofs.Words.{words_in}
use Rattle.render.proofs.unpack.Given as goal

-- `render::unpack` meets its contract: writing the words that are left is writing the words. Assumes nothing.
abbrev pub invariant-loop-i : goal.invariant-loop-i
invariant-loop-i l =
    let pairs : List (List ℕ) = first_chunks 2 (length l.bytes / 2) l.bytes in
    (length l.words ≡ length l.initial.words) × (sets l.words l.i (words_in (drop l.i pairs)) ≡ sets l.initial.words 0 (words_in pairs))
