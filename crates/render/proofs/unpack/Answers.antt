use mathlib.Core.Path.{◌≡◌, refl, sym, ap, ◌∙◌}
use mathlib.Core.List.{List}
use Prim.Native.Nat.{ℕ, ◌/◌, ◌≤◌}
use native.Mathlib.Omega.{arith}
use lib.ListN.{length, take, length-set}
use lib.Seq.{sets, take_at}
use mir.Syntax.{w16}
use mir.Val.{to_z, of_z}
use borrow.Author.Rules.{rules}
use Rattle.std.specs.Simd.{first_chunks}
use Rattle.meaning.specs.Lines.{words_of}
use Rattle.meaning.specs.Promise.{over}
use Rattle.render.proofs.Words.{word_turn, words_two, none_in, word_count}
use Rattle.render.proofs.Sets.{sets_over}
use Rattle.render.proofs.unpack.Goals as goal

pub loop-i-preserved : goal.loop-i-preserved
loop-i-preserved c =
    let pairs : List (List ℕ) = first_chunks 2 (length c.args.bytes.now / 2) c.args.bytes.now in
    let many : length pairs ≡ length c.args.bytes.now / 2 = sym (ap length c.as_chunks.ensures.front) ∙ c.as_chunks.ensures.front_len in
    let e = rw c.as_chunks.ensures.front at c.word_of.ensures in
    let same : to_z w16 (of_z w16 c.word_of.result) ≡ c.word_of.result = search rules in
    rw same (
      simp length-set c.loop-i.invariant.0,
      word_turn c.loop-i.words pairs c.loop-i.i (omega arith) e ∙ c.loop-i.invariant.1,
    )

pub returns : goal.returns
returns c =
    let bytes = c.args.bytes.now in
    let few : length (words_of bytes) ≤ length c.args.words.now = omega (arith, word_count bytes) in
    let pairs : List (List ℕ) = first_chunks 2 (length bytes / 2) bytes in
    let many : length pairs ≡ length bytes / 2 = sym (ap length c.as_chunks.ensures.front) ∙ c.as_chunks.ensures.front_len in
    let e : c.loop-i.words ≡ over (words_of bytes) c.args.words.now =
    sym (ap (sets c.loop-i.words c.loop-i.i) (none_in pairs c.loop-i.i (omega arith))) ∙ c.loop-i.invariant.1
    ∙ ap (sets c.args.words.now 0) (words_two (length bytes / 2) bytes refl) ∙ sets_over (words_of bytes) c.args.words.now few in
    record {
      room_is = e;
      words_are = ap (take (length c.as_chunks.result.0.now)) e ∙ take_at (words_of bytes) _ _ (word_count bytes ∙ sym c.as_chunks.ensures.front_len);
      within = omega arith;
    }
