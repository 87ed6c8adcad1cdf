-- What the program prints, from what the reader and the check promise. Assumes nothing.
use mathlib.Core.Path.{◌≡◌, sym, ap, ap₂, subst, ◌∙◌}
use mathlib.Core.List.{List, ◌++◌}
use Prim.Native.Nat.{ℕ, ◌/◌, ◌%◌, ◌≤◌, ◌<◌}
use native.Mathlib.Omega.{arith}
use borrow.Author.Tests.{lt-ltb, le-ltb, eq-eqb, ne_eqb}
use lib.IntN.{ℤ}
use lib.ListN.{length, take, drop, length-append}
use lib.Seq.{take_at, length-take-le}
use Rattle.meaning.specs.declared.Verdict.{Verdict}
use Rattle.meaning.specs.declared.Verdict.TheVariants.{Refused}
use Rattle.meaning.specs.declared.TextAnswer.{TextAnswer}
use Rattle.meaning.specs.declared.TextAnswer.TheVariants.{Words, Faulty}
use Rattle.meaning.specs.Limits.{Limits, small}
use Rattle.meaning.specs.Verdict.{by_settings, check}
use Rattle.meaning.specs.Text.{Text, sound, faulty, dimacs}
use Rattle.meaning.specs.Lines.{count_lines, last_line, words_of, check_lines, trace_lines, text_lines, program}
use Rattle.meaning.specs.Promise.{over, fitting, text_answer, room_after, TextRead, Checked, Printed}
use Rattle.render.specs.Placed.{Rendered}
use Rattle.lines.specs.Held.{claims_said, held_of}
use Rattle.lines.proofs.Kept.{kept}

-- a buffer's first places are what was written over it
module _ {A : Type 0} (written buffer buffer' : List A) (is : buffer' ≡ over written buffer) where
  written_within : length written ≤ length buffer'
  written_within = omega (arith, ap length is, length-append written (drop (length written) buffer))

  written_first : (k : ℕ) → k ≡ length written → take k buffer' ≡ written
  written_first k e = ap (take k) is ∙ take_at written (drop (length written) buffer) k (sym e)

pub as_rendered : {lines lines' buffer buffer' : List ℕ} {r : ℕ} → lines ≡ lines' → Rendered lines buffer r buffer' → Rendered lines' buffer r buffer'
as_rendered {buffer = buffer} {buffer' = buffer'} {r = r} e h = subst (λ l. Rendered l buffer r buffer') e h

-- ---- the check

module _ (L : Limits) (formula trace : List ℤ) (counts counts' : List ℕ) (verdict : Verdict) (held : ℕ)
    (checked : Checked L formula trace counts verdict counts')
    (said : held ≡ held_of (claims_said (check by_settings L 0 formula trace).says) verdict) where
  all_held : held ≡ length (check by_settings L (length counts) formula trace).counts
  all_held = said ∙ ap (held_of (claims_said (check by_settings L 0 formula trace).says)) checked.verdict_is ∙ sym (kept by_settings L (length counts) formula trace)

  pub held_within : held ≤ length counts'
  held_within = omega (arith, all_held, written_within (check by_settings L (length counts) formula trace).counts counts counts' checked.counts_is)

  pub check_lines_are : (k places : ℕ) → k ≡ held → length counts ≡ places → count_lines 1 (take k counts') ++ last_line verdict ≡ check_lines L (check by_settings L places formula trace)
  check_lines_are k places e f =
      ap₂ (λ cs v. count_lines 1 cs ++ last_line v) (written_first (check by_settings L (length counts) formula trace).counts counts counts' checked.counts_is k (e ∙ all_held)) checked.verdict_is
      ∙ ap (λ n. check_lines L (check by_settings L n formula trace)) f

-- ---- the trace file

module _ (formula : List ℤ) (trace : List ℕ) where
  pub trace_long : 65534 < length trace → last_line (Refused 12 32767) ≡ trace_lines small formula trace
  trace_long h = rw (lt-ltb 65534 (length trace) h)

  module _ (few : length trace ≤ 65534) where
    pub trace_odd : length trace % 2 ≡ 1 → last_line (Refused 12 (length trace / 2)) ≡ trace_lines small formula trace
    trace_odd h = rw (le-ltb 65534 (length trace) few, eq-eqb (length trace % 2) 1 h)

    pub trace_even : (length trace % 2 ≡ 1 → ⊥) → {words : List ℤ} → words ≡ words_of trace → check_lines small (check by_settings small 1024 formula words) ≡ trace_lines small formula trace
    trace_even h e = ap (λ ws. check_lines small (check by_settings small 1024 formula ws)) e ∙ rw (le-ltb 65534 (length trace) few, ne_eqb (length trace % 2) 1 h)

-- ---- the text

module _ (room room' : List ℤ) where
  pub words_within : (d : Text (List ℤ)) {count : ℕ} → room' ≡ room_after d room → Words count ≡ text_answer d → count ≤ length room'
  words_within (sound ws) {count} is said = let e : count ≡ length ws = cc in omega (arith, written_within ws room room' is)
  words_within (faulty number place) {count} is said = let z : ◌≡◌ {A = ℕ} 0 1 = cc in absurd (omega arith)

  words_are : (d : Text (List ℤ)) (k : ℕ) {count : ℕ} → k ≡ count → room' ≡ room_after d room → Words count ≡ text_answer d → sound (take k room') ≡ d
  words_are (sound ws) k {count} e is said = let f : k ≡ length ws = cc in ap sound (written_first ws room room' is k f)
  words_are (faulty number place) k {count} e is said = let z : ◌≡◌ {A = ℕ} 0 1 = cc in absurd (omega arith)

fault_is : (d : Text (List ℤ)) {number place : ℕ} → Faulty number place ≡ text_answer d → faulty number place ≡ d
fault_is (sound ws) said = let z : ◌≡◌ {A = ℕ} 0 1 = cc in absurd (omega arith)
fault_is (faulty number place) said = cc

module _ (L : Limits) (text trace : List ℕ) (room room' : List ℤ) (lent : length room ≡ L.words) where
  pub program_words : (k : ℕ) {count : ℕ} {answer : TextAnswer} → k ≡ count → answer ≡ Words count → TextRead L text room answer room' → trace_lines L (take k room') trace ≡ program L text trace
  unfolding program
  program_words k e a read =
      ap (λ d. text_lines L d trace) (words_are room room' (dimacs L (length room) text) k e read.room_is (sym a ∙ read.answer_is) ∙ ap (λ n. dimacs L n text) lent)

  pub program_fault : {number place : ℕ} {answer : TextAnswer} → answer ≡ Faulty number place → TextRead L text room answer room' → last_line (Refused number place) ≡ program L text trace
  unfolding program
  program_fault a read =
      ap (λ d. text_lines L d trace) (fault_is (dimacs L (length room) text) (sym a ∙ read.answer_is) ∙ ap (λ n. dimacs L n text) lent)

pub as_printed : {L : Limits} {text trace lines buffer buffer' : List ℕ} {r : ℕ} → lines ≡ program L text trace → Rendered lines buffer r buffer' → Printed L text trace buffer r buffer'
as_printed {buffer = buffer} {buffer' = buffer'} {r = r} e h =
    let p = as_rendered e h in
    record { written_is = p.written_is; buffer_is = p.buffer_is }

-- what was printed lies within the buffer, as `&buffer[..r]` asks
pub printed_within : {L : Limits} {text trace buffer buffer' : List ℕ} {r : ℕ} → Printed L text trace buffer r buffer' → (r ≤ length buffer') × (r ≡ length (take r buffer'))
printed_within {L} {text} {trace} {buffer} {buffer'} {r} p =
    let within : r ≤ length buffer' = omega (arith, p.written_is, written_within (fitting (length buffer) (program L text trace)) buffer buffer' p.buffer_is) in
    (within, sym (length-take-le r buffer' within))
