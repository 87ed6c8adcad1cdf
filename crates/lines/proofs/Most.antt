-- The program prints no more than its buffer holds: at most 1,024 claim lines of 38 bytes and a last line of 53. Assumes nothing.
use mathlib.Core.Path.{◌≡◌, refl}
use mathlib.Core.Bool.{Bool, true, false, cond}
use mathlib.Core.List.{List, [], ◌∷◌, ◌++◌}
use mathlib.Core.Option.{Option, none, some}
use Prim.Native.Nat.{ℕ, zero, suc, ◌+◌, ◌*◌, ◌/◌, ◌%◌, ◌^◌, ◌≤◌, ◌<◌}
use native.Mathlib.Nat.{pow-suc, div-lt_iff_lt-mul}
use native.Mathlib.Omega.{arith}
use borrow.Author.Tests.{lt-ltb, ltb-false}
use lib.Dec.{ltb, eqb, lit<}
use lib.IntN.{ℤ}
use lib.ListN.{length, length-append, length-map}
use Rattle.meaning.specs.declared.Verdict.{Verdict}
use Rattle.meaning.specs.declared.Verdict.TheVariants.{Accepted, Refused}
use Rattle.meaning.specs.Lists.{first_failing}
use Rattle.meaning.specs.Meaning.{Formula, Claim}
use Rattle.meaning.specs.Limits.{Limits, small}
use Rattle.meaning.specs.Read.{Read, ok, bad}
use Rattle.meaning.specs.Form.{Line, Entry, Trace, formula, trace}
use Rattle.meaning.specs.Verdict.{Way, Rule, Counted, Outcome, by_settings, after, go_on, claim_of, rule_of, table, counted, judge, when_read, check}
use Rattle.meaning.specs.Text.{Text, sound, faulty, dimacs}
use Rattle.meaning.specs.Lines.{digits, count_lines, last_line, words_of, text_lines, program}
use Rattle.render.specs.Shown.{shown, named, claim_line, claim_lines, verdict_line}
use Rattle.render.proofs.Digits.{few_digits, few_more}
use Rattle.render.proofs.Lines.{lines_are}

-- ---- digits

fewer : (j k n : ℕ) → n < 10 ^ suc j → length (digits k n) ≤ suc j
fewer j zero n h = omega arith
fewer zero (suc k) n h = rw (lt-ltb n 10 h) (omega arith)
fewer (suc j) (suc k) n h =
    let e : 10 ^ suc (suc j) ≡ 10 ^ suc j * 10 = pow-suc 10 (suc j) in
    let less : n < 10 ^ suc j * 10 = omega arith in
    few_more (ltb n 10) (digits k (n / 10)) (48 + n % 10) (suc j) (fewer j k (n / 10) ((div-lt_iff_lt-mul {k = 10} {x = n} {y = 10 ^ suc j} (lit< tt)).1 less))

four_digits : (n : ℕ) → n < 10000 → length (shown n) ≤ 4
unfolding shown
four_digits n h = fewer 3 20 n h

-- ---- lines

claim_short : (k c : ℕ) → k < 10000 → length (claim_line k c) ≤ 38
unfolding named
claim_short k c h = simp length-append (omega (arith, four_digits k h, few_digits c))

claims_short : (k : ℕ) (cs : List ℕ) → k + length cs ≤ 10000 → length (claim_lines k cs) ≤ 38 * length cs
claims_short k [] h = omega arith
claims_short k (c ∷ cs) h = rw (length-append (claim_line k c) (claim_lines (suc k) cs)) (omega (arith, claim_short k c (omega arith), claims_short (suc k) cs (omega arith)))

verdict_short : (v : Verdict) → length (verdict_line v) ≤ 53
unfolding named
verdict_short (Accepted total) = simp length-append (omega (arith, few_digits total))
verdict_short (Refused number place) = simp length-append (omega (arith, few_digits number, few_digits place))

-- they fit the program's buffer
pub record Short (lines : List ℕ) : Type 0 where
  pub few : length lines ≤ 38965

lines_short : (counts : List ℕ) (v : Verdict) → length counts ≤ 1024 → Short (count_lines 1 counts ++ last_line v)
lines_short counts v h =
    record {
      few = rw (lines_are counts v, length-append (claim_lines 1 counts) (verdict_line v)) (omega (arith, claims_short 1 counts (omega arith), verdict_short v));
    }

-- ---- counts

at_most_one : (way : Way) (L : Limits) (n : ℕ) (φ : Formula) (c : Claim) (r : Option Rule) → length (counted way L n φ c r) ≤ 1
at_most_one way L n φ c none = omega arith
at_most_one way L n φ c (some r) = omega arith

few_judged : (way : Way) (L : Limits) (n : ℕ) (φ : Formula) (t : Trace) (before : List Counted) (ls : List (Entry Line)) → length (judge way L n φ t before ls).counts ≤ length before + length ls
unfolding judge
few_judged way L n φ t before [] = omega (arith, length-map before (λ e. e.count))
few_judged way L n φ t before (l ∷ ls) =
    let c = claim_of t l.what in
    let r = rule_of t before l.what in
    let more = counted way L n φ c r in
    go (first_failing (table way L n φ c r)) (judge way L n φ t (before ++ more) ls) (omega (arith, few_judged way L n φ t (before ++ more) ls, length-append before more, at_most_one way L n φ c r))
  where
    go : (o : Option ℕ) (rest : Outcome) → length rest.counts ≤ length before + suc (length ls) → length (go_on before o rest).counts ≤ length before + suc (length ls)
    go (some number) rest h = omega (arith, length-map before (λ e. e.count))
    go none rest h = h

few_read : {A : Type 0} (number places : ℕ) (r : Read A) (f : A → Outcome) → ((a : A) → length (f a).counts ≤ places) → length (when_read number r f).counts ≤ places
few_read number places (bad place) f h = omega arith
few_read number places (ok a e) f h = h a

few_counts : (way : Way) (L : Limits) (places : ℕ) (fw tw : List ℤ) → length (check way L places fw tw).counts ≤ places
unfolding check
few_counts way L places fw tw =
    few_read 11 places (formula L fw) _ (λ f.
    few_read 12 places (trace L f.variables (length f.clauses) tw) _ (λ t.
    go (length t.claims) (judge way L f.variables f.clauses t [] t.claims) (omega (arith, few_judged way L f.variables f.clauses t [] t.claims))))
  where
    go : (k : ℕ) (o : Outcome) → length o.counts ≤ k → length (cond (ltb places k) (after [] (Refused 13 k)) o).counts ≤ places
    go k o h = by (ltb places k) refl
      where
        by : (b : Bool) → ltb places k ≡ b → length (cond b (after [] (Refused 13 k)) o).counts ≤ places
        by true e = omega arith
        by false e = omega (arith, ltb-false places k e)

-- ---- the program

refusal_short : (number place : ℕ) → Short (last_line (Refused number place))
refusal_short number place = lines_short [] (Refused number place) (omega arith)

either : (b : Bool) {xs ys : List ℕ} → Short xs → Short ys → Short (cond b xs ys)
either true p q = p
either false p q = q

text_short : (d : Text (List ℤ)) (trace : List ℕ) → Short (text_lines small d trace)
text_short (sound fw) trace =
    let o = check by_settings small 1024 fw (words_of trace) in
    either (ltb 65534 (length trace)) (refusal_short 12 32767)
    (either (eqb (length trace % 2) 1) (refusal_short 12 (length trace / 2)) (lines_short o.counts o.says (few_counts by_settings small 1024 fw (words_of trace))))
text_short (faulty number place) trace = refusal_short number place

pub program_short : (text trace : List ℕ) → Short (program small text trace)
unfolding program
program_short text trace = text_short (dimacs small 32767 text) trace
