-- A turn of the loop over the answers. Assumes nothing.
use mathlib.Core.Path.{◌≡◌, refl, sym, ap, ap₂, ◌∙◌}
use mathlib.Core.Bool.{Bool, true, false, cond}
use mathlib.Core.List.{List, [], ◌∷◌, ◌++◌, map}
use Prim.Native.Nat.{ℕ, zero, suc, ◌+◌, ◌*◌, ◌≤◌, ◌<◌}
use native.Mathlib.Omega.{arith}
use lib.Dec.{leb}
use lib.ListN.{length, get_or, drop}
use lib.Seq.{get_or-drop, get_or-take}
use borrow.Author.Tests.{leb-true, leb-false}
use Rattle.std.specs.Prelude.{Ok, Err}
use Rattle.std.specs.Simd.{first_chunks}
use Rattle.meaning.specs.Lists.{sum}
use Rattle.meaning.specs.Promise.{answer_places}
use Rattle.release.specs.declared.Figures.{Figures}
use Rattle.release.specs.declared.ReportFault.{ReportFault}
use Rattle.release.specs.declared.ReportFault.TheVariants.{SumLarge}
use Rattle.release.specs.Report.{Totals, Answer, answer, number_place, total_place, answers_from, is_accepted, accepted, sum_of, figures_of, most_sum, report_over}
use Rattle.release.proofs.More.{all_told, given_is, too_large}

pub length_answers : (k n : ℕ) (ws : List ℕ) → length (answers_from k n ws) ≡ n
length_answers k zero ws = refl
length_answers k (suc n) ws = ap suc (length_answers (suc k) n (drop answer_places ws))

-- what the code reads of an answer, behind n others
abbrev read_at : ℕ → ℕ → List ℕ → Answer
read_at place n ws = answer place (get_or ws (answer_places * n + number_place) 0) (get_or ws (answer_places * n + total_place) 0)

read_drop : (place place' n : ℕ) (ws : List ℕ) → place ≡ place' → read_at place n (drop answer_places ws) ≡ read_at place' (suc n) ws
read_drop place place' n ws e =
    let at : (j : ℕ) → get_or (drop answer_places ws) (answer_places * n + j) 0 ≡ get_or ws (answer_places * suc n + j) 0 =
    λ j. get_or-drop answer_places ws (answer_places * n + j) 0 ∙ ap (λ i. get_or ws i 0) (omega arith) in
    cc (e, at number_place, at total_place)

answers_snoc : (k n : ℕ) (ws : List ℕ) → answers_from k (suc n) ws ≡ answers_from k n ws ++ read_at (k + n) n ws ∷ []
answers_snoc k zero ws = ap (λ p. read_at p 0 ws ∷ []) (omega arith)
answers_snoc k (suc n) ws =
    let rest = drop answer_places ws in
    ap (λ l. read_at k 0 ws ∷ l)
    (answers_snoc (suc k) n rest ∙ ap (λ a. answers_from (suc k) n rest ++ a ∷ []) (read_drop (suc k + n) (k + suc n) n ws (omega arith)))

-- the first i + 1 answers
answers_more : (i : ℕ) (ws : List ℕ) → answers_from 1 i ws ++ read_at (i + 1) i ws ∷ [] ≡ answers_from 1 (i + 1) ws
answers_more i ws =
    let e : i + 1 ≡ suc i = omega arith in
    let f : i + 1 ≡ 1 + i = omega arith in
    ap (λ p. answers_from 1 i ws ++ read_at p i ws ∷ []) f ∙ sym (answers_snoc 1 i ws) ∙ ap (λ n. answers_from 1 n ws) (sym e)

abbrev totals : List Answer → ℕ
totals xs = sum (map (λ a. a.total) xs)

-- the sum of the first i is not above that of the first n
sum_grows : (k i n : ℕ) (ws : List ℕ) → i ≤ n → sum_of (answers_from k i ws) ≤ sum_of (answers_from k n ws)
sum_grows k zero n ws h = omega arith
sum_grows k (suc i) zero ws h = absurd (omega arith)
sum_grows k (suc i) (suc n) ws h =
    let rest = drop answer_places ws in
    go (is_accepted (read_at k 0 ws)) (accepted (answers_from (suc k) i rest)) (accepted (answers_from (suc k) n rest)) (sum_grows (suc k) i n rest (omega arith))
  where
    go : (b : Bool) (us vs : List Answer) → totals us ≤ totals vs → totals (cond b (read_at k 0 ws ∷ us) us) ≤ totals (cond b (read_at k 0 ws ∷ vs) vs)
    go true us vs e = omega arith
    go false us vs e = e

-- what a report says back
given_back : (b : Bool) {f g : Figures} {s : ℕ} → leb s most_sum ≡ b → Ok f ≡ cond b (Ok g) (Err SumLarge) → (f ≡ g) × (s ≤ most_sum)
given_back true {s = s} l e = (cc, leb-true s most_sum l)
given_back false l e = cc

refused_back : (b : Bool) (g : Figures) {s : ℕ} {fault : ReportFault} → leb s most_sum ≡ b → Err fault ≡ cond b (Ok g) (Err SumLarge) → (fault ≡ SumLarge) × (most_sum < s)
refused_back true g l e = cc
refused_back false g {s = s} l e = (cc, leb-false s most_sum l)

-- ---- the loop

-- the figures of the first i answers
pub record Over (ws : List ℕ) (i : ℕ) (f : Figures) : Type 0 where
  pub figures_are : f ≡ figures_of (answers_from 1 i ws)
  pub exact : f.sum ≤ most_sum

pub over_few : {ws : List ℕ} {i : ℕ} {f : Figures} → Over ws i f → f.accepted + f.refused ≡ i
over_few {ws} {i} o = ap (λ f. f.accepted + f.refused) o.figures_are ∙ all_told (answers_from 1 i ws) ∙ length_answers 1 i ws

-- what stands in the chunk behind i others
chunk_at : (n i j : ℕ) (ws : List ℕ) → i < n → j < answer_places → get_or (get_or (first_chunks answer_places n ws) i []) j 0 ≡ get_or ws (answer_places * i + j) 0
chunk_at zero i j ws h k = absurd (omega arith)
chunk_at (suc n) zero j ws h k = get_or-take answer_places ws j 0 (omega arith) ∙ ap (λ m. get_or ws m 0) (omega arith)
chunk_at (suc n) (suc i) j ws h k =
    chunk_at n i j (drop answer_places ws) (omega arith) k
    ∙ get_or-drop answer_places ws (answer_places * i + j) 0
    ∙ ap (λ m. get_or ws m 0) (omega arith)

-- what the report with one more answer promises, where the answers stand in chunks
module _ (count : ℕ) {ws : List ℕ} {cs : List (List ℕ)} {i : ℕ} {f : Figures} {r : Totals} (o : Over ws i f) (h : i < count)
    (cut : cs ≡ first_chunks answer_places count ws)
    (said : (xs : List Answer) → f ≡ figures_of xs → r ≡ report_over (xs ++ answer (i + 1) (get_or (get_or cs i []) number_place 0) (get_or (get_or cs i []) total_place 0) ∷ [])) where
  next : r ≡ report_over (answers_from 1 (i + 1) ws)
  next =
      let at : (j : ℕ) → j < answer_places → get_or (get_or cs i []) j 0 ≡ get_or ws (answer_places * i + j) 0 =
      λ j k. ap (λ cs. get_or (get_or cs i []) j 0) cut ∙ chunk_at count i j ws h k in
      said (answers_from 1 i ws) o.figures_are
      ∙ ap₂ (λ k t. report_over (answers_from 1 i ws ++ answer (i + 1) k t ∷ [])) (at number_place (omega arith)) (at total_place (omega arith))
      ∙ ap report_over (answers_more i ws)

  pub over_more : {more : Figures} → r ≡ Ok more → Over ws (i + 1) more
  unfolding report_over
  over_more {more} e =
      let b = given_back (leb (sum_of (answers_from 1 (i + 1) ws)) most_sum) refl (sym e ∙ next) in
      record { figures_are = b.0; exact = rw b.0 b.1 }

  pub over_refused : {fault : ReportFault} → r ≡ Err fault → Err fault ≡ report_over (answers_from 1 count ws)
  unfolding report_over
  over_refused e =
      let xs = answers_from 1 (i + 1) ws in
      let b = refused_back (leb (sum_of xs) most_sum) (figures_of xs) refl (sym e ∙ next) in
      rw b.0 (too_large (answers_from 1 count ws) (omega (arith, b.1, sum_grows 1 (i + 1) count ws (omega arith))))

pub over_all : {ws : List ℕ} {i : ℕ} {f : Figures} (count : ℕ) → Over ws i f → i ≡ count → Ok f ≡ report_over (answers_from 1 count ws)
over_all {ws} {i} count o e = given_is (answers_from 1 i ws) o.figures_are o.exact ∙ ap (λ n. report_over (answers_from 1 n ws)) e
