-- Over answers that the check wrote, every figure is that of the exact numbers of settings, the sum among them. Assumes nothing.
use mathlib.Core.Path.{◌≡◌, refl, sym, ap, ap₂, ◌∙◌}
use mathlib.Core.Bool.{Bool, true, false, ◌&&◌, cond}
use mathlib.Core.List.{List, [], ◌∷◌, ◌++◌, map}
use Prim.Native.Nat.{ℕ, suc, ◌+◌, ◌*◌, ◌/◌, ◌%◌}
use native.Mathlib.Omega.{arith}
use native.Mathlib.Nat.{mul-div_cancel, mul-mod_left}
use lib.Dec.{leb, eqb}
use lib.ListN.{length, length-map}
use borrow.Author.Tests.{ne_eqb}
use Rattle.std.specs.Prelude.{Ok, Err}
use Rattle.meaning.specs.declared.Verdict.{Verdict}
use Rattle.meaning.specs.declared.Verdict.TheVariants.{Accepted, Refused}
use Rattle.meaning.specs.Lists.{sum}
use Rattle.meaning.specs.Limits.{small}
use Rattle.meaning.specs.Read.{Read, ok, bad}
use Rattle.meaning.specs.Form.{Cnf, formula}
use Rattle.meaning.specs.Verdict.{by_settings, check}
use Rattle.meaning.specs.Promise.{answer_places, answer_of, number_of}
use Rattle.meaning.proofs.Total.{total_is}
use Rattle.release.specs.declared.Figures.{Figures}
use Rattle.release.specs.declared.ReportFault.TheVariants.{AnswersForm, SumLarge}
use Rattle.release.specs.Report.{Totals, Answer, answer, answers_from, answers_of, accepted, sum_of, figures_of, well_formed, most_sum, most_answers, report_over, report_of}
use Rattle.release.specs.Released.{Pack, says, written, accepts, accepted_packs, count_of, settings_of, release_settings, exact_answers}
use Rattle.release.proofs.More.{all_told}
use Rattle.release.proofs.Named.{Named, check_named}

-- ---- one pack

-- a malformed formula is not accepted
malformed : (p : Pack) {k place : ℕ} → formula small p.formula ≡ bad place
    → (check by_settings small p.places p.formula p.trace).says ≡ Accepted k → ⊥
unfolding check
malformed p e q = let r = rw e at q in let z : ◌≡◌ {A = ℕ} 0 1 = cc in omega arith

-- an accepted total is the number of settings
settings_are : (p : Pack) (k : ℕ) → says p ≡ Accepted k → k ≡ settings_of p
unfolding says settings_of
settings_are p k q = go (formula small p.formula) refl
  where
    go : (r : Read Cnf) → formula small p.formula ≡ r → k ≡ count_of r
    go (bad place) e = absurd (malformed p e q)
    go (ok f e) i = total_is small p.places p.formula p.trace i q

says_named : (p : Pack) → Named (says p)
unfolding says
says_named p = check_named by_settings small p.places p.formula p.trace

-- the answer of a verdict in front of others
answer_first : (v : Verdict) {m : ℕ} → ((k : ℕ) → v ≡ Accepted k → k ≡ m) → (k n : ℕ) (ws : List ℕ)
    → answers_from k (suc n) (answer_of v ++ ws) ≡ answer k (number_of v) (cond (accepts v) m 0) ∷ answers_from (suc k) n ws
answer_first (Accepted total) h k n ws = ap (λ t. answer k 0 t ∷ answers_from (suc k) n ws) (h total refl)
answer_first (Refused number place) h k n ws = refl

-- it has that many places
answer_length : (v : Verdict) (ws : List ℕ) → length (answer_of v ++ ws) ≡ answer_places + length ws
answer_length (Accepted total) ws = omega arith
answer_length (Refused number place) ws = omega arith

-- ---- the release

written_length : (ps : List Pack) → length (written ps) ≡ length ps * answer_places
written_length [] = refl
written_length (p ∷ ps) = omega (arith, answer_length (says p) (written ps), written_length ps)

written_count : (ps : List Pack) → length (written ps) / answer_places ≡ length ps
written_count ps = ap (λ n. n / answer_places) (written_length ps) ∙ mul-div_cancel (length ps) {n = answer_places} (omega arith)

answers_exact : (k : ℕ) (ps : List Pack) → answers_from k (length ps) (written ps) ≡ exact_answers k ps
answers_exact k [] = refl
answers_exact k (p ∷ ps) =
    answer_first (says p) (settings_are p) k (length ps) (written ps)
    ∙ ap (λ l. answer k (number_of (says p)) (cond (accepts (says p)) (settings_of p) 0) ∷ l) (answers_exact (suc k) ps)

-- every answer has the exact number of settings for its total
pub released_answers : (ps : List Pack) → answers_of (written ps) ≡ exact_answers 1 ps
released_answers ps = ap (λ n. answers_from 1 n (written ps)) (written_count ps) ∙ answers_exact 1 ps

exact_step : (v : Verdict) (k : ℕ) (p : Pack) (xs : List Answer) (qs : List Pack) → Named v → map (λ a. a.total) (accepted xs) ≡ map settings_of qs
    → map (λ a. a.total) (accepted (answer k (number_of v) (cond (accepts v) (settings_of p) 0) ∷ xs)) ≡ map settings_of (cond (accepts v) (p ∷ qs) qs)
exact_step (Accepted total) k p xs qs n e = ap (λ l. settings_of p ∷ l) e
exact_step (Refused number place) k p xs qs n e = rw (ne_eqb number 0 (λ z. omega arith)) e

exact_totals : (k : ℕ) (ps : List Pack) → map (λ a. a.total) (accepted (exact_answers k ps)) ≡ map settings_of (accepted_packs ps)
exact_totals k [] = refl
exact_totals k (p ∷ ps) = exact_step (says p) k p (exact_answers (suc k) ps) (accepted_packs ps) (says_named p) (exact_totals (suc k) ps)

-- the accepted totals are the settings of the accepted packs
pub released_totals : (ps : List Pack) → map (λ a. a.total) (accepted (answers_of (written ps))) ≡ map settings_of (accepted_packs ps)
released_totals ps = ap (λ xs. map (λ a. a.total) (accepted xs)) (released_answers ps) ∙ exact_totals 1 ps

-- the exact sum is that of the settings of the accepted packs
pub released_sum : (ps : List Pack) → sum_of (answers_of (written ps)) ≡ release_settings ps
released_sum ps = ap sum (released_totals ps)

-- ---- the report over it

-- what a report says of a release
pub record Released (ps : List Pack) (f : Figures) : Type 0 where
  pub figures_are : f ≡ figures_of (exact_answers 1 ps)
  pub accepted_is : f.accepted ≡ length (accepted_packs ps)
  pub all_told_is : f.accepted + f.refused ≡ length ps
  pub sum_is : f.sum ≡ release_settings ps

written_formed : (ps : List Pack) → well_formed (written ps) ≡ (leb 1 (length ps) && leb (length ps) most_answers)
written_formed ps =
    ap₂ (λ r n. eqb r 0 && leb 1 n && leb n most_answers)
    (ap (λ n. n % answer_places) (written_length ps) ∙ mul-mod_left (length ps) answer_places)
    (written_count ps)

-- the report of answers, from what is tested before
abbrev pub report_by : Bool → ℕ → List Answer → Totals
report_by formed s xs = cond formed (cond (leb s most_sum) (Ok (figures_of xs)) (Err SumLarge)) (Err AnswersForm)

-- 1 to 1,000 packs are never refused with 33, and with 34 only where the settings together pass 2^64 − 1
pub released_report : (ps : List Pack)
    → report_of (written ps) ≡ report_by (leb 1 (length ps) && leb (length ps) most_answers) (release_settings ps) (exact_answers 1 ps)
unfolding report_of report_over
released_report ps =
    ap (λ b. report_by b (sum_of (answers_of (written ps))) (answers_of (written ps))) (written_formed ps)
    ∙ ap₂ (report_by (leb 1 (length ps) && leb (length ps) most_answers)) (released_sum ps) (released_answers ps)

given_only : (formed b : Bool) {f g : Figures}
    → Ok f ≡ cond formed (cond b (Ok g) (Err SumLarge)) (Err AnswersForm) → f ≡ g
given_only true true e = cc
given_only true false e = cc
given_only false b e = cc

exact_length : (k : ℕ) (ps : List Pack) → length (exact_answers k ps) ≡ length ps
exact_length k [] = refl
exact_length k (p ∷ ps) = ap suc (exact_length (suc k) ps)

-- a report that is not refused has these figures
pub released : (ps : List Pack) {f : Figures} → report_of (written ps) ≡ Ok f → Released ps f
released ps {f} e =
    let g : f ≡ figures_of (exact_answers 1 ps) =
    given_only (leb 1 (length ps) && leb (length ps) most_answers) (leb (release_settings ps) most_sum) (sym e ∙ released_report ps) in
    let kept_length : length (accepted (exact_answers 1 ps)) ≡ length (accepted_packs ps) =
    sym (length-map (accepted (exact_answers 1 ps)) (λ a. a.total)) ∙ ap length (exact_totals 1 ps) ∙ length-map (accepted_packs ps) settings_of in
    record {
      figures_are = g;
      accepted_is = ap (λ h. h.accepted) g ∙ kept_length;
      all_told_is = ap (λ h. h.accepted + h.refused) g ∙ all_told (exact_answers 1 ps) ∙ exact_length 1 ps;
      sum_is = ap (λ h. h.sum) g ∙ ap sum (exact_totals 1 ps);
    }
