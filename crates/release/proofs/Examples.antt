-- Reports over short lists of answers, computed from the definitions. Assumes nothing.
use mathlib.Core.Path.{◌≡◌, refl}
use mathlib.Core.List.{List, [], ◌∷◌, ◌++◌}
use Prim.Native.Nat.{ℕ, ◌+◌, ◌*◌}
use lib.ListN.{replicate, set}
use Rattle.std.specs.Prelude.{Ok, Err}
use Rattle.meaning.specs.declared.Verdict.{Verdict}
use Rattle.meaning.specs.declared.Verdict.TheVariants as verdict
use Rattle.meaning.specs.Promise.{answer_places, answer_of}
use Rattle.release.specs.declared.ReportFault.TheVariants.{AnswersForm, SumLarge}
use Rattle.release.specs.Report.{Totals, fault_number, total_place, most_sum, most_answers, smallest_of, largest_of, report_over, report_of}

-- the answers of verdicts, one after another
abbrev said : List Verdict → List ℕ
said [] = []
said (v ∷ vs) = answer_of v ++ said vs

abbrev figures : ℕ → ℕ → ℕ → ℕ → ℕ → ℕ → ℕ → Totals
figures accepted refused smallest smallest_place largest largest_place sum = Ok (record {
  accepted = accepted;
  refused = refused;
  smallest = record { total = smallest; place = smallest_place };
  largest = record { total = largest; place = largest_place };
  sum = sum;
})

pub record Examples : Type 0 where
  -- the first place of each, and a refused answer between them
  pub first_places : report_of (said (verdict.Accepted 5 ∷ verdict.Refused 25 3 ∷ verdict.Accepted 2 ∷ verdict.Accepted 5 ∷ verdict.Accepted 2 ∷ [])) ≡ figures 4 1 2 3 5 1 14
  -- none is accepted
  pub none_accepted : report_of (said (verdict.Refused 25 3 ∷ verdict.Refused 12 0 ∷ [])) ≡ figures 0 2 0 0 0 0 0
  -- an accepted total may be 0
  pub zero_accepted : report_of (said (verdict.Refused 25 3 ∷ verdict.Accepted 0 ∷ [])) ≡ figures 1 1 0 2 0 2 0
  -- a refused answer's total is not read
  pub refused_total : report_of (set (said (verdict.Refused 25 3 ∷ verdict.Accepted 4 ∷ [])) total_place 9) ≡ figures 1 1 4 2 4 2 4
  -- no answers, and a slice that isn't whole answers
  pub no_answers : report_of [] ≡ Err AnswersForm
  pub not_whole : report_of (said (verdict.Accepted 5 ∷ []) ++ 0 ∷ []) ≡ Err AnswersForm
  -- a thousand answers and one more
  pub most_answers_report : report_of (replicate (most_answers * answer_places) 0) ≡ figures 1000 0 0 1 0 1 0
  pub too_many : report_of (replicate ((most_answers + 1) * answer_places) 0) ≡ Err AnswersForm
  -- the largest sum and one more; 33 comes before 34
  pub largest_sum : report_of (said (verdict.Accepted most_sum ∷ verdict.Accepted 0 ∷ [])) ≡ figures 2 0 0 2 most_sum 1 most_sum
  pub too_large : report_of (said (verdict.Accepted most_sum ∷ verdict.Accepted 1 ∷ [])) ≡ Err SumLarge
  pub form_first : report_of (said (verdict.Accepted most_sum ∷ verdict.Accepted 1 ∷ []) ++ 0 ∷ []) ≡ Err AnswersForm
  -- the refusals by their numbers
  pub form_number : fault_number AnswersForm ≡ 33
  pub large_number : fault_number SumLarge ≡ 34

pub examples : Examples
unfolding report_of report_over smallest_of largest_of
examples = record {
  first_places = refl;
  none_accepted = refl;
  zero_accepted = refl;
  refused_total = refl;
  no_answers = refl;
  not_whole = refl;
  most_answers_report = refl;
  too_many = refl;
  largest_sum = refl;
  too_large = refl;
  form_first = refl;
  form_number = refl;
  large_number = refl;
}
