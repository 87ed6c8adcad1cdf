-- Release totals, request E1: a report over the answers of the host call, which stand one after another in a lent slice.
use Rattle.std.specs.Prelude.{◌≡◌, Bool, not, ◌&&◌, cond, List, [], ◌∷◌, map, ℕ, zero, suc, ◌/◌, ◌%◌, eqb, leb, length, get_or, drop, Result, Ok, Err}
use Rattle.meaning.specs.Lists.{all, keep, how_many, sum}
use Rattle.meaning.specs.Promise.{over, answer_places, unless_short}
use Rattle.release.specs.declared.Placed.{Placed}
use Rattle.release.specs.declared.Figures.{Figures}
use Rattle.release.specs.declared.ReportFault.{ReportFault}
use Rattle.release.specs.declared.ReportFault.TheVariants.{AnswersForm, SumLarge}

-- a report is over 1 to 1,000 answers
abbrev pub most_answers : ℕ
most_answers = 1000

-- its sum is at most 2^64 − 1
abbrev pub most_sum : ℕ
most_sum = 18446744073709551615

-- refusal: no answers, too many, or a slice that isn't whole answers
abbrev pub answers_form : ℕ
answers_form = 33

-- refusal: the sum passes 2^64 − 1
abbrev pub sum_large : ℕ
sum_large = 34

-- the number of a refusal
abbrev pub fault_number : ReportFault → ℕ
fault_number AnswersForm = answers_form
fault_number SumLarge = sum_large

-- what is answered: the figures, or why there are none
abbrev pub Totals : Type 0
Totals = Result Figures ReportFault

-- ---- the answers

-- of each answer only the refusal number and the total are read, in these of its places, from 0
abbrev pub number_place : ℕ
number_place = 0

abbrev pub total_place : ℕ
total_place = 2

-- an answer with its place among the others, from 1
pub record Answer : Type 0 where
  pub place : ℕ
  pub number : ℕ
  pub total : ℕ

-- an answer from its parts
abbrev pub answer : ℕ → ℕ → ℕ → Answer
answer place number total = record { place = place; number = number; total = total }

-- so many answers one after another, numbered from k
abbrev pub answers_from : ℕ → ℕ → List ℕ → List Answer
answers_from k zero ws = []
answers_from k (suc n) ws = answer k (get_or ws number_place 0) (get_or ws total_place 0) ∷ answers_from (suc k) n (drop answer_places ws)

-- the answers of a slice
abbrev pub answers_of : List ℕ → List Answer
answers_of ws = answers_from 1 (length ws / answer_places) ws

-- an answer is accepted when the number is 0
abbrev pub is_accepted : Answer → Bool
is_accepted a = eqb a.number 0

-- the accepted ones: refused answers add nothing to sum, smallest or largest
abbrev pub accepted : List Answer → List Answer
accepted xs = keep is_accepted xs

-- ---- the figures

-- the total and the place of the first answer that passes the test, both 0 if none does
abbrev pub first_of : (Answer → Bool) → List Answer → Placed
first_of p [] = record { total = 0; place = 0 }
first_of p (a ∷ xs) = cond (p a) (record { total = a.total; place = a.place }) (first_of p xs)

-- the smallest total with its first place: no total is smaller
unfoldable pub smallest_of : List Answer → Placed
smallest_of xs = first_of (λ a. all (λ b. leb a.total b.total) xs) xs

-- the largest total with its first place: no total is larger
unfoldable pub largest_of : List Answer → Placed
largest_of xs = first_of (λ a. all (λ b. leb b.total a.total) xs) xs

-- the exact sum
abbrev pub sum_of : List Answer → ℕ
sum_of xs = sum (map (λ a. a.total) (accepted xs))

-- all figures
abbrev pub figures_of : List Answer → Figures
figures_of xs = record {
  accepted = length (accepted xs);
  refused = how_many (λ a. not (is_accepted a)) xs;
  smallest = smallest_of (accepted xs);
  largest = largest_of (accepted xs);
  sum = sum_of xs;
}

-- ---- the report

-- whole answers, at least one and not too many
abbrev pub well_formed : List ℕ → Bool
well_formed ws = eqb (length ws % answer_places) 0 && leb 1 (length ws / answer_places) && leb (length ws / answer_places) most_answers

-- the report over answers: refused when the sum passes 2^64 − 1
unfoldable pub report_over : List Answer → Totals
report_over xs = cond (leb (sum_of xs) most_sum) (Ok (figures_of xs)) (Err SumLarge)

-- the report over a slice: first it is to be well formed
unfoldable pub report_of : List ℕ → Totals
report_of ws = cond (well_formed ws) (report_over (answers_of ws)) (Err AnswersForm)

-- ---- the host's report: nine places

-- how many places a report has
abbrev pub report_places : ℕ
report_places = 9

-- refusal number (0 for none), place (always 0), accepted, refused, smallest, its first place, largest, its first place, sum
abbrev pub places_of : ℕ → Figures → List ℕ
places_of number f =
    number ∷ 0 ∷ f.accepted ∷ f.refused
    ∷ f.smallest.total ∷ f.smallest.place
    ∷ f.largest.total ∷ f.largest.place
    ∷ f.sum ∷ []

-- the figures of a refused report: all 0, as over no answers
abbrev pub reported : Totals → List ℕ
reported (Ok f) = places_of 0 f
reported (Err fault) = places_of (fault_number fault) (figures_of [])

-- the number that is returned
abbrev pub refusal_of : Totals → ℕ
refusal_of (Ok f) = 0
refusal_of (Err fault) = fault_number fault

-- the promise: the returned number and the whole report slice; further places stay, and a slice under nine is refused with 13
pub record HostedReport (answers report : List ℕ) (number : ℕ) (report' : List ℕ) : Type 0 where
  pub number_is : number ≡ unless_short report_places report 13 (refusal_of (report_of answers))
  pub report_is : report' ≡ unless_short report_places report report (over (reported (report_of answers)) report)
