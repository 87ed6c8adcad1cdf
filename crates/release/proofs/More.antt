-- The figures with one more answer. Assumes nothing.
use mathlib.Core.Path.{◌≡◌, refl, sym, ap, ◌∙◌}
use mathlib.Core.Bool.{Bool, true, false, not, cond}
use mathlib.Core.List.{List, [], ◌∷◌, ◌++◌, map, append-nil}
use Prim.Native.Nat.{ℕ, suc, ◌+◌, ◌≤◌, ◌<◌}
use native.Mathlib.Omega.{arith}
use lib.Dec.{leb}
use lib.ListN.{length, length-append}
use borrow.Author.Tests.{le-leb, lt-leb}
use Rattle.std.specs.Prelude.{Ok, Err}
use Rattle.std.specs.Ordering.{nat_cmp, is_lt}
use Rattle.std.proofs.lemmas.Bool.Decides.{nat_tests}
use Rattle.meaning.specs.Lists.{all, keep, how_many, sum}
use Rattle.release.specs.declared.Placed.{Placed}
use Rattle.release.specs.declared.Figures.{Figures}
use Rattle.release.specs.declared.ReportFault.TheVariants.{SumLarge}
use Rattle.release.specs.Report.{Answer, answer, is_accepted, accepted, first_of, smallest_of, largest_of, sum_of, figures_of, most_sum, report_over}
use Rattle.release.proofs.Best.{placed, smallest_first, smallest_more, largest_first, largest_more}

module _ {X : Type 0} (p : X → Bool) (x : X) where
  -- one more to keep, or not
  kept_more : (b : Bool) (y : X) (l l' ks : List X) → l ≡ l' ++ ks → cond b (y ∷ l) l ≡ cond b (y ∷ l') l' ++ ks
  kept_more true y l l' ks e = ap (λ l. y ∷ l) e
  kept_more false y l l' ks e = e

  keep_more : (xs : List X) → keep p (xs ++ x ∷ []) ≡ keep p xs ++ keep p (x ∷ [])
  keep_more [] = refl
  keep_more (y ∷ ys) = kept_more (p y) y (keep p (ys ++ x ∷ [])) (keep p ys) (keep p (x ∷ [])) (keep_more ys)

  how_many_more : (xs : List X) → how_many p (xs ++ x ∷ []) ≡ how_many p xs + cond (p x) 1 0
  how_many_more [] = omega arith
  how_many_more (y ∷ ys) = omega (arith, how_many_more ys)

sum_more : (xs : List Answer) (x : Answer) → sum (map (λ a. a.total) (xs ++ x ∷ [])) ≡ sum (map (λ a. a.total) xs) + x.total
sum_more [] x = omega arith
sum_more (y ∷ ys) x = omega (arith, sum_more ys x)

same_figures : {a a' r r' s s' : ℕ} {u u' v v' : Placed} → a ≡ a' → r ≡ r' → u ≡ u' → v ≡ v' → s ≡ s'
    → ◌≡◌ {A = Figures} (record { accepted = a; refused = r; smallest = u; largest = v; sum = s })
    (record { accepted = a'; refused = r'; smallest = u'; largest = v'; sum = s' })
same_figures e f g h i = cc

-- ---- the smallest and the largest

-- the first where neither is below the other
pub unless_below : {X : Type 0} (k l : ℕ) (u v : X) → cond (is_lt (nat_cmp k l)) u v ≡ cond (leb l k) v u
unless_below k l u v = grind (arith, nat_tests)

-- the largest is one of the totals that are summed
first_within : (p : Answer → Bool) (xs : List Answer) → (first_of p xs).total ≤ sum (map (λ a. a.total) xs)
first_within p [] = omega arith
first_within p (a ∷ xs) = go (p a) (first_within p xs)
  where
    go : (b : Bool) → (first_of p xs).total ≤ sum (map (λ a. a.total) xs) → (cond b (record { total = a.total; place = a.place }) (first_of p xs)).total ≤ a.total + sum (map (λ a. a.total) xs)
    go true h = omega arith
    go false h = omega (arith, h)

pub largest_within : (xs : List Answer) → (largest_of (accepted xs)).total ≤ sum_of xs
unfolding largest_of
largest_within xs = first_within (λ a. all (λ b. leb b.total a.total) (accepted xs)) (accepted xs)

module _ (x : Answer) where
  smallest_one : (ys : List Answer) → length ys ≡ 0 → smallest_of (ys ++ x ∷ []) ≡ placed x
  smallest_one [] none = smallest_first x
  smallest_one (y ∷ ys) none = absurd (omega arith)

  largest_one : (ys : List Answer) → length ys ≡ 0 → largest_of (ys ++ x ∷ []) ≡ placed x
  largest_one [] none = largest_first x
  largest_one (y ∷ ys) none = absurd (omega arith)

  smallest_next : (ys : List Answer) → (length ys ≡ 0 → ⊥) → smallest_of (ys ++ x ∷ []) ≡ cond (leb (smallest_of ys).total x.total) (smallest_of ys) (placed x)
  smallest_next [] some = absurd (some refl)
  smallest_next (y ∷ ys) some = smallest_more y ys x

  largest_next : (ys : List Answer) → (length ys ≡ 0 → ⊥) → largest_of (ys ++ x ∷ []) ≡ cond (leb x.total (largest_of ys).total) (largest_of ys) (placed x)
  largest_next [] some = absurd (some refl)
  largest_next (y ∷ ys) some = largest_more y ys x

-- ---- all figures

module _ (xs : List Answer) where
  module _ (place total : ℕ) where
    abbrev new : Answer
    new = answer place 0 total

    abbrev this : Placed
    this = record { total = total; place = place }

    taken : accepted (xs ++ new ∷ []) ≡ accepted xs ++ new ∷ []
    taken = keep_more is_accepted new xs

    counted : length (accepted xs) + 1 ≡ length (accepted (xs ++ new ∷ []))
    counted = omega (arith, ap length taken, length-append (accepted xs) (new ∷ []))

    passed : how_many (λ a. not (is_accepted a)) xs ≡ how_many (λ a. not (is_accepted a)) (xs ++ new ∷ [])
    passed = omega (arith, how_many_more (λ a. not (is_accepted a)) new xs)

    pub summed : sum_of xs + total ≡ sum_of (xs ++ new ∷ [])
    summed = sym (ap (λ l. sum (map (λ a. a.total) l)) taken ∙ sum_more (accepted xs) new)

    -- an accepted answer after none
    pub accepted_first : length (accepted xs) ≡ 0
        → record { accepted = 1; refused = (figures_of xs).refused; smallest = this; largest = this; sum = (figures_of xs).sum + total } ≡ figures_of (xs ++ new ∷ [])
    accepted_first none =
        same_figures
        (omega (arith, counted))
        passed
        (sym (ap smallest_of taken ∙ smallest_one new (accepted xs) none))
        (sym (ap largest_of taken ∙ largest_one new (accepted xs) none))
        summed

    -- an accepted answer after others
    pub accepted_more : (length (accepted xs) ≡ 0 → ⊥)
        → record {
          accepted = (figures_of xs).accepted + 1;
          refused = (figures_of xs).refused;
          smallest = cond (leb (figures_of xs).smallest.total total) (figures_of xs).smallest this;
          largest = cond (leb total (figures_of xs).largest.total) (figures_of xs).largest this;
          sum = (figures_of xs).sum + total;
        }
        ≡ figures_of (xs ++ new ∷ [])
    accepted_more some =
        same_figures
        counted
        passed
        (sym (ap smallest_of taken ∙ smallest_next new (accepted xs) some))
        (sym (ap largest_of taken ∙ largest_next new (accepted xs) some))
        summed

  -- a refused answer
  pub refused_more : (a : Answer) → is_accepted a ≡ false
      → record {
        accepted = (figures_of xs).accepted;
        refused = (figures_of xs).refused + 1;
        smallest = (figures_of xs).smallest;
        largest = (figures_of xs).largest;
        sum = (figures_of xs).sum;
      }
      ≡ figures_of (xs ++ a ∷ [])
  refused_more a e =
      let l : accepted (xs ++ a ∷ []) ≡ accepted xs = keep_more is_accepted a xs ∙ rw e (append-nil (accepted xs)) in
      same_figures
      (ap length (sym l))
      (sym (how_many_more (λ b. not (is_accepted b)) a xs ∙ ap (λ b. how_many (λ a. not (is_accepted a)) xs + cond (not b) 1 0) e))
      (ap smallest_of (sym l))
      (ap largest_of (sym l))
      (ap (λ k. sum (map (λ a. a.total) k)) (sym l))

-- all answers are accepted or refused
pub all_told : (xs : List Answer) → (figures_of xs).accepted + (figures_of xs).refused ≡ length xs
all_told [] = refl
all_told (x ∷ xs) = go (is_accepted x) (all_told xs)
  where
    go : (b : Bool) → length (accepted xs) + how_many (λ a. not (is_accepted a)) xs ≡ length xs
        → length (cond b (x ∷ accepted xs) (accepted xs)) + (cond (not b) 1 0 + how_many (λ a. not (is_accepted a)) xs) ≡ suc (length xs)
    go true e = omega arith
    go false e = omega arith

-- ---- the report over answers

pub given_is : {f : Figures} (xs : List Answer) → f ≡ figures_of xs → f.sum ≤ most_sum → Ok f ≡ report_over xs
unfolding report_over
given_is xs e h = let s : sum_of xs ≤ most_sum = rw (ap (λ f. f.sum) e) at h in rw (le-leb (sum_of xs) most_sum s) (ap Ok e)

pub too_large : (xs : List Answer) → most_sum < sum_of xs → Err SumLarge ≡ report_over xs
unfolding report_over
too_large xs h = rw (lt-leb (sum_of xs) most_sum h)
