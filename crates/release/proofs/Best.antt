-- The smallest and the largest total with one more answer: the one so far unless the new one beats it. Assumes nothing.
use mathlib.Core.Path.{◌≡◌, refl, sym, ap, subst, ◌∙◌}
use mathlib.Core.Logic.{⊎_elim}
use mathlib.Core.Bool.{Bool, cond}
use mathlib.Core.List.Memᴰ
use mathlib.Core.List.{List, [], ◌∷◌, ◌++◌, append_assoc}
use Prim.Native.Nat.{ℕ}
use native.Mathlib.Omega.{arith}
use lib.Dec.{T, leb, leb→le, le→leb}
use borrow.Author.Tests.{leb-false}
use Rattle.meaning.specs.Lists.{all}
use Rattle.meaning.proofs.Logic.{◌∈◌, all_get, all_put, test, is_true, is_false}
use Rattle.release.specs.declared.Placed.{Placed}
use Rattle.release.specs.Report.{Answer, first_of, smallest_of, largest_of}

-- an answer's total with its place
abbrev pub placed : Answer → Placed
placed a = record { total = a.total; place = a.place }

-- the first that passes is behind those that don't
first_passes : (p : Answer → Bool) (us vs : List Answer) (a : Answer) → ((b : Answer) → b ∈ us → T (p b) → ⊥) → T (p a) → first_of p (us ++ a ∷ vs) ≡ placed a
first_passes p [] vs a f t = rw (is_true (p a) t)
first_passes p (u ∷ us) vs a f t = rw (is_false (p u) (f u (Memᴰ.head refl))) (first_passes p us vs a (λ b m. f b (Memᴰ.tail m)) t)

in_middle : (us vs : List Answer) (a : Answer) → a ∈ (us ++ a ∷ vs)
in_middle [] vs a = Memᴰ.head refl
in_middle (u ∷ us) vs a = Memᴰ.tail (in_middle us vs a)

-- by any order of totals
module _ (le : ℕ → ℕ → Bool) (same : (k : ℕ) → T (le k k)) (trans : (k l m : ℕ) → T (le k l) → T (le l m) → T (le k m))
    (either : (k l : ℕ) → (T (le k l) → ⊥) → T (le l k)) where
  -- the first of the best
  abbrev best_of : List Answer → Placed
  best_of xs = first_of (λ a. all (λ b. le a.total b.total) xs) xs

  -- a is the first of the best: none before it is as good, and none at all is better
  record First (xs : List Answer) (a : Answer) : Type 0 where
    before : List Answer
    behind : List Answer
    split : xs ≡ before ++ a ∷ behind
    worse : (b : Answer) → b ∈ before → T (le b.total a.total) → ⊥
    best : (b : Answer) → b ∈ xs → T (le a.total b.total)

  first_is : {xs : List Answer} {a : Answer} → First xs a → best_of xs ≡ placed a
  first_is {xs} {a} f =
      let p : Answer → Bool = λ b. all (λ d. le b.total d.total) xs in
      let m : a ∈ xs = subst (λ l. a ∈ l) (sym f.split) (in_middle f.before f.behind a) in
      ap (first_of p) f.split
      ∙ first_passes p f.before f.behind a
      (λ b i t. f.worse b i (all_get (λ d. le b.total d.total) t m))
      (all_put (λ d. le a.total d.total) xs f.best)

  one : (a : Answer) → First (a ∷ []) a
  one a = record {
    before = [];
    behind = [];
    split = refl;
    worse = λ b m. absurd (elim m [ ]);
    best = λ b m. subst (λ d. T (le a.total d.total)) (sym (Memᴰ.eq_of_singleton m)) (same a.total);
  }

  -- a member of x ∷ xs is x or one of xs
  headed : {P : Answer → Type 0} {x : Answer} {xs : List Answer} → P x → ((b : Answer) → b ∈ xs → P b) → (b : Answer) → b ∈ (x ∷ xs) → P b
  headed {P} h t b (Memᴰ.head e) = subst P (sym e) h
  headed h t b (Memᴰ.tail m) = t b m

  -- there is one
  some : (x : Answer) (xs : List Answer) → (a : Answer) × First (x ∷ xs) a
  some x [] = (x, one x)
  some x (y ∷ ys) = go (some y ys)
    where
      go : ((a : Answer) × First (y ∷ ys) a) → (a : Answer) × First (x ∷ y ∷ ys) a
      go (a, f) =
          ⊎_elim
          (λ t. (
            x,
            record {
              before = [];
              behind = y ∷ ys;
              split = refl;
              worse = λ b m. absurd (elim m [ ]);
              best = headed (same x.total) (λ b m. trans x.total a.total b.total t (f.best b m));
            },
          ))
          (λ n. (
            a,
            record {
              before = x ∷ f.before;
              behind = f.behind;
              split = ap (λ l. x ∷ l) f.split;
              worse = headed n f.worse;
              best = headed (either x.total a.total n) f.best;
            },
          ))
          (test (le x.total a.total))

  -- a new one is not better
  stays : {xs : List Answer} {a : Answer} (x : Answer) → First xs a → T (le a.total x.total) → First (xs ++ x ∷ []) a
  stays {xs} {a} x f t = record {
    before = f.before;
    behind = f.behind ++ x ∷ [];
    split = ap (λ l. l ++ x ∷ []) f.split ∙ append_assoc f.before (a ∷ f.behind) (x ∷ []);
    worse = f.worse;
    best = λ b m. ⊎_elim (f.best b) (λ i. subst (λ d. T (le a.total d.total)) (sym (Memᴰ.eq_of_singleton i)) t) (Memᴰ.append_cases xs m);
  }

  -- a new one is better
  beaten : {xs : List Answer} {a x : Answer} → First xs a → (T (le a.total x.total) → ⊥) → First (xs ++ x ∷ []) x
  beaten {xs} {a} {x} f n = record {
    before = xs;
    behind = [];
    split = refl;
    worse = λ b m t. n (trans a.total b.total x.total (f.best b m) t);
    best = λ b m.
        ⊎_elim
        (λ i. trans x.total a.total b.total (either a.total x.total n) (f.best b i))
        (λ i. subst (λ d. T (le x.total d.total)) (sym (Memᴰ.eq_of_singleton i)) (same x.total))
        (Memᴰ.append_cases xs m);
  }

  pub best_first : (x : Answer) → best_of (x ∷ []) ≡ placed x
  best_first x = first_is (one x)

  pub best_more : (y : Answer) (ys : List Answer) (x : Answer) → best_of (y ∷ ys ++ x ∷ []) ≡ cond (le (best_of (y ∷ ys)).total x.total) (best_of (y ∷ ys)) (placed x)
  best_more y ys x = go (some y ys)
    where
      go : ((a : Answer) × First (y ∷ ys) a) → best_of (y ∷ ys ++ x ∷ []) ≡ cond (le (best_of (y ∷ ys)).total x.total) (best_of (y ∷ ys)) (placed x)
      go (a, f) =
          let e = first_is f in
          ⊎_elim
          (λ t. first_is (stays x f t) ∙ rw (e, is_true (le a.total x.total) t))
          (λ n. first_is (beaten f n) ∙ rw (e, is_false (le a.total x.total) n))
          (test (le a.total x.total))

-- ---- smallest and largest

leb_trans : (k l m : ℕ) → T (leb k l) → T (leb l m) → T (leb k m)
leb_trans k l m s t = le→leb k m (omega (arith, leb→le k l s, leb→le l m t))

leb_either : (k l : ℕ) → (T (leb k l) → ⊥) → T (leb l k)
leb_either k l n = le→leb l k (omega (arith, leb-false k l (is_false (leb k l) n)))

leb_same : (k : ℕ) → T (leb k k)
leb_same k = le→leb k k (omega arith)

pub smallest_first : (x : Answer) → smallest_of (x ∷ []) ≡ placed x
unfolding smallest_of
smallest_first x = best_first leb leb_same leb_trans leb_either x

pub smallest_more : (y : Answer) (ys : List Answer) (x : Answer) → smallest_of (y ∷ ys ++ x ∷ []) ≡ cond (leb (smallest_of (y ∷ ys)).total x.total) (smallest_of (y ∷ ys)) (placed x)
unfolding smallest_of
smallest_more = best_more leb leb_same leb_trans leb_either

pub largest_first : (x : Answer) → largest_of (x ∷ []) ≡ placed x
unfolding largest_of
largest_first x = best_first (λ k l. leb l k) leb_same (λ k l m s t. leb_trans m l k t s) (λ k l. leb_either l k) x

pub largest_more : (y : Answer) (ys : List Answer) (x : Answer) → largest_of (y ∷ ys ++ x ∷ []) ≡ cond (leb x.total (largest_of (y ∷ ys)).total) (largest_of (y ∷ ys)) (placed x)
unfolding largest_of
largest_more = best_more (λ k l. leb l k) leb_same (λ k l m s t. leb_trans m l k t s) (λ k l. leb_either l k)
