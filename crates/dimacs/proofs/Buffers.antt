-- A literal put in its place, and a clause written behind others. Assumes nothing.
use mathlib.Core.Path.{◌≡◌, refl, sym, ap, ap₂, ◌∙◌}
use mathlib.Core.List.{List, [], ◌∷◌, ◌++◌}
use Prim.Native.Nat.{ℕ, suc, ◌+◌, ◌-◌, ◌<◌, ◌≤◌}
use native.Mathlib.Omega.{arith}
use native.Mathlib.Numerals.{add-one}
use borrow.Rule.Slice.PartMut.{put_mid}
use lib.IntN.{ℤ, pos}
use lib.ListN.{length, get_or, take, drop, set, length-set, length-take, take-append-drop, drop_of_length-le}
use lib.Seq.{take-set-le, drop-set-lt, drop-cons, get_or-take, take-take, length-take-le, get_or-set_same, take-set-lt, take-suc-set, append_snoc, length-paste}
use Rattle.std.proofs.lemmas.Slice.{take-put_mid, put_mid-paste}
use Rattle.dimacs.specs.Formed.{Closed}
use Rattle.dimacs.specs.Clause.{Spliced}

put_mid_length : (a k : ℕ) (xs ys : List ℤ) → a + k ≤ length xs → length ys ≡ k → length (put_mid a k xs ys) ≡ length xs
put_mid_length a k xs ys h e = ap length (put_mid-paste a k xs ys ys k refl refl (sym e)) ∙ length-paste xs a ys k h (omega (arith, e))

-- ---- moving up

-- down to i, the literals of C stand one place higher in D
pub record Moved (C : List ℤ) (k i : ℕ) (D : List ℤ) : Type 0 where
  pub as_long : length D ≡ length C
  pub low : take i D ≡ take i C
  pub high : drop (i + 1) (take (k + 1) D) ≡ drop i (take k C)

cut_off : (l : List ℤ) (n : ℕ) → drop n (take n l) ≡ []
cut_off l n = let h : length (take n l) ≤ n = omega (arith, length-take n l) in drop_of_length-le (take n l) h

module _ (C : List ℤ) (k : ℕ) (h : k < length C) where
  pub moved_none : Moved C k k C
  moved_none = record { as_long = refl; low = refl; high = cut_off C (k + 1) ∙ sym (cut_off C k) }

  module _ {D : List ℤ} {i : ℕ} (m : Moved C k i D) where
    -- the first k + 1 places of D, and one of them set
    long : length (take (k + 1) D) ≡ k + 1
    long = length-take-le (k + 1) D (omega (arith, m.as_long))

    after_set : (x : ℤ) → i ≤ k → drop i (take (k + 1) (set D i x)) ≡ x ∷ drop i (take k C)
    after_set x hi =
        let l : i < length (take (k + 1) D) = omega (arith, long) in
        let l' : i < length (set (take (k + 1) D) i x) = omega (arith, long, length-set (take (k + 1) D) i x) in
        ap (drop i) (take-set-lt (k + 1) D i x (omega arith))
        ∙ drop-cons (set (take (k + 1) D) i x) i (pos 0) l'
        ∙ ap₂ ◌∷◌ (get_or-set_same (take (k + 1) D) i x (pos 0) l) (drop-set-lt (suc i) (take (k + 1) D) i x (omega arith) ∙ ap (λ n. drop n (take (k + 1) D)) (sym (add-one i)) ∙ m.high)

    module _ (lo : 0 < i) (hi : i ≤ k) where
      abbrev x : ℤ
      x = get_or D (i - 1) (pos 0)

      before : x ≡ get_or (take k C) (i - 1) (pos 0)
      before =
          sym (get_or-take i D (i - 1) (pos 0) (omega arith)) ∙ ap (λ l. get_or l (i - 1) (pos 0)) m.low ∙ get_or-take i C (i - 1) (pos 0) (omega arith)
          ∙ sym (get_or-take k C (i - 1) (pos 0) (omega arith))

      pub moved_more : Moved C k (i - 1) (set D i x)
      moved_more =
          let e : i - 1 + 1 ≡ i = omega arith in
          let f : suc (i - 1) ≡ i = omega arith in
          let l : i - 1 < length (take k C) = omega (arith, length-take-le k C (omega arith)) in
          record {
            as_long = length-set D i x ∙ m.as_long;
            low = take-set-le (i - 1) D i x (omega arith) ∙ sym (take-take (i - 1) i D (omega arith)) ∙ ap (take (i - 1)) m.low ∙ take-take (i - 1) i C (omega arith);
            high = rw e (after_set x hi ∙ ap₂ ◌∷◌ before (ap (λ n. drop n (take k C)) (sym f)) ∙ sym (drop-cons (take k C) (i - 1) (pos 0) l));
          }

    pub moved_set : (w : ℤ) → i ≤ k → Spliced C k i w (set D i w)
    moved_set w hi = record {
      as_long = length-set D i w ∙ m.as_long;
      literals =
          sym (take-append-drop i (take (k + 1) (set D i w)))
          ∙ ap₂ ◌++◌ (take-take i (k + 1) (set D i w) (omega arith) ∙ take-set-le i D i w (omega arith) ∙ m.low ∙ sym (take-take i k C hi)) (after_set w hi);
    }

-- ---- a clause that has ended

pub closed : (C W : List ℤ) (used : ℕ) → used + length C + 1 ≤ length W → {ys : List ℤ} → ys ≡ C → Closed C W used (put_mid (used + 1) (used + 1 + length C - (used + 1)) (set W used (pos (length C))) ys)
closed C W used h {ys} e =
    let E = set W used (pos (length C)) in
    let k : used + 1 + length C - (used + 1) ≡ length C = omega arith in
    let l : length E ≡ length W = length-set W used (pos (length C)) in
    rw k
    (record {
      as_long = put_mid_length (used + 1) (length C) E ys (omega (arith, l)) (ap length e) ∙ l;
      written =
          take-put_mid (used + 1) (length C) E ys (used + length C + 1) (omega (arith, ap length e)) (omega (arith, l))
          ∙ ap₂ ◌++◌ (ap (λ n. take n E) (add-one used) ∙ take-suc-set W used (pos (length C)) (omega arith)) e
          ∙ append_snoc (take used W) (pos (length C)) C;
    })

-- ---- the first two words

pub two_set : (W : List ℤ) (a b : ℤ) → 2 ≤ length W → take 2 (set (set W 0 a) 1 b) ≡ a ∷ b ∷ []
two_set [] a b h = absurd (omega arith)
two_set (x ∷ []) a b h = absurd (omega arith)
two_set (x ∷ y ∷ W) a b h = refl
