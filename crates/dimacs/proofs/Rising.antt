-- Where a literal belongs in a clause whose variables rise. Assumes nothing.
use mathlib.Core.Path.{◌≡◌, refl, sym, ap, ◌∙◌}
use mathlib.Core.Bool.{Bool, true, false, ◌||◌, true≢false}
use mathlib.Core.List.{List, [], ◌∷◌}
use Prim.Native.Nat.{ℕ, zero, suc, ◌+◌, ◌-◌, ◌<◌, ◌≤◌}
use native.Mathlib.Omega.{arith}
use borrow.Author.Tests.{lt-ltb, le-ltb, ne_eqb, eq-eqb}
use lib.Dec.{T, eqb, ltb, ltb→lt}
use lib.IntN.{ℤ, pos}
use lib.ListN.{length, get_or, take, length-take}
use Rattle.meaning.specs.Meaning.{Literal, Clause, var, named}
use Rattle.meaning.specs.Text.{insert}
use Rattle.meaning.proofs.Formed.{rises_from}
use Rattle.meaning.proofs.Logic.{and_l, and_r}
use Rattle.meaning.proofs.Dimacs.{insert_rises}
use Rattle.dimacs.specs.Clause.{var_at, spliced, Spliced, Begun, Added}
use Rattle.std.specs.List.{HoldsAt}
use Rattle.std.specs.List.Sorted.{IsNonDecreasingBy, IsPartitionPoint}
use Rattle.std.specs.Ordering.{nat_cmp, ordering_index}
use Rattle.std.proofs.Common.{Ordering, Less, Equal, Greater}
use Rattle.std.proofs.lemmas.Bool.Decides.{nat_tests}
use Rattle.std.proofs.lemmas.List.{get_or_default}
use Rattle.std.proofs.lemmas.List.Sorted.{IsNonDecreasingBy-from_default}

-- ---- rising variables

rises_above : (A : Clause) (last i : ℕ) → T (rises_from last A) → i < length A → last < var_at A i
rises_above [] last i r h = absurd (omega arith)
rises_above (a ∷ A) last zero r h = ltb→lt last (var a) (and_l (ltb last (var a)) (rises_from (var a) A) r)
rises_above (a ∷ A) last (suc i) r h =
    let x = ltb→lt last (var a) (and_l (ltb last (var a)) (rises_from (var a) A) r) in
    let y = rises_above A (var a) i (and_r (ltb last (var a)) (rises_from (var a) A) r) (omega arith) in
    omega (arith, x, y)

above_unnamed : (A : Clause) (v last : ℕ) → v ≤ last → T (rises_from last A) → named A v ≡ false
above_unnamed [] v last h r = refl
above_unnamed (a ∷ A) v last h r =
    let x = ltb→lt last (var a) (and_l (ltb last (var a)) (rises_from (var a) A) r) in
    rw (ne_eqb (var a) v (λ e. omega (arith, x, e))) (above_unnamed A v (var a) (omega (arith, x)) (and_r (ltb last (var a)) (rises_from (var a) A) r))

named_at : (A : Clause) (v i : ℕ) → i < length A → var_at A i ≡ v → named A v ≡ true
named_at [] v i h e = absurd (omega arith)
named_at (a ∷ A) v zero h e = rw (eq-eqb (var a) v e)
named_at (a ∷ A) v (suc i) h e = go (eqb (var a) v) (named_at A v i (omega arith) e)
  where
    go : (b : Bool) → named A v ≡ true → (b || named A v) ≡ true
    go true n = refl
    go false n = n

-- ---- a literal's place

module _ (z : Literal) where
  below_head : (a : Literal) (A : Clause) (at : ℕ) → T (rises_from (var a) A) → at ≤ length A → ((q : ℕ) → suc at ≡ suc q → var_at (a ∷ A) q < var z) → var a < var z
  below_head a A zero r h b = b 0 refl
  below_head a A (suc at) r h b = omega (arith, rises_above A (var a) at r (omega arith), b (suc at) refl)

  in_place : (A : Clause) (last at : ℕ) → T (rises_from last A) → at ≤ length A → ((q : ℕ) → at ≡ suc q → var_at A q < var z) → (at < length A → var z < var_at A at)
      → (insert z A ≡ spliced at z A) × (named A (var z) ≡ false)
  in_place [] last zero r h b a = (refl, refl)
  in_place [] last (suc at) r h b a = absurd (omega arith)
  in_place (x ∷ A) last zero r h b a =
      let l : var z < var x = a (omega arith) in
      (rw (lt-ltb (var z) (var x) l), rw (ne_eqb (var x) (var z) (λ e. omega (arith, l, e))) (above_unnamed A (var z) (var x) (omega (arith, l)) (and_r (ltb last (var x)) (rises_from (var x) A) r)))
  in_place (x ∷ A) last (suc at) r h b a =
      let s = and_r (ltb last (var x)) (rises_from (var x) A) r in
      let l : var x < var z = below_head x A at s (omega arith) b in
      let ih = in_place A (var x) at s (omega arith) (λ q e. b (suc q) (ap suc e)) (λ i. a (omega (arith, i))) in
      (rw (le-ltb (var z) (var x) (omega (arith, l))) (ap (λ C. x ∷ C) ih.0), rw (ne_eqb (var x) (var z) (λ e. omega (arith, l, e))) ih.1)

-- ---- adding a literal

false_true : {X : Type 0} → false ≡ true → X
false_true e = absurd (true≢false (sym e))

-- ---- what a binary search of them answers

rises_le : (A : Clause) (last i j : ℕ) → T (rises_from last A) → i ≤ j → j < length A → var_at A i ≤ var_at A j
rises_le [] last i j r h l = absurd (omega arith)
rises_le (a ∷ A) last zero zero r h l = omega arith
rises_le (a ∷ A) last zero (suc j) r h l = omega (arith, rises_above A (var a) j (and_r (ltb last (var a)) (rises_from (var a) A) r) (omega arith))
rises_le (a ∷ A) last (suc i) zero r h l = absurd (omega arith)
rises_le (a ∷ A) last (suc i) (suc j) r h l = rises_le A (var a) i j (and_r (ltb last (var a)) (rises_from (var a) A) r) (omega arith) (omega arith)

index_rises : (a b v : ℕ) → a ≤ b → ordering_index (nat_cmp a v) ≤ ordering_index (nat_cmp b v)
index_rises a b v h = grind (arith, nat_tests)

is_less : (a v : ℕ) → nat_cmp a v ≡ Less → a < v
is_less a v e = grind (arith, nat_tests)

is_equal : (a v : ℕ) → nat_cmp a v ≡ Equal → a ≡ v
is_equal a v e = grind (arith, nat_tests)

is_greater : (a v : ℕ) → nat_cmp a v ≡ Greater → v < a
is_greater a v e = grind (arith, nat_tests)

-- where the answers rise, what stands before a lesser one is less, and what stands after a greater one greater
less_before : (a b v : ℕ) → ordering_index (nat_cmp a v) ≤ ordering_index (nat_cmp b v) → b < v → nat_cmp a v ≡ Less
less_before a b v h l = grind (arith, nat_tests)

greater_after : (a b v : ℕ) → ordering_index (nat_cmp a v) ≤ ordering_index (nat_cmp b v) → v < a → nat_cmp b v ≡ Greater
greater_after a b v h l = grind (arith, nat_tests)

-- the place for a variable beyond the last one, and before the first
module _ (C : List ℤ) (v : ℕ) (h : 1 ≤ length C) (r : IsNonDecreasingBy (λ y. ordering_index (nat_cmp (var y) v)) C) where
  abbrev Point : ℕ → Type 0
  Point at = IsPartitionPoint (λ y. nat_cmp (var y) v ≡ Less) (λ y. nat_cmp (var y) v ≡ Greater) C at

  pub at_end : var_at C (length C - 1) < v → Point (length C)
  at_end l = (
    λ k d _ i.
        let e : get_or C (length C - 1) (pos 0) ≡ get_or C (length C - 1) d = get_or_default C (length C - 1) (pos 0) d (omega arith) in
        less_before _ _ v (r k (length C - 1) d (omega arith) (omega arith)) (rw (ap var e) at l),
    λ k d i j. absurd (omega arith),
  )

  pub at_start : v < var_at C 0 → Point 0
  at_start l = (
    λ k d i j. absurd (omega arith),
    λ k d _ i.
        let e : get_or C 0 (pos 0) ≡ get_or C 0 d = get_or_default C 0 (pos 0) d (omega arith) in
        greater_after _ _ v (r 0 k d (omega arith) i) (rw (ap var e) at l),
  )

module _ {C : List ℤ} {k : ℕ} (z : Literal) (low : 0 < var z) (b : Begun C k) where
  -- a place among the literals, where there are fewer than 64
  pub within_all : {at : ℕ} → at ≤ length (take k C) → (k ≡ 64 → ⊥) → (at ≤ k) × (k < length C)
  within_all h n = (omega (arith, length-take k C), omega (arith, b.long, b.few, n))

  abbrev by : ℤ → Ordering
  by y = nat_cmp (var y) (var z)

  pub searchable : IsNonDecreasingBy (λ y. ordering_index (by y)) (take k C)
  searchable = IsNonDecreasingBy-from_default (λ y. ordering_index (by y)) (take k C) (pos 0) (λ i j h l. index_rises (var_at (take k C) i) (var_at (take k C) j) (var z) (rises_le (take k C) 0 i j b.rises h l))

  pub twice : {at : ℕ} → at < length (take k C) → HoldsAt (λ y. by y ≡ Equal) (take k C) at → Added C k z false C
  twice {at} h e =
      let n : named (take k C) (var z) ≡ true = named_at (take k C) (var z) at h (is_equal (var_at (take k C) at) (var z) (e (pos 0))) in
      record { done_is = rw n; begun = false_true; literals = false_true }

  module _ {at : ℕ} (within : at ≤ length (take k C)) (p : IsPartitionPoint (λ y. by y ≡ Less) (λ y. by y ≡ Greater) (take k C) at) where
    placed : (insert z (take k C) ≡ spliced at z (take k C)) × (named (take k C) (var z) ≡ false)
    placed =
        in_place z (take k C) 0 at b.rises within
        (λ q i. is_less (var_at (take k C) q) (var z) (p.0 q (pos 0) (omega arith) (omega arith)))
        (λ h. is_greater (var_at (take k C) at) (var z) (p.1 at (pos 0) (omega arith) h))

    pub full : k ≡ 64 → Added C k z false C
    full h = record { done_is = rw (placed.1, le-ltb k 64 (omega arith)); begun = false_true; literals = false_true }

    pub put : (k ≡ 64 → ⊥) → {D : List ℤ} → Spliced C k at z D → Added C k z true D
    put h {D} m =
        let l : k < 64 = omega (arith, b.few, h) in
        let q : take (k + 1) D ≡ insert z (take k C) = m.literals ∙ sym placed.0 in
        record {
          done_is = rw (placed.1, lt-ltb k 64 l);
          begun = λ _. record {
            long = m.as_long ∙ b.long;
            few = omega arith;
            rises = rw q (insert_rises z (take k C) 0 low (λ n. rw placed.1 at n) b.rises);
          };
          literals = λ _. q;
        }
