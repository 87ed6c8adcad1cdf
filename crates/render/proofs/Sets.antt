-- Bytes written before bytes that are written. Assumes nothing.
use mathlib.Core.Path.{◌≡◌, refl, sym, ap, ◌∙◌}
use mathlib.Core.List.{List, [], ◌∷◌, ◌++◌}
use Prim.Native.Nat.{ℕ, suc, ◌+◌, ◌-◌, ◌<◌, ◌≤◌}
use native.Mathlib.Nat.{zero-add, add-zero, add-suc, suc-add}
use native.Mathlib.Omega.{arith}
use lib.ListN.{length, set, take, drop, length-append}
use lib.Seq.{sets, set_comm, length-sets, sets-eq}
use borrow.Rule.Slice.PartMut.{put_mid}
use Rattle.std.proofs.lemmas.Slice.{put_mid-paste}
use Rattle.std.proofs.lemmas.List.{take_all}
use Rattle.meaning.specs.Promise.{over}
use Rattle.render.specs.Placed.{Placed, Room}

module _ {A : Type 0} where
  set_before : (b : List A) (s t : ℕ) (x : A) (ys : List A) → s < t → set (sets b t ys) s x ≡ sets (set b s x) t ys
  set_before b s t x [] h = refl
  set_before b s t x (y ∷ ys) h = set_before (set b t y) s (suc t) x ys (omega arith) ∙ ap (λ l. sets l (suc t) ys) (set_comm b t s y x (λ e. omega arith))

  pub sets_two : (b : List A) (s : ℕ) (xs ys : List A) → sets (sets b (s + length xs) ys) s xs ≡ sets b s (xs ++ ys)
  sets_two b s [] ys = rw add-zero
  sets_two b s (x ∷ xs) ys =
      rw (add-suc, ← suc-add)
      (ap (λ l. sets l (suc s) xs) (set_before b s (suc s + length xs) x ys (omega arith)) ∙ sets_two (set b s x) (suc s) xs ys)

-- one part behind another is both
pub two_parts : {end middle start : ℕ} {xs ys b b' b'' : List ℕ} → Placed end ys b middle b' → Placed middle xs b' start b'' → Placed end (xs ++ ys) b start b''
two_parts {end} {middle} {start} {xs} {ys} {b} p q =
    record {
      starts = omega (arith, length-append xs ys, p.starts, q.starts);
      written = q.written ∙ ap (λ l. sets l start xs) (p.written ∙ ap (λ k. sets b k ys) (sym q.starts)) ∙ sets_two b start xs ys;
    }

-- a line finds room: so does its last part, and before it the rest
pub room_last : (xs ys : List ℕ) {end : ℕ} {b : List ℕ} → Room end (xs ++ ys) b → Room end ys b
room_last xs ys r = record { before = omega (arith, simp length-append at r.before); within = r.within }

pub room_rest : (xs ys : List ℕ) {end middle : ℕ} {b b' : List ℕ} → Room end (xs ++ ys) b → Placed end ys b middle b' → Room middle xs b'
room_rest xs ys {middle = middle} {b = b} {b' = b'} r p =
    record {
      before = omega (arith, simp length-append at r.before, p.starts);
      within = omega (arith, ap length p.written, length-sets b middle ys, p.starts, r.within);
    }

-- the last part is written, the others are to be
pub part_left : (s : ℕ) (xs ys : List ℕ) {at r : ℕ} {b b' : List ℕ} → at ≡ s + length (xs ++ ys) → Placed at ys b r b' → (r ≡ s + length xs) × (sets b' s xs ≡ sets b s (xs ++ ys))
part_left s xs ys {at} {r} {b} here p =
    let e : r ≡ s + length xs = omega (arith, length-append xs ys, p.starts) in
    (e, ap (λ l. sets l s xs) (p.written ∙ ap (λ k. sets b k ys) e) ∙ sets_two b s xs ys)

-- bytes written from the start on
pub sets_over : {A : Type 0} (xs b : List A) → length xs ≤ length b → sets b 0 xs ≡ over xs b
sets_over xs b few = sets-eq xs b 0 (rw zero-add few) ∙ rw zero-add

-- bytes copied into a part of that length
pub copied : {A : Type 0} (b xs : List A) (s e : ℕ) → s + length xs ≡ e → e ≤ length b → put_mid s (e - s) b xs ≡ sets b s xs
copied b xs s e here few =
    put_mid-paste s (e - s) b xs xs (length xs) refl (omega arith) refl
    ∙ ap (λ l. take s b ++ l ++ drop (s + length xs) b) (take_all (length xs) xs (omega arith))
    ∙ sym (sets-eq xs b s (omega arith))
