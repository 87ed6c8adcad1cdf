-- The words of bytes, two by two. Assumes nothing.
use mathlib.Core.Path.{◌≡◌, refl, ap}
use mathlib.Core.List.{List, [], ◌∷◌, map}
use Prim.Native.Nat.{ℕ, zero, suc, ◌+◌, ◌/◌, ◌<◌, ◌≤◌}
use native.Mathlib.Numerals.{add-one}
use native.Mathlib.Omega.{arith}
use lib.IntN.{ℤ}
use lib.ListN.{length, get_or, drop, set}
use lib.Seq.{sets, drop-cons}
use Rattle.std.proofs.lemmas.List.{drop_all}
use Rattle.std.specs.Simd.{first_chunks}
use Rattle.meaning.specs.Lines.{words_of}
use Rattle.render.specs.Words.{word_of}

-- the word of two bytes
pub word_is : (low high : ℕ) {z : ℤ} → words_of (low ∷ high ∷ []) ≡ z ∷ [] → z ≡ word_of low high
word_is low high e = cc

-- the words of bytes in pairs
abbrev pub words_in : List (List ℕ) → List ℤ
words_in ps = map (λ p. word_of (get_or p 0 0) (get_or p 1 0)) ps

pub words_two : (n : ℕ) (bs : List ℕ) → n ≡ length bs / 2 → words_in (first_chunks 2 n bs) ≡ words_of bs
words_two zero [] e = refl
words_two zero (b ∷ []) e = refl
words_two zero (b ∷ d ∷ bs) e = absurd (omega arith)
words_two (suc n) [] e = absurd (omega arith)
words_two (suc n) (b ∷ []) e = absurd (omega arith)
words_two (suc n) (b ∷ d ∷ bs) e = ap (λ ws. word_of b d ∷ ws) (words_two n bs (omega arith))

pub none_in : (ps : List (List ℕ)) (i : ℕ) → length ps ≤ i → words_in (drop i ps) ≡ []
none_in ps i h = ap words_in (drop_all i ps h)

-- one word more is written
pub word_turn : (words : List ℤ) (ps : List (List ℕ)) (i : ℕ) {z : ℤ} → i < length ps → words_of (get_or (get_or ps i []) 0 0 ∷ get_or (get_or ps i []) 1 0 ∷ []) ≡ z ∷ []
    → sets (set words i z) (i + 1) (words_in (drop (i + 1) ps)) ≡ sets words i (words_in (drop i ps))
word_turn words ps i h e = rw (drop-cons ps i [] h, word_is (get_or (get_or ps i []) 0 0) (get_or (get_or ps i []) 1 0) e, add-one i)

pub word_count : (bs : List ℕ) → length (words_of bs) ≡ length bs / 2
word_count [] = omega arith
word_count (b ∷ []) = omega arith
word_count (b ∷ d ∷ bs) = omega (arith, word_count bs)
