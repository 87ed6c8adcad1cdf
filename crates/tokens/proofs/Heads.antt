-- The header's line: its words and its numbers. Assumes nothing.
use mathlib.Core.Path.{◌≡◌, refl, sym, ap, ◌∙◌}
use mathlib.Core.Bool.{Bool, true, false, not, not-not, ◌&&◌, cond, true≢false}
use mathlib.Core.List.{List, [], ◌∷◌, append-nil}
use mathlib.Core.Option.{Option, none, some}
use Prim.Native.Nat.{ℕ, suc, ◌+◌, ◌<◌, ◌≤◌}
use Prim.Native.Char.{Char, code}
use native.Mathlib.Omega.{arith}
use mathlib.Core.Logic.{◌⊎◌, inl, inr, ⊎_elim}
use borrow.Author.Tests.{eqb-true, ltb-true, ltb-false, le-ltb, le-leb, lt-leb, ne_eqb}
use lib.Dec.{eqb, ltb, leb, eqb-suc-suc}
use lib.ListN.{length, get_or, drop, length-drop, drop_of_length-le}
use lib.Seq.{drop-length, drop-cons}
use Rattle.meaning.specs.Lists.{same_by, given, only}
use Rattle.meaning.specs.Limits.{small}
use Rattle.meaning.specs.Text.{is, begins, spells, Piece, tokens, numeral, header}
use Rattle.std.specs.Cmp.Lexicographic.{pointwise}
use Rattle.tokens.specs.Scan.{parts, line, piece, scan, stands, parted, line_end, word_at, tokens_from, Next}
use Rattle.tokens.specs.Numbers.{NumeralRead}
use Rattle.tokens.specs.Header.{OneLine, bytes_of, sizes_of}
use Rattle.tokens.proofs.Places.{word_stops, gap_token, gap_end, comment_line, word_within, and_true_l, and_true_r, stands_inside}
use Rattle.tokens.proofs.Lines.{gap_line}
use Rattle.tokens.proofs.Numbers.{numeral_is, big_parts, begins_word}

-- ---- a word that is spelled

same_pointwise : (w s : List ℕ) → pointwise eqb w s ≡ same_by eqb w s
same_pointwise [] [] = refl
same_pointwise [] (x ∷ s) = refl
same_pointwise (b ∷ w) [] = refl
same_pointwise (b ∷ w) (x ∷ s) = ap (λ e. eqb b x && e) (same_pointwise w s)

-- what `!=` answers
pub spelled : {w w' s s' : List ℕ} {r : Bool} → r ≡ not (pointwise eqb w' s') → w' ≡ w → s' ≡ s → same_by eqb w s ≡ not r
spelled {w} {s} d e f = rw (d, e, f, same_pointwise w s, not-not)

spells_begins : (w : List ℕ) → spells "p" w ≡ true → begins "p" w ≡ true
spells_begins [] e = e
spells_begins (b ∷ w) e = and_true_l (eqb b 112) (same_by eqb w []) e

-- ---- the tokens from a place on, by number

-- the next token, or none
module _ {t : List ℕ} {at a : ℕ} (n : Next t at a) where
  -- where the word of the next token ends
  abbrev past : ℕ
  past = a + length (word_at t a)

  nothing : length t ≤ a → word_at t a ≡ []
  unfolding parted
  nothing h = word_stops t a (rw (le-ltb a (length t) h))

  pub next_or : ((a < length t) × (tokens_from t at ≡ piece a (word_at t a) ∷ tokens_from t past)) ⊎ ((length t ≤ a) × (tokens_from t at ≡ []) × (word_at t a ≡ []) × (tokens_from t past ≡ []))
  next_or = go (ltb a (length t)) refl
    where
      go : (x : Bool) → ltb a (length t) ≡ x → ((a < length t) × (tokens_from t at ≡ piece a (word_at t a) ∷ tokens_from t past)) ⊎ ((length t ≤ a) × (tokens_from t at ≡ []) × (word_at t a ≡ []) × (tokens_from t past ≡ []))
      go true e = let h = ltb-true a (length t) e in inl (h, n.same ∙ gap_token t a h (n.reached h))
      go false e = let h = ltb-false a (length t) e in inr (h, n.same ∙ gap_end t a h, nothing h, gap_end t past (omega arith))

  pub first_is : bytes_of (tokens_from t at) 0 ≡ word_at t a
  first_is = ⊎_elim (λ y. rw y.1) (λ y. rw (y.1, y.2)) next_or

  pub later_are : (k : ℕ) → bytes_of (tokens_from t at) (suc k) ≡ bytes_of (tokens_from t past) k
  later_are k = ⊎_elim (λ y. rw y.1) (λ y. rw (y.1, y.3)) next_or

  -- it is there
  module _ (here : (word_at t a ≡ []) → ⊥) where
    pub there_is : (a < length t) × (tokens_from t at ≡ piece a (word_at t a) ∷ tokens_from t past)
    there_is = ⊎_elim (λ y. y) (λ y. absurd (here y.2)) next_or

numeral_there : {ws : List ℕ} {v : ℕ} → numeral ws ≡ some v → ws ≡ [] → ⊥
numeral_there e i = let z : none ≡ some _ = sym (ap numeral i) ∙ e in let o : ◌≡◌ {A = ℕ} 0 1 = cc in absurd (omega arith)

given_none : {X Y : Type 0} (o : Option X) → given {Y = Y} o (λ x. none) ≡ none
given_none none = refl
given_none (some x) = refl

and_false : (b : Bool) → (b && false) ≡ false
and_false true = refl
and_false false = refl

-- ---- the two numbers

module _ {t : List ℕ} {at a : ℕ} (first : Next t at a) where
  pub sizes_first : numeral (word_at t a) ≡ none → none ≡ sizes_of (tokens_from t at)
  unfolding sizes_of
  sizes_first e = rw (first_is first, e)

  module _ {n e b : ℕ} (r : NumeralRead t a (numeral_is n e)) (second : Next t e b) where
    rest_are : (k : ℕ) → bytes_of (tokens_from t at) (suc k) ≡ bytes_of (tokens_from t e) k
    rest_are k = later_are first k ∙ ap (λ x. bytes_of (tokens_from t x) k) (sym r.1)

    second_is : bytes_of (tokens_from t at) 1 ≡ word_at t b
    second_is = rest_are 0 ∙ first_is second

    pub sizes_second : numeral (word_at t b) ≡ none → none ≡ sizes_of (tokens_from t at)
    unfolding sizes_of
    sizes_second i = rw (second_is, i) (sym (given_none (numeral (bytes_of (tokens_from t at) 0))))

    module _ {m f d : ℕ} (s : NumeralRead t b (numeral_is m f)) (third : Next t f d) where
      long : length (tokens_from t at) ≡ suc (suc (length (tokens_from t f)))
      long =
          ap length (there_is first (numeral_there r.0)).1
          ∙ ap suc (ap (λ x. length (tokens_from t x)) (sym r.1) ∙ ap length (there_is second (numeral_there s.0)).1 ∙ ap (λ x. suc (length (tokens_from t x))) (sym s.1))

      sizes_are : sizes_of (tokens_from t at) ≡ only (eqb (suc (suc (length (tokens_from t f)))) 2 && leb n 512 && leb m 2048) (n, m)
      unfolding sizes_of
      sizes_are = rw (first_is first, r.0, second_is, s.0, long)

      pub sizes_more : d < length t → none ≡ sizes_of (tokens_from t at)
      sizes_more h =
          let l : length (tokens_from t f) ≡ suc (length (tokens_from t (past third))) = ap length (⊎_elim (λ y. y.1) (λ y. absurd (omega (arith, y.0))) (next_or third)) in
          sym (sizes_are ∙ rw (ne_eqb (suc (suc (length (tokens_from t f)))) 2 (λ i. omega arith)))

      module _ (h : length t ≤ d) where
        two : sizes_of (tokens_from t at) ≡ only (leb n 512 && leb m 2048) (n, m)
        two = sizes_are ∙ rw (⊎_elim (λ y. absurd (omega (arith, y.0))) (λ y. y.1) (next_or third))

        pub sizes_many : (512 < n) ⊎ (2048 < m) → none ≡ sizes_of (tokens_from t at)
        sizes_many h = sym (two ∙ ⊎_elim (λ i. rw (lt-leb n 512 i)) (λ j. rw (lt-leb m 2048 j, and_false (leb n 512))) h)

        pub sizes_ok : n ≤ 512 → m ≤ 2048 → some (n, m) ≡ sizes_of (tokens_from t at)
        sizes_ok i j = sym (two ∙ rw (le-leb n 512 i, le-leb m 2048 j))

-- ---- one line

line_whole : (bs : List ℕ) → length (line bs) ≡ length bs → line bs ≡ bs
unfolding line
line_whole [] e = refl
line_whole (b ∷ bs) e = go (is "\n" b) (line_whole bs) e
  where
    go : (x : Bool) → (length (line bs) ≡ length bs → line bs ≡ bs) → length (cond x [] (b ∷ line bs)) ≡ suc (length bs) → cond x [] (b ∷ line bs) ≡ b ∷ bs
    go true ih i = absurd (omega arith)
    go false ih i = ap (λ l. b ∷ l) (ih (omega arith))

module _ {t : List ℕ} {at : ℕ} (o : OneLine t at) where
  line_is : line (drop at t) ≡ drop at t
  unfolding line_end
  line_is = line_whole (drop at t) (omega (arith, o.ends, o.within, length-drop at t))

  pub tokens_are : tokens (piece at (drop at t)) ≡ tokens_from t at
  unfolding tokens_from scan
  tokens_are = sym (gap_line at (drop at t) ∙ rw (comment_line (drop at t) at, line_is, drop-length (drop at t), append-nil))

-- a numeral's end is within the text
pub read_within : (t : List ℕ) (at : ℕ) {n e : ℕ} → at ≤ length t → NumeralRead t at (numeral_is n e) → e ≤ length t
read_within t at h r = omega (arith, r.1, word_within t at h)

-- ---- the header

p_fails : (b e c n m : Bool) → (b && e && false && c && n && m) ≡ false
p_fails true true c n m = refl
p_fails true false c n m = refl
p_fails false e c n m = refl

cnf_fails : (b e p n m : Bool) → (b && e && p && false && n && m) ≡ false
cnf_fails true true true n m = refl
cnf_fails true true false n m = refl
cnf_fails true false p n m = refl
cnf_fails false e p n m = refl

and-true : (x : Bool) → (x && true) ≡ x
and-true true = refl
and-true false = refl

given_false : (o o' : Option ℕ) (f : ℕ → ℕ → Bool) → ((n m : ℕ) → f n m ≡ false) → given {Y = ℕ × ℕ} o (λ n. given {Y = ℕ × ℕ} o' (λ m. only (f n m) (n, m))) ≡ none
given_false none o' f h = refl
given_false (some n) none f h = refl
given_false (some n) (some m) f h = rw (h n m)

spells_length : (ws xs : List ℕ) → same_by eqb ws xs ≡ true → length ws ≡ length xs
spells_length [] [] e = refl
spells_length [] (x ∷ xs) e = absurd (true≢false (sym e))
spells_length (w ∷ ws) [] e = absurd (true≢false (sym e))
spells_length (w ∷ ws) (x ∷ xs) e = ap suc (spells_length ws xs (and_true_r (eqb w x) (same_by eqb ws xs) e))

-- a byte of a token stands there
standing : (t : List ℕ) (at x : ℕ) → parts x ≡ false → stands t at x ≡ true → Next t at at
unfolding stands
standing t at x p e =
    let h = stands_inside t at x e in
    record { onward = omega arith; within = omega arith; same = refl; reached = λ _. ap parts (eqb-true (get_or t at 0) x (and_true_r (ltb at (length t)) (eqb (get_or t at 0) x) e)) ∙ p }

-- by the tokens, where the line begins with p or not
abbrev head_test : Bool → List Piece → ℕ → ℕ → Bool
head_test b T n m = b && eqb (length T) 4 && spells "p" (bytes_of T 0) && spells "cnf" (bytes_of T 1) && leb n 512 && leb m 2048

abbrev header_by : Bool → List Piece → Option (ℕ × ℕ)
header_by b T = given (numeral (bytes_of T 2)) (λ n. given (numeral (bytes_of T 3)) (λ m. only (head_test b T n m) (n, m)))

module _ (b : Bool) (T : List Piece) where
  by_p_no : spells "p" (bytes_of T 0) ≡ false → header_by b T ≡ none
  by_p_no e = given_false (numeral (bytes_of T 2)) (numeral (bytes_of T 3)) (head_test b T) (λ n m. rw e (p_fails b (eqb (length T) 4) (spells "cnf" (bytes_of T 1)) (leb n 512) (leb m 2048)))

  by_cnf_no : spells "cnf" (bytes_of T 1) ≡ false → header_by b T ≡ none
  by_cnf_no e = given_false (numeral (bytes_of T 2)) (numeral (bytes_of T 3)) (head_test b T) (λ n m. rw e (cnf_fails b (eqb (length T) 4) (spells "p" (bytes_of T 0)) (leb n 512) (leb m 2048)))

four : (k : ℕ) → eqb (suc (suc k)) 4 ≡ eqb k 2
four k = eqb-suc-suc (suc k) 3 ∙ eqb-suc-suc k 2

by_yes : (x y : Piece) (T : List Piece) → spells "p" x.bytes ≡ true → spells "cnf" y.bytes ≡ true → header_by true (x ∷ y ∷ T) ≡ sizes_of T
unfolding sizes_of
by_yes x y T p c = rw (p, c, four (length T), and-true (eqb (length T) 2), and-true (eqb (length T) 2))

pub begins_drop : (c : Char) (t : List ℕ) (at : ℕ) → begins c (drop at t) ≡ stands t at (code c)
unfolding stands
begins_drop c t at = go (ltb at (length t)) refl
  where
    go : (x : Bool) → ltb at (length t) ≡ x → begins c (drop at t) ≡ (x && eqb (get_or t at 0) (code c))
    go true e = rw (drop-cons t at 0 (ltb-true at (length t) e))
    go false e = rw (drop_of_length-le t (ltb-false at (length t) e))

module _ {t : List ℕ} {at : ℕ} (o : OneLine t at) where
  by_tokens : header small (piece at (drop at t)) ≡ header_by (stands t at 112) (tokens_from t at)
  by_tokens = rw (tokens_are o, begins_drop "p" t at)

  pub header_p_no : spells "p" (word_at t at) ≡ false → none ≡ header small (piece at (drop at t))
  header_p_no e = sym (by_tokens ∙ go (stands t at 112) refl)
    where
      go : (x : Bool) → stands t at 112 ≡ x → header_by x (tokens_from t at) ≡ none
      go true i = by_p_no true (tokens_from t at) (ap (spells "p") (first_is (standing t at 112 (big_parts 112 (omega arith)) i)) ∙ e)
      go false i = given_false (numeral (bytes_of (tokens_from t at) 2)) (numeral (bytes_of (tokens_from t at) 3)) (head_test false (tokens_from t at)) (λ n m. refl)

  module _ (p : spells "p" (word_at t at) ≡ true) where
    stands_p : stands t at 112 ≡ true
    stands_p = sym (begins_word "p" (big_parts 112 (omega arith)) t at) ∙ spells_begins (word_at t at) p

    pub p_within : at + 1 ≤ length t
    p_within = let h = stands_inside t at 112 stands_p in omega arith

    after_p : tokens_from t at ≡ piece at (word_at t at) ∷ tokens_from t (at + 1)
    after_p =
        (there_is (standing t at 112 (big_parts 112 (omega arith)) stands_p) (λ e. omega (arith, ap length e, spells_length (word_at t at) (112 ∷ []) p))).1
        ∙ ap (λ k. piece at (word_at t at) ∷ tokens_from t (at + k)) (spells_length (word_at t at) (112 ∷ []) p)

    module _ {a : ℕ} (n : Next t (at + 1) a) where
      pub header_cnf_no : spells "cnf" (word_at t a) ≡ false → none ≡ header small (piece at (drop at t))
      header_cnf_no e = sym (by_tokens ∙ by_cnf_no (stands t at 112) (tokens_from t at) (ap (λ T. spells "cnf" (bytes_of T 1)) after_p ∙ ap (spells "cnf") (first_is n) ∙ e))

      module _ (c : spells "cnf" (word_at t a) ≡ true) where
        three : length (word_at t a) ≡ 3
        three = spells_length (word_at t a) (99 ∷ 110 ∷ 102 ∷ []) c

        at_cnf : (a < length t) × (tokens_from t (at + 1) ≡ piece a (word_at t a) ∷ tokens_from t (a + length (word_at t a)))
        at_cnf = there_is n (λ e. omega (arith, ap length e, three))

        pub cnf_within : a + 3 ≤ length t
        cnf_within = omega (arith, three, word_within t a n.within)

        pub header_yes : header small (piece at (drop at t)) ≡ sizes_of (tokens_from t (a + 3))
        header_yes =
            by_tokens ∙ rw (stands_p, after_p, at_cnf.1, three) (by_yes (piece at (word_at t at)) (piece a (word_at t a)) (tokens_from t (a + 3)) p c)
