-- The number of a token, digit by digit. Assumes nothing.
use mathlib.Core.Path.{◌≡◌, refl, sym, ap, ◌∙◌}
use mathlib.Core.Bool.{Bool, true, false, not, ◌&&◌, ◌||◌, cond, true≢false}
use mathlib.Core.List.{List, [], ◌∷◌}
use mathlib.Core.Option.{Option, none, some}
use Prim.Native.Nat.{ℕ, zero, suc, ◌+◌, ◌-◌, ◌*◌, ◌^◌, ◌<◌, ◌≤◌}
use Prim.Native.Char.{Char, code}
use native.Mathlib.Omega.{arith}
use native.Mathlib.Nat.{add-zero}
use borrow.Author.Tests.{ltb-true, leb-true, ne_eqb, eqb-true, lt-ltb, le-leb, lt-leb, eq-eqb}
use lib.Dec.{eqb, ltb, leb}
use lib.IntN.{ℤ, pos, neg_ℤ, nat_abs}
use lib.ListN.{length, get_or, take, drop, length-take, length-drop}
use lib.Seq.{get_or-take, get_or-drop}
use Rattle.std.proofs.lemmas.List.{get_or_default}
use Rattle.std.proofs.lemmas.Option.{cond_some, none-some}
use lib.Pow.{pow-add, pow_mono}
use Rattle.meaning.specs.Lists.{all, only, given}
use Rattle.meaning.specs.Text.{begins, value, numeral, signed}
use Rattle.tokens.specs.Scan.{parts, stands, parted, word_at}
use Rattle.std.specs.Prelude as std
use Rattle.std.specs.Int.{from_bool}
use Rattle.tokens.specs.declared.Numeral.{Numeral}
use Rattle.tokens.specs.declared.Signed.{Signed}
use Rattle.tokens.specs.Numbers.{is_digit, digit, Running, Ran, literal_of, NumeralRead, SignedRead}
use Rattle.tokens.proofs.Places.{and_true_l, and_true_r, not_parted, stands_parted, word_stops, word_goes}

-- ---- what an answer holds

abbrev pub numeral_is : ℕ → ℕ → std.Option Numeral
numeral_is v end = std.Some (record { value = v; end = end })

abbrev pub signed_as : ℤ → ℕ → std.Option Signed
signed_as z end = std.Some (record { value = z; end = end })

-- ---- digits

digit_low : (b : ℕ) → is_digit b ≡ true → 48 ≤ b
unfolding is_digit
digit_low b e = leb-true 48 b (and_true_l (leb 48 b) (leb b 57) e)

pub digit_high : (b : ℕ) → is_digit b ≡ true → b ≤ 57
unfolding is_digit
digit_high b e = leb-true b 57 (and_true_r (leb 48 b) (leb b 57) e)

pub big_parts : (b : ℕ) → 33 ≤ b → parts b ≡ false
unfolding parts
big_parts b h = simp (ne_eqb b 10 (λ e. omega arith), ne_eqb b 32 (λ e. omega arith), ne_eqb b 9 (λ e. omega arith), ne_eqb b 13 (λ e. omega arith))

digit_parts : (b : ℕ) → is_digit b ≡ true → parts b ≡ false
digit_parts b e = big_parts b (omega (arith, digit_low b e))

-- ---- one digit more

value_grows : (k v d : ℕ) → v < 2 ^ (4 * k) → d ≤ 9 → 10 * v + d < 2 ^ (4 * (k + 1))
value_grows k v d h l =
    let e : 4 * (k + 1) ≡ 4 * k + 4 = omega arith in
    rw (e, pow-add 2 (4 * k) 4) (omega arith)

pub value_small : {t : List ℕ} {start v at : ℕ} → Running t start v at → v < 2 ^ 20
value_small {start} {at} r =
    let k : 4 * (at - start) ≤ 20 = omega (arith, r.few) in
    omega (arith, r.small, pow_mono k)

module _ (t : List ℕ) (start : ℕ) where
  pub running_more : {v at : ℕ} → Running t start v at → at < length t → is_digit (get_or t at 0) ≡ true → at < start + 5 → Running t start (10 * v + (get_or t at 0 - 48)) (at + 1)
  running_more {v} {at} r h e f =
      let w : word_at t at ≡ get_or t at 0 ∷ word_at t (at + 1) = word_goes t at h (digit_parts (get_or t at 0) e) in
      let before : at + 1 - start ≡ at - start + 1 = omega (arith, r.onward) in
      record {
        onward = omega (arith, r.onward);
        within = omega arith;
        few = omega arith;
        digits = r.digits ∙ rw (w, e);
        size = omega (arith, r.onward, r.size, ap length w);
        valued = r.valued ∙ rw w;
        small = rw before (value_grows (at - start) v (get_or t at 0 - 48) r.small (omega (arith, digit_high (get_or t at 0) e)));
      }

-- ---- the bytes from a place on

abbrev pub front : List ℕ → ℕ → List ℕ
front t start = take (length t - start) (drop start t)

-- what is the next of the first five of them
pub front_at : (t : List ℕ) (start end b : ℕ) {k : ℕ} → end ≡ start + k → k < length (take 5 (front t start)) → b ≡ get_or (take 5 (front t start)) k b → (end < length t) × (b ≡ get_or t end 0) × (end < start + 5)
front_at t start end b {k} e h i =
    let n = length-take 5 (front t start) in
    let m = length-take (length t - start) (drop start t) in
    let l = length-drop start t in
    let g : b ≡ get_or t end b =
    i ∙ get_or-take 5 (front t start) k b (omega (arith, n)) ∙ get_or-take (length t - start) (drop start t) k b (omega (arith, n, m)) ∙ get_or-drop start t k b ∙ ap (λ j. get_or t j b) (sym e) in
    (omega (arith, n, m, l), g ∙ get_or_default t end b 0 (omega (arith, n, m, l)), omega (arith, n))

-- ---- what `digit` answers

pub digit_told : (b d : ℕ) → digit b ≡ std.Some d → (is_digit b ≡ true) × (b - 48 ≡ d)
unfolding digit
digit_told b d e = cond_some (is_digit b) (b - 48) d e

pub digit_not : (b : ℕ) → digit b ≡ std.None → is_digit b ≡ true → ⊥
unfolding digit
digit_not b e i = none-some (b - 48) (sym e ∙ rw i)

-- ---- a word's first byte

pub begins_word : (c : Char) → parts (code c) ≡ false → (t : List ℕ) (at : ℕ) → begins c (word_at t at) ≡ stands t at (code c)
unfolding stands
begins_word c p t at = go (parted t at) refl
  where
    go : (x : Bool) → parted t at ≡ x → begins c (word_at t at) ≡ (ltb at (length t) && eqb (get_or t at 0) (code c))
    go true e = rw (word_stops t at e) (sym (stands_parted t at (code c) p e))
    go false e = let n = not_parted t at e in rw (word_goes t at n.0 n.1, lt-ltb at (length t) n.0)

-- ---- the tests of a number

module _ (ws : List ℕ) where
  fails : (a b d : Bool) → (a && b && false && d) ≡ false
  fails true true d = refl
  fails true false d = refl
  fails false b d = refl

  last_fails : (a b d : Bool) → (a && b && d && false) ≡ false
  last_fails true true true = refl
  last_fails true true false = refl
  last_fails true false d = refl
  last_fails false b d = refl

  not_all : all is_digit ws ≡ false → numeral ws ≡ none
  unfolding is_digit
  not_all e = simp e

  too_long : 5 < length ws → numeral ws ≡ none
  too_long h = simp (lt-leb (length ws) 5 h, fails)

  pub number_is : all is_digit ws ≡ true → 1 ≤ length ws → length ws ≤ 5 → (not (begins "0" ws) || eqb (length ws) 1) ≡ true → numeral ws ≡ some (value 0 ws)
  unfolding is_digit
  number_is a b d e = simp (a, le-leb 1 (length ws) b, le-leb (length ws) 5 d, e)

  pub number_zero : (not (begins "0" ws) || eqb (length ws) 1) ≡ false → numeral ws ≡ none
  number_zero e = simp (e, last_fails)

too_short : (ws : List ℕ) → length ws ≡ 0 → numeral ws ≡ none
too_short [] h = refl
too_short (b ∷ ws) h = absurd (omega arith)

or-true : (a b : Bool) → b ≡ true → (a || b) ≡ true
or-true true b e = refl
or-true false b e = e

positive : (v : ℕ) → (v ≡ 0 → ⊥) → 0 < v
positive v n = omega (arith, n)

-- ---- the number

module _ {t : List ℕ} {start v end : ℕ} (r : Ran t start v end) where
  -- the word goes on behind the digits taken
  pub numeral_not : parted t end ≡ false → numeral (word_at t start) ≡ none
  numeral_not e = go (is_digit (get_or t end 0)) refl
    where
      n : (end < length t) × (parts (get_or t end 0) ≡ false)
      n = not_parted t end e

      w : word_at t end ≡ get_or t end 0 ∷ word_at t (end + 1)
      w = word_goes t end n.0 n.1

      go : (x : Bool) → is_digit (get_or t end 0) ≡ x → numeral (word_at t start) ≡ none
      go true i = too_long (word_at t start) (omega (arith, r.running.size, r.stopped n.0 i, ap length w))
      go false i = not_all (word_at t start) (r.running.digits ∙ rw (w, i))

  -- it ends there
  module _ (e : parted t end ≡ true) where
    counted : length (word_at t start) ≡ end - start
    counted = omega (arith, r.running.size, ap length (word_stops t end e))

    ended : end ≡ start + length (word_at t start)
    ended = omega (arith, r.running.onward, counted)

    read_is : (end ≡ start → ⊥) → (not (begins "0" (word_at t start)) || eqb (end - start) 1) ≡ true → NumeralRead t start (numeral_is v end)
    read_is n z = (
      number_is (word_at t start) (r.running.digits ∙ rw (word_stops t end e)) (omega (arith, counted, r.running.onward)) (omega (arith, counted, r.running.few)) (rw counted z)
          ∙ ap some (r.running.valued ∙ rw (word_stops t end e)),
      ended,
      e,
      value_small r.running,
    )

    pub one_digit : end ≡ start + 1 → NumeralRead t start (numeral_is v end)
    one_digit i = read_is (λ n. omega arith) (or-true (not (begins "0" (word_at t start))) (eqb (end - start) 1) (eq-eqb (end - start) 1 (omega arith)))

    pub more_digits : (end ≡ start → ⊥) → stands t start 48 ≡ false → NumeralRead t start (numeral_is v end)
    more_digits n z = read_is n (rw (begins_word "0" (big_parts 48 (omega arith)) t start, z))

    pub leading_zero : (end ≡ start + 1 → ⊥) → stands t start 48 ≡ true → numeral (word_at t start) ≡ none
    leading_zero n z = number_zero (word_at t start) (rw (begins_word "0" (big_parts 48 (omega arith)) t start, z, counted) (ne_eqb (end - start) 1 (λ i. n (omega (arith, r.running.onward)))))

  pub no_digit : end ≡ start → numeral (word_at t start) ≡ none
  no_digit i = go (parted t end) refl
    where
      go : (x : Bool) → parted t end ≡ x → numeral (word_at t start) ≡ none
      go true e = too_short (word_at t start) (omega (arith, counted e))
      go false e = numeral_not e

-- ---- the sign

-- where a minus stands the digits begin after it
abbrev pub digits_at : Bool → ℕ → ℕ
digits_at minus at = at + from_bool minus

abbrev with_sign : Bool → ℕ → Option ℤ
with_sign minus v = cond minus (only (ltb 0 v) (neg_ℤ (pos v))) (some (pos v))

size_of : (m : Bool) (v : ℕ) → nat_abs (literal_of m v) ≡ v
size_of true zero = refl
size_of true (suc v) = refl
size_of false v = refl

plain : (ws : List ℕ) → begins "-" ws ≡ false → signed ws ≡ given (numeral ws) (λ v. some (pos v))
plain [] e = refl
plain (b ∷ ws) e = rw e

module _ (t : List ℕ) (at : ℕ) where
  after : stands t at 45 ≡ true → word_at t at ≡ 45 ∷ word_at t (at + 1)
  unfolding stands
  after e =
      let h = and_true_l (ltb at (length t)) (eqb (get_or t at 0) 45) e in
      let i = eqb-true (get_or t at 0) 45 (and_true_r (ltb at (length t)) (eqb (get_or t at 0) 45) e) in
      word_goes t at (ltb-true at (length t) h) (rw i (big_parts 45 (omega arith))) ∙ rw i

  signed_by : (m : Bool) → stands t at 45 ≡ m → signed (word_at t at) ≡ given (numeral (word_at t (digits_at m at))) (with_sign m)
  signed_by true e = rw (after e)
  signed_by false e = rw add-zero (plain (word_at t at) (begins_word "-" (big_parts 45 (omega arith)) t at ∙ e))

  ends_by : (m : Bool) → stands t at 45 ≡ m → digits_at m at + length (word_at t (digits_at m at)) ≡ at + length (word_at t at)
  ends_by true e = omega (arith, ap length (after e))
  ends_by false e = rw add-zero

  module _ (m : Bool) (e : stands t at 45 ≡ m) where
    pub signed_not : numeral (word_at t (digits_at m at)) ≡ none → signed (word_at t at) ≡ none
    signed_not n = signed_by m e ∙ rw n

    module _ {v end : ℕ} (r : NumeralRead t (digits_at m at) (numeral_is v end)) where
      of : signed (word_at t at) ≡ with_sign m v
      of = signed_by m e ∙ ap (λ o. given o (with_sign m)) r.0

      -- the number with its sign is the literal
      pub signed_is : (v ≡ 0 → m ≡ false) → SignedRead t at (signed_as (literal_of m v) end)
      signed_is z = (of ∙ go m z, r.1 ∙ ends_by m e, r.2, rw (size_of m v) r.3)
        where
          go : (x : Bool) → (v ≡ 0 → x ≡ false) → with_sign x v ≡ some (literal_of x v)
          go true f = rw (lt-ltb 0 v (positive v (λ i. true≢false (f i))))
          go false f = refl

      pub minus_zero : v ≡ 0 → m ≡ true → signed (word_at t at) ≡ none
      minus_zero z i = of ∙ rw (z, i)
