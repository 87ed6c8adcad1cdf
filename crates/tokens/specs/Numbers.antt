-- The number of a token, found digit by digit.
use Rattle.std.specs.Prelude.{◌≡◌, Bool, true, ◌&&◌, cond, List, ℕ, ◌+◌, ◌-◌, ◌*◌, ◌^◌, ◌<◌, ◌≤◌, leb, ℤ, pos, neg_ℤ, nat_abs, length, get_or, Option, Some, None}
use Rattle.std.proofs.Math.Option.{none, some}
use Rattle.meaning.specs.Lists.{all}
use Rattle.meaning.specs.Text.{value, numeral, signed}
use Rattle.tokens.specs.declared.Numeral.{Numeral}
use Rattle.tokens.specs.declared.Signed.{Signed}
use Rattle.tokens.specs.Scan.{parted, word_at}

unfoldable pub is_digit : ℕ → Bool
is_digit b = leb 48 b && leb b 57

-- what a digit stands for
unfoldable pub digit : ℕ → Option ℕ
digit b = cond (is_digit b) (Some (b - 48)) None

-- the literal, or 0
abbrev pub literal_of : Bool → ℕ → ℤ
literal_of minus v = cond minus (neg_ℤ (pos v)) (pos v)

-- so far the word that begins at start has digits only, of that value
pub record Running (text : List ℕ) (start value' at : ℕ) : Type 0 where
  pub onward : start ≤ at
  pub within : at ≤ length text
  pub few : at ≤ start + 5
  pub digits : all is_digit (word_at text start) ≡ all is_digit (word_at text at)
  pub size : length (word_at text start) ≡ at - start + length (word_at text at)
  pub valued : value 0 (word_at text start) ≡ value value' (word_at text at)
  pub small : value' < 2 ^ (4 * (at - start))

-- a sixth digit is not taken
pub record Ran (text : List ℕ) (start value' end : ℕ) : Type 0 where
  pub running : Running text start value' end
  pub stopped : end < length text → is_digit (get_or text end 0) ≡ true → end ≡ start + 5

-- what an answer says of the token at a place
abbrev pub NumeralRead : List ℕ → ℕ → Option Numeral → Type 0
NumeralRead text at (Some n) = (numeral (word_at text at) ≡ some n.value) × (n.end ≡ at + length (word_at text at)) × (parted text n.end ≡ true) × (n.value < 2 ^ 20)
NumeralRead text at None = numeral (word_at text at) ≡ none

abbrev pub SignedRead : List ℕ → ℕ → Option Signed → Type 0
SignedRead text at (Some s) = (signed (word_at text at) ≡ some s.value) × (s.end ≡ at + length (word_at text at)) × (parted text s.end ≡ true) × (nat_abs s.value < 2 ^ 20)
SignedRead text at None = signed (word_at text at) ≡ none
