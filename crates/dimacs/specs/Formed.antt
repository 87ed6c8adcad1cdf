-- What the readers of the clauses and of the whole text answer, and what their buffer then holds.
use Rattle.std.specs.Prelude.{◌≡◌, List, [], ◌∷◌, ◌++◌, ℕ, ◌+◌, ◌*◌, ◌≤◌, ℤ, pos, length, take, Result, Ok, Err}
use Rattle.meaning.specs.declared.TextAnswer.{TextAnswer}
use Rattle.meaning.specs.declared.TextAnswer.TheVariants.{Words, Faulty}
use Rattle.dimacs.specs.declared.Reason.{Reason}
use Rattle.dimacs.specs.declared.Reason.TheVariants.{Length, Header, Number, Variable, Literal, Count, Room}
use Rattle.dimacs.specs.declared.Fault.{Fault}
use Rattle.meaning.specs.Limits.{small}
use Rattle.meaning.specs.Form.{Cnf}
use Rattle.meaning.specs.Text.{Text, sound, faulty, ◌>>=◌, body, whole, formula_words}
use Rattle.tokens.specs.Scan.{tokens_from}

-- a clause that has ended is written: its length and its literals
pub record Closed (clause words : List ℤ) (used : ℕ) (words' : List ℤ) : Type 0 where
  pub as_long : length words' ≡ length words
  pub written : take (used + length clause + 1) words' ≡ take used words ++ pos (length clause) ∷ clause

-- the clauses of a text from a place on, for n variables and m clauses
unfoldable pub clauses_from : ℕ → ℕ → List ℕ → ℕ → Text Cnf
clauses_from n m text start = body small n m (record { ended = []; current = [] }) (tokens_from text start) >>= whole small n m (length text)

-- the buffers are long enough for a clause and for the words of the text; a word takes two bytes
pub record Roomy (text : List ℕ) (clause words : List ℤ) : Type 0 where
  pub clause_long : length clause ≡ small.clause_length
  pub short : length text ≤ small.text_bytes
  pub enough : length text + 6 ≤ 2 * length words

-- n and m are read, and the clauses begin there
pub record Headed (text : List ℕ) (start n m : ℕ) : Type 0 where
  pub within : start ≤ length text
  pub few_variables : n ≤ small.variables
  pub few_clauses : m ≤ small.clauses

-- the number of a refusal
abbrev pub number : Reason → ℕ
number Length = 1
number Header = 2
number Number = 3
number Variable = 4
number Literal = 5
number Count = 6
number Room = 7

-- what is answered
abbrev pub told : Result ℕ Fault → TextAnswer
told (Ok used) = Words used
told (Err f) = Faulty (number f.0) f.1

abbrev pub answer_of : Text Cnf → TextAnswer
answer_of (sound f) = Words (length (formula_words f))
answer_of (faulty number place) = Faulty number place

abbrev pub Held : Text Cnf → List ℤ → Type 0
Held (sound f) words = take (length (formula_words f)) words ≡ formula_words f
Held (faulty number place) words = Unit {0}

-- the answer, and the formula's words first in the buffer
pub record Formed (read : Text Cnf) (answer : TextAnswer) (words : List ℤ) : Type 0 where
  pub answer_is : answer ≡ answer_of read
  pub held : Held read words
