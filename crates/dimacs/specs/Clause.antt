-- A clause's literals in rising order, in the first places of a buffer.
use Rattle.std.specs.Prelude.{◌≡◌, Bool, true, not, ◌&&◌, List, ◌∷◌, ◌++◌, ℕ, ◌+◌, ◌≤◌, ℤ, pos, length, get_or, take, drop, T, ltb}
use Rattle.meaning.specs.Limits.{small}
use Rattle.meaning.specs.Meaning.{Literal, Clause, var, named}
use Rattle.meaning.specs.Text.{insert}
use Rattle.meaning.proofs.Formed.{rises_from}

-- the variable of the literal at a place
abbrev pub var_at : List ℤ → ℕ → ℕ
var_at clause i = var (get_or clause i (pos 0))

-- with one literal more at a place
abbrev pub spliced : ℕ → Literal → Clause → Clause
spliced at l C = take at C ++ l ∷ drop at C

-- the first k literals, with one more among them
pub record Spliced (clause : List ℤ) (k at : ℕ) (l : Literal) (clause' : List ℤ) : Type 0 where
  pub as_long : length clause' ≡ length clause
  pub literals : take (k + 1) clause' ≡ spliced at l (take k clause)

-- a buffer with k literals of a clause in rising order
pub record Begun (clause : List ℤ) (k : ℕ) : Type 0 where
  pub long : length clause ≡ small.clause_length
  pub few : k ≤ small.clause_length
  pub rises : T (rises_from 0 (take k clause))

-- a literal is added, unless its variable is there already or it is the 65th
pub record Added (clause : List ℤ) (k : ℕ) (l : Literal) (done : Bool) (clause' : List ℤ) : Type 0 where
  pub done_is : done ≡ (not (named (take k clause) (var l)) && ltb k small.clause_length)
  pub begun : done ≡ true → Begun clause' (k + 1)
  pub literals : done ≡ true → take (k + 1) clause' ≡ insert l (take k clause)
