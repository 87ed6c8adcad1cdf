-- The printed lines over a number's digits that stay shut; a law of proofs/ says that they are those of `meaning`.
use Rattle.std.specs.Prelude.{List, [], ◌∷◌, ◌++◌, ℕ, suc}
use Rattle.meaning.specs.Text.{bytes}
use Rattle.meaning.specs.Lines.{decimal}
use Rattle.meaning.specs.declared.Verdict.{Verdict}
use Rattle.meaning.specs.declared.Verdict.TheVariants.{Accepted, Refused}

-- a number as it is printed
unfoldable pub shown : ℕ → List ℕ
shown n = decimal n

-- a number behind what it is
unfoldable pub named : List ℕ → ℕ → List ℕ
named name value = name ++ shown value

-- a line of two named numbers
abbrev pub pair_line : List ℕ → ℕ → List ℕ → ℕ → List ℕ
pair_line first number second value = named first number ++ named second value ++ bytes "\n"

-- the line of one claim
abbrev pub claim_line : ℕ → ℕ → List ℕ
claim_line k c = pair_line (bytes "claim ") k (bytes " count ") c

-- the lines of the claims from the k-th on
abbrev pub claim_lines : ℕ → List ℕ → List ℕ
claim_lines k [] = []
claim_lines k (c ∷ cs) = claim_line k c ++ claim_lines (suc k) cs

-- the line of a verdict
abbrev pub verdict_line : Verdict → List ℕ
verdict_line (Accepted total) = named (bytes "accepted ") total ++ bytes "\n"
verdict_line (Refused number place) = pair_line (bytes "refused ") number (bytes " at ") place
