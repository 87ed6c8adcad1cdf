-- How many claims hold, from what a check says.
use Rattle.std.specs.Prelude.{cond, ℕ, ◌-◌, eqb, ltb}
use Rattle.meaning.specs.declared.Verdict.{Verdict}
use Rattle.meaning.specs.declared.Verdict.TheVariants.{Accepted, Refused}

-- the claims of a trace, from the verdict of a check that is lent no count place
abbrev pub claims_said : Verdict → ℕ
claims_said (Accepted total) = 0
claims_said (Refused number place) = cond (eqb number 13) place 0

-- the claims that hold, of so many: none after 11 to 13, all after acceptance or 29, else those before the refused one
abbrev pub held_of : ℕ → Verdict → ℕ
held_of claims (Accepted total) = claims
held_of claims (Refused number place) = cond (ltb number 21) 0 (cond (eqb number 29) place (place - 1))
