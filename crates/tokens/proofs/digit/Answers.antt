use Rattle.std.proofs.Common.{arith}
use Rattle.std.proofs.lemmas.Bool.Decides.{nat_tests}
use Rattle.tokens.specs.Numbers.{digit, is_digit}
use Rattle.tokens.proofs.digit.Goals as goal

pub returns-then-not-is_ascii_digit : goal.returns-then-not-is_ascii_digit
unfolding digit is_digit
returns-then-not-is_ascii_digit c = grind (arith, nat_tests)

pub returns : goal.returns
unfolding digit is_digit
returns c = grind (arith, nat_tests)
