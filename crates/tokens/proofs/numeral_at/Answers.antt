use Rattle.tokens.proofs.Numbers.{no_digit, one_digit, more_digits, leading_zero, numeral_not}
use mathlib.Core.Path.{sym, ◌∙◌}
use Rattle.tokens.proofs.numeral_at.Goals as goal
use Rattle.tokens.proofs.numeral_at.Goals.{then-number-start-via-then-number-start, then-number-start-via-else-number-start+then-not-parted_at}
use Rattle.tokens.proofs.numeral_at.Goals.{else-stands_at-via-then-stands_at+else-number-start-2, else-stands_at-via-else-stands_at}

pub returns-then-number-start : goal.returns-then-number-start
returns-then-number-start c =
    elim c.then-number-start.branch [
      | then-number-start-via-then-number-start w ↦ no_digit c.digits_from-number.ensures w.if-number-start.true
      | then-number-start-via-else-number-start+then-not-parted_at w ↦ numeral_not c.digits_from-number.ensures (sym w.parted_at.ensures ∙ w.if-not-parted_at.true)
    ]

pub returns-then-number-start-2 : goal.returns-then-number-start-2
returns-then-number-start-2 c =
    leading_zero c.digits_from-number.ensures (sym c.parted_at.ensures ∙ c.if-not-parted_at.false)
    c.if-number-start-2.true (sym c.stands_at.ensures ∙ c.if-stands_at.true)

pub returns : goal.returns
returns c =
    elim c.else-stands_at.branch [
      | else-stands_at-via-then-stands_at+else-number-start-2 w ↦ one_digit c.digits_from-number.ensures (sym c.parted_at.ensures ∙ c.if-not-parted_at.false) w.if-number-start-2.false
      | else-stands_at-via-else-stands_at w ↦ more_digits c.digits_from-number.ensures (sym c.parted_at.ensures ∙ c.if-not-parted_at.false) c.if-number-start.false (sym c.stands_at.ensures ∙ w.if-stands_at.false)
    ]
