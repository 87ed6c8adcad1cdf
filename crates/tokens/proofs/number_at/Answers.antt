use mir.Val.{SFits}
use mir.Syntax.{w32}
use mir.Facts.{to_z-of_z}
use Rattle.tokens.proofs.Numbers.{signed_not, signed_is, minus_zero}
use mathlib.Core.Logic.{⊎_elim}
use mathlib.Core.Path.{sym}
use Rattle.tokens.proofs.number_at.Goals as goal

pub returns-in_err-value : goal.returns-in_err-value
returns-in_err-value c =
    rw c.from_residual.ensures (signed_not _ _ _ (sym c.stands_at-minus.ensures) (rw c.from.ensures at c.in_err-value.ensures))

pub returns-then-minus : goal.returns-then-minus
returns-then-minus c =
    minus_zero _ _ _ (sym c.stands_at-minus.ensures) (rw c.from.ensures at c.in_ok-value.ensures) c.if-value-eq0.true c.if-minus.true

pub returns-else-value-eq0 : goal.returns-else-value-eq0
returns-else-value-eq0 c =
    let f : SFits w32 c.with_sign.result = record { sfits = c.with_sign.type_inv } in
    rw (to_z-of_z f, c.with_sign.ensures)
    (signed_is _ _ _ (sym c.stands_at-minus.ensures) (rw c.from.ensures at c.in_ok-value.ensures) (⊎_elim (λ h _. h.1) (λ h z. absurd (h z)) c.else-value-eq0.either))
