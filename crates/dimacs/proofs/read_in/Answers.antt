use Rattle.dimacs.proofs.Whole.{room_stays, used_within, room_small, too_many, fits}
use Rattle.std.proofs.lemmas.Result.{err_from_is_err_and}
use native.Mathlib.Omega.{arith}
use lib.ListN.{length-replicate}
use lib.IntN.{ℤ}
use mathlib.Core.Logic.{⊎_elim}
use Rattle.dimacs.proofs.read_in.Goals as goal

pub returns-in_err-used : goal.returns-in_err-used
returns-in_err-used g c =
    let p = err_from_is_err_and c.from_residual.result c.from_residual.ensures.1 in
    rw (p.1, p.2) (room_stays _ c.requires.0 c.in_err-used.ensures)

pub returns-then-room-used : goal.returns-then-room-used
returns-then-room-used g c =
    ⊎_elim (λ h. room_small _ c.requires.0 c.in_ok-used.ensures h) (λ h. too_many _ c.requires.0 c.in_ok-used.ensures h.0 h.1) c.then-room-used.either

pub shared_whole_as_front-copied : goal.shared_whole_as_front-copied
shared_whole_as_front-copied g c =
    (omega (arith, used_within c.args.text.now c.requires.0 c.in_ok-used.ensures, c.formula.auto.words, length-replicate {A = ℤ} g.row.N), omega (arith, c.requires.2))

pub returns : goal.returns
returns g c = fits _ c.requires.0 c.in_ok-used.ensures c.if-room-used.false c.if-used-gt-WORDS.false c.copied.ensures
