use Rattle.dimacs.proofs.Buffers.{closed}
use mir.Facts.{to_z_pos}
use mir.Val.{to_z}
use mir.Syntax.{w16}
use native.Mathlib.Omega.{arith}
use lib.IntN.{pos}
use lib.ListN.{length}
use mathlib.Core.Path.{◌≡◌}
use Rattle.dimacs.proofs.close.Goals as goal

pub returns : goal.returns
returns c =
    let n : to_z w16 (length c.args.clause.now) ≡ pos (length c.args.clause.now) = to_z_pos w16 (omega (arith, c.requires.0)) in
    rw n (closed _ _ _ c.requires.1 c.copied.ensures)
