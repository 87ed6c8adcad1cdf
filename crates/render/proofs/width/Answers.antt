use Rattle.std.proofs.Common.{arith}
use Rattle.render.proofs.Digits.{how_many_digits}
use Rattle.render.proofs.width.Goals as goal

pub returns-clause-value : goal.returns-clause-value
returns-clause-value c =
    how_many_digits c.args.number c.ilog10.result (omega arith)
    (rw c.max.ensures at c.ilog10.ensures.power_le)
    (rw c.max.ensures at c.ilog10.ensures.next_power_gt)
