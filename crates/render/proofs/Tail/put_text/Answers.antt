use Rattle.std.proofs.Common.{◌-◌, length, arith}
use Rattle.render.proofs.Sets.{copied}
use Rattle.render.proofs.Tail.put_text.Goals as goal

pub returns-clause-placed : goal.returns-clause-placed
returns-clause-placed c =
    let text = c.args.text.now in
    record { starts = omega arith; written = rw c.copy_from_slice.ensures.after (copied c.args.self.now.buffer.now text (c.args.self.now.at - length text) c.args.self.now.at (omega arith) (omega arith)) }
