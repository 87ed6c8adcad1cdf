use mathlib.Core.Path.{refl}
use Prim.Native.Nat.{◌-◌}
use native.Mathlib.Omega.{arith}
use Rattle.meaning.specs.Limits.{small}
use Rattle.lines.proofs.Program.{as_printed, program_words, program_fault}
use Rattle.lines.proofs.print.Goals as goal

pub returns-in-Words : goal.returns-in-Words
returns-in-Words c =
    as_printed (program_words small c.args.text.now c.args.trace.now _ c.read.new.room refl c.in-Words.count refl c.in-Words.is c.read.ensures) c.print_trace.ensures

pub returns-in-Faulty : goal.returns-in-Faulty
returns-in-Faulty c =
    as_printed (program_fault small c.args.text.now c.args.trace.now _ c.read.new.room refl c.in-Faulty.is c.read.ensures) c.render_refusal.ensures
