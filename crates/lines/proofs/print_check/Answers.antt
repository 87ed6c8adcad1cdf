use mathlib.Core.Path.{refl, sym}
use lib.Seq.{length-take-le}
use Rattle.meaning.specs.Limits.{small}
use Rattle.lines.proofs.Program.{as_rendered, held_within, check_lines_are}
use Rattle.lines.proofs.print_check.Goals as goal

pub slice_bounds-counts-end : goal.slice_bounds-counts-end
slice_bounds-counts-end c =
    held_within small c.args.formula.now c.args.trace.now _ c.check-verdict.new.counts c.check-verdict.result c.held-lines.result c.check-verdict.ensures c.held-lines.ensures

pub slice_bounds-render-end : goal.slice_bounds-render-end
slice_bounds-render-end c =
    sym (length-take-le c.held-lines.result c.check-verdict.new.counts
    (held_within small c.args.formula.now c.args.trace.now _ c.check-verdict.new.counts c.check-verdict.result c.held-lines.result c.check-verdict.ensures c.held-lines.ensures))

pub returns : goal.returns
returns c =
    as_rendered (check_lines_are small c.args.formula.now c.args.trace.now _ c.check-verdict.new.counts c.check-verdict.result c.held-lines.result c.check-verdict.ensures c.held-lines.ensures c.held-lines.result 1024 refl refl) c.render.ensures
