use Rattle.tokens.proofs.First.{lines_all, ends_at, ends_one, found, next_line, ends_onward}
use Rattle.tokens.proofs.Places.{line_within}
use native.Mathlib.Omega.{arith}
use Rattle.tokens.proofs.first_line.Goals as goal

pub loop-at-init : goal.loop-at-init
loop-at-init c = (omega arith, lines_all _)

pub slice_bounds-solid-end : goal.slice_bounds-solid-end
slice_bounds-solid-end c = ends_at _ _ c.loop-at.invariant.0 c.line_end-end.ensures

pub solid-requires : goal.solid-requires
solid-requires c = ends_one _ _ c.loop-at.invariant.0 c.line_end-end.ensures

pub returns-then-solid : goal.returns-then-solid
returns-then-solid c =
    found _ _ c.loop-at.invariant.0 c.line_end-end.ensures c.loop-at.invariant.1 c.solid.ensures c.if-solid.true

pub overflow_add-end : goal.overflow_add-end
overflow_add-end c = omega (arith, c.line_end-end.ensures, line_within c.args.text.now c.loop-at.at c.loop-at.invariant.0)

pub loop-at-smaller : goal.loop-at-smaller
loop-at-smaller c = omega (arith, ends_onward _ _ c.loop-at.invariant.0 c.line_end-end.ensures)

pub loop-at-preserved : goal.loop-at-preserved
loop-at-preserved c =
    rw c.min-at.ensures
    (next_line _ _ c.loop-at.invariant.0 c.line_end-end.ensures c.loop-at.invariant.1 c.solid.ensures c.if-solid.false)
