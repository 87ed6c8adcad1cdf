use Rattle.tokens.proofs.Places.{line_stops, line_goes, line_ends}
use mathlib.Core.Path.{sym, ◌∙◌}
use native.Mathlib.Omega.{arith}
use Rattle.tokens.proofs.line_end.Goals as goal

pub returns-then-text-at-eq10 : goal.returns-then-text-at-eq10
returns-then-text-at-eq10 c = sym (line_stops _ _ (omega arith) c.if-text-at-eq10.true) ∙ c.loop-at.invariant.0

pub loop-at-preserved : goal.loop-at-preserved
loop-at-preserved c = (sym (line_goes _ _ (omega arith) c.if-text-at-eq10.false) ∙ c.loop-at.invariant.0, omega arith)

pub returns : goal.returns
returns c =
    let e = line_ends c.args.text.now c.loop-at.at c.loop-at-test.false in
    omega (arith, c.loop-at.invariant.0, e)
