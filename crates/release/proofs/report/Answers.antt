use mathlib.Core.Path.{◌≡◌, sym, ◌∙◌}
use mathlib.Core.Bool.{true, false}
use Rattle.release.specs.Report.{well_formed, report_of}
use Rattle.release.proofs.report.Goals as goal

pub returns-then-well_formed : goal.returns-then-well_formed
unfolding report_of
returns-then-well_formed c =
    let formed : well_formed c.args.answers.now ≡ true = sym c.well_formed-2.ensures ∙ c.if-well_formed.true in
    rw formed c.report_over.ensures

pub returns-else-well_formed : goal.returns-else-well_formed
unfolding report_of
returns-else-well_formed c =
    let malformed : well_formed c.args.answers.now ≡ false = sym c.well_formed-2.ensures ∙ c.if-well_formed.false in
    rw malformed
