use Rattle.dimacs.proofs.Steps.{ok_some, err_none}
use Rattle.dimacs.proofs.Whole.{bad_header, is_headed, by_clauses}
use Rattle.tokens.proofs.First.{ends_at, ends_one}
use Rattle.std.proofs.lemmas.Result.{err_from_is_err_and}
use Rattle.dimacs.proofs.formula.Goals as goal

pub slice_bounds-header_of-end : goal.slice_bounds-header_of-end
slice_bounds-header_of-end c = ends_at _ _ c.first_line-at.ensures.within c.line_end-end.ensures

pub header_of-requires : goal.header_of-requires
header_of-requires c = ends_one _ _ c.first_line-at.ensures.within c.line_end-end.ensures

pub returns-in_err-sizes : goal.returns-in_err-sizes
returns-in_err-sizes c =
    let p = err_from_is_err_and c.from_residual.result c.from_residual.ensures.1 in
    let e = err_none c.header_of.result _ c.in_err-sizes.ensures.value in
    rw (p.1, p.2, e.1) (bad_header _ _ c.first_line-at.ensures c.line_end-end.ensures c.header_of.result c.header_of.ensures e.0)

pub clauses-requires : goal.clauses-requires
clauses-requires c =
    (is_headed _ _ c.first_line-at.ensures c.line_end-end.ensures c.header_of.result c.header_of.ensures (ok_some c.header_of.result _ c.in_ok-sizes.ensures.value), c.requires)

pub returns : goal.returns
returns c =
    rw (by_clauses _ _ c.first_line-at.ensures c.line_end-end.ensures c.header_of.result c.header_of.ensures (ok_some c.header_of.result _ c.in_ok-sizes.ensures.value)) c.clauses.ensures
