use mathlib.Core.Logic.{inl, inr, ⊎_elim}
use Rattle.tokens.proofs.Heads.{read_within, sizes_first, sizes_second, sizes_more, sizes_many, sizes_ok}
use Rattle.tokens.proofs.sizes_at.Goals as goal

pub returns-in_err-variables : goal.returns-in_err-variables
returns-in_err-variables c = rw c.from_residual.ensures (sizes_first c.next.ensures c.in_err-variables.ensures)

pub next-requires-2 : goal.next-requires-2
next-requires-2 c =
    read_within _ _ c.next.ensures.within c.in_ok-variables.ensures

pub returns-in_err-clauses : goal.returns-in_err-clauses
returns-in_err-clauses c =
    rw c.from_residual-in_err-clauses.ensures (sizes_second c.next.ensures c.in_ok-variables.ensures c.next-2.ensures c.in_err-clauses.ensures)

pub next-requires-3 : goal.next-requires-3
next-requires-3 c =
    read_within _ _ c.next-2.ensures.within c.in_ok-clauses.ensures

pub returns-then-next-line : goal.returns-then-next-line
returns-then-next-line c =
    sizes_more c.next.ensures c.in_ok-variables.ensures c.next-2.ensures c.in_ok-clauses.ensures c.next-3.ensures c.if-next-line.true

pub returns-then-variables-gt-VARIABLES : goal.returns-then-variables-gt-VARIABLES
returns-then-variables-gt-VARIABLES c =
    let many = sizes_many c.next.ensures c.in_ok-variables.ensures c.next-2.ensures c.in_ok-clauses.ensures c.next-3.ensures c.if-next-line.false in
    many (⊎_elim (λ h. inl h) (λ h. inr h.1) c.then-variables-gt-VARIABLES.either)

pub returns : goal.returns
returns c =
    sizes_ok c.next.ensures c.in_ok-variables.ensures c.next-2.ensures c.in_ok-clauses.ensures c.next-3.ensures c.if-next-line.false c.if-variables-gt-VARIABLES.false c.if-clauses-gt-CLAUSES.false
