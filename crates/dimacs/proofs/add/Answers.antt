use Rattle.words.proofs.Words.{back}
use Rattle.dimacs.proofs.Rising.{searchable, within_all, twice, full, put}
use Rattle.dimacs.proofs.add.Goals as goal

pub returns-in_default : goal.returns-in_default
returns-in_default c =
    let m = rw (back c.ranges.literal) at c.magnitude-v.ensures in
    twice c.args.literal c.requires.0 c.requires.1 c.in_default.ensures.bound (rw m at c.in_default.ensures.position)

pub returns-then-k-eq-CLAUSE_LENGTH : goal.returns-then-k-eq-CLAUSE_LENGTH
returns-then-k-eq-CLAUSE_LENGTH c =
    let m = rw (back c.ranges.literal) at c.magnitude-v.ensures in
    let p = rw m at c.in-Err.ensures.position in
    full c.args.literal c.requires.0 c.requires.1 c.in-Err.ensures.bound (p (searchable c.args.literal c.requires.0 c.requires.1)) c.if-k-eq-CLAUSE_LENGTH.true

pub splice-requires : goal.splice-requires
splice-requires c = within_all c.args.literal c.requires.0 c.requires.1 c.in-Err.ensures.bound c.if-k-eq-CLAUSE_LENGTH.false

pub returns : goal.returns
returns c =
    let m = rw (back c.ranges.literal) at c.magnitude-v.ensures in
    let p = rw m at c.in-Err.ensures.position in
    put c.args.literal c.requires.0 c.requires.1 c.in-Err.ensures.bound (p (searchable c.args.literal c.requires.0 c.requires.1)) c.if-k-eq-CLAUSE_LENGTH.false (rw (back c.ranges.literal) at c.splice.ensures)
