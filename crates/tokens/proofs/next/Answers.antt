use Rattle.tokens.proofs.Places.{got_some, got_none, gap_line_end, gap_blank, no_part}
use native.Mathlib.Omega.{arith}
use mathlib.Core.Path.{sym, ◌∙◌}
use Rattle.tokens.proofs.next.Goals as goal

pub loop-b-preserved-then-b-eq10 : goal.loop-b-preserved-then-b-eq10
loop-b-preserved-then-b-eq10 c =
    let g = got_some _ _ _ c.get.ensures.lookup c.in-Some.is in
    (omega (arith, c.past_comment-at.ensures.onward), c.past_comment-at.ensures.within, c.loop-b.invariant.2 ∙ gap_line_end _ _ g.0 (sym g.1 ∙ c.if-b-eq10.true) ∙ c.past_comment-at.ensures.same)

pub loop-b-preserved : goal.loop-b-preserved
loop-b-preserved c =
    let g = got_some _ _ _ c.get.ensures.lookup c.in-Some.is in
    (omega arith, omega arith, c.loop-b.invariant.2 ∙ gap_blank _ _ g.0 (rw (← g.1, ← c.is_blank.ensures) c.if-is_blank.true))

pub returns-else-is_blank : goal.returns-else-is_blank
returns-else-is_blank c =
    let g = got_some _ _ _ c.get.ensures.lookup c.in-Some.is in
    record { onward = c.loop-b.invariant.0; within = c.loop-b.invariant.1; same = c.loop-b.invariant.2; reached = λ h. rw (← g.1) (no_part _ c.if-b-eq10.false (sym c.is_blank.ensures ∙ c.if-is_blank.false)) }

pub returns-in_default : goal.returns-in_default
returns-in_default c =
    let h = got_none _ _ c.get.ensures.lookup c.in_default.is in
    record { onward = c.loop-b.invariant.0; within = c.loop-b.invariant.1; same = c.loop-b.invariant.2; reached = λ i. absurd (omega arith) }
