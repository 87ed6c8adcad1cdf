use Rattle.std.proofs.Common.{rules}
use Rattle.dimacs.specs.Clause.{Spliced}
use Rattle.dimacs.proofs.Buffers.{moved_more, moved_set}
use Rattle.words.proofs.Words.{back}
use Prim.Native.Nat.{ℕ, ◌+◌, ◌-◌}
use native.Mathlib.Omega.{arith}
use mir.Val.{to_z, of_z}
use mir.Syntax.{w16}
use mathlib.Core.Path.{◌≡◌, subst}
use lib.IntN.{pos}
use lib.ListN.{get_or, set}
use Rattle.dimacs.proofs.splice.Goals as goal

pub loop-i-preserved : goal.loop-i-preserved
loop-i-preserved c =
    let b : to_z w16 (of_z w16 (get_or c.loop-i.clause (c.loop-i.i - 1) (pos 0))) ≡ get_or c.loop-i.clause (c.loop-i.i - 1) (pos 0) = search rules in
    let e : c.loop-i.i - 1 + 1 ≡ c.loop-i.i = omega (arith, c.loop-i-test.true) in
    rw (b, e) (omega (arith, c.loop-i-test.true), omega (arith, c.loop-i.invariant.1), c.loop-i.invariant.2, moved_more _ _ c.loop-i.invariant.2 c.loop-i.invariant.3 (omega (arith, c.loop-i-test.true)) c.loop-i.invariant.1)

pub returns : goal.returns
returns c =
    let e : c.loop-i.i ≡ c.args.at = omega (arith, c.loop-i-test.false) in
    rw (back c.ranges.literal)
    (subst (λ (n : ℕ). Spliced c.args.clause.now c.args.k n c.args.literal (set c.loop-i.clause n c.args.literal)) e (moved_set _ _ c.loop-i.invariant.2 c.loop-i.invariant.3 c.args.literal c.loop-i.invariant.1))
