use mathlib.Core.Path.{sym, ap, ◌∙◌}
use mathlib.Core.List.{List}
use Prim.Native.Nat.{ℕ, ◌+◌}
use native.Mathlib.Omega.{arith}
use lib.ListN.{length, length-append}
use lib.Seq.{sets, length-sets}
use Rattle.std.specs.Iterator.Adapters.{rev_source, enumerate_source}
use Rattle.std.specs.Slice.Iter.{iter_rest}
use Rattle.render.specs.Shown.{claim_line, claim_lines}
use Rattle.render.proofs.Lines.{last_claim_line}
use Rattle.render.proofs.Sets.{part_left}
use Rattle.render.proofs.Tail.put_claims.Goals as goal
use Rattle.render.proofs.Tail.put_claims.Invariants.{start}

pub put_claim-requires : goal.put_claim-requires
put_claim-requires c =
    let cs = iter_rest (enumerate_source (rev_source c.next.new.self)) in
    let line : List ℕ = claim_line (c.in-Some.i + 1) c.in-Some.count.now in
    let split = last_claim_line cs c.in-Some.count.now c.in-Some.i c.in-Some.ensures.steps.1.0 (omega (arith, c.in-Some.ensures.steps)) in
    record { before = omega (arith, c.loop-i.invariant.1, ap length split, length-append (claim_lines 1 cs) line); within = omega arith }

pub loop-i-preserved : goal.loop-i-preserved
loop-i-preserved c =
    let cs = iter_rest (enumerate_source (rev_source c.next.new.self)) in
    let s = start c.args.self.now.at c.args.counts.now in
    let line : List ℕ = claim_line (c.in-Some.i + 1) c.in-Some.count.now in
    let split = last_claim_line cs c.in-Some.count.now c.in-Some.i c.in-Some.ensures.steps.1.0 (omega (arith, c.in-Some.ensures.steps)) in
    let p = part_left s (claim_lines 1 cs) line (c.loop-i.invariant.1 ∙ ap (λ l. s + length l) split) c.put_claim.ensures.placed in (
      omega (arith, c.in-Some.ensures.steps),
      p.0,
      omega (arith, c.put_claim.ensures.placed),
      c.put_claim.ensures.same_buffer ∙ c.loop-i.invariant.3,
      ap length c.put_claim.ensures.placed.written ∙ length-sets c.loop-i.self.buffer.now c.put_claim.new.self.at line ∙ c.loop-i.invariant.4,
      p.1 ∙ ap (sets c.loop-i.self.buffer.now s) (sym split) ∙ c.loop-i.invariant.5,
    )
