use lib.Seq.{sets}
use mathlib.Core.Path.{◌≡◌, sym, ap, subst, ◌∙◌}
use mathlib.Core.List.{List, ◌++◌}
use Prim.Native.Nat.{ℕ, ◌+◌, ◌≤◌, ◌<◌}
use native.Mathlib.Omega.{arith}
use borrow.Author.Rules.{rules}
use borrow.Author.Tests.{le-leb, lt-leb}
use lib.ListN.{length, length-append}
use Rattle.meaning.specs.Lines.{count_lines, last_line}
use Rattle.render.specs.Placed.{Rendered}
use Rattle.render.proofs.Lines.{lines_are}
use Rattle.render.specs.Shown.{claim_lines, verdict_line}
use Rattle.render.proofs.Sets.{two_parts, room_rest, sets_over}
use Rattle.render.proofs.render.Goals as goal

pub returns-then-buffer-needed : goal.returns-then-buffer-needed
returns-then-buffer-needed c =
    let printed : (r : ℕ) (b : List ℕ) → Rendered (claim_lines 1 c.args.counts.now ++ verdict_line c.args.verdict) c.args.buffer.now r b → Rendered (count_lines 1 c.args.counts.now ++ last_line c.args.verdict) c.args.buffer.now r b = λ r b h. subst (λ l. Rendered l c.args.buffer.now r b) (sym (lines_are c.args.counts.now c.args.verdict)) h in
    let over-long : length c.args.buffer.now < length (claim_lines 1 c.args.counts.now ++ verdict_line c.args.verdict) = rw length-append (omega arith) in
    printed 0 _ (record { written_is = rw (lt-leb _ _ over-long); buffer_is = rw (lt-leb _ _ over-long) })

pub returns : goal.returns
returns c =
    let printed : (r : ℕ) (b : List ℕ) → Rendered (claim_lines 1 c.args.counts.now ++ verdict_line c.args.verdict) c.args.buffer.now r b → Rendered (count_lines 1 c.args.counts.now ++ last_line c.args.verdict) c.args.buffer.now r b = λ r b h. subst (λ l. Rendered l c.args.buffer.now r b) (sym (lines_are c.args.counts.now c.args.verdict)) h in
    let lines = claim_lines 1 c.args.counts.now ++ verdict_line c.args.verdict in
    let p = two_parts c.put_verdict.ensures.placed c.put_claims.ensures.placed in
    let size : length lines ≡ length (claim_lines 1 c.args.counts.now) + length (verdict_line c.args.verdict) = length-append (claim_lines 1 c.args.counts.now) (verdict_line c.args.verdict) in
    let few : length lines ≤ length c.args.buffer.now = omega arith in
    let first : c.put_claims.new.self.at ≡ 0 = omega (arith, p.starts) in
    printed _ _
    (record {
      written_is = rw (le-leb _ _ few) (omega arith);
      buffer_is = rw (le-leb _ _ few) (search rules ∙ p.written ∙ ap (λ at. sets c.args.buffer.now at lines) first ∙ sets_over lines c.args.buffer.now few);
    })

pub put_claims-requires : goal.put_claims-requires
put_claims-requires c = room_rest (claim_lines 1 c.args.counts.now) (verdict_line c.args.verdict) (record { before = rw length-append (omega arith); within = omega arith }) c.put_verdict.ensures.placed
