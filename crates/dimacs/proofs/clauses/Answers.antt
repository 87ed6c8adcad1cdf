use Rattle.dimacs.proofs.Buffers.{two_set}
use Rattle.dimacs.proofs.Steps.{read_size, read_word, ok_some, err_none, end_within, stand_closed, stand_added}
use Rattle.dimacs.proofs.Steps.{going_none, no_number, fault_6, fault_4, fault_5, too_few, all_read}
use Rattle.std.proofs.lemmas.Result.{err_from_is_err_and}
use Rattle.tokens.specs.Numbers.{SignedRead}
use mir.Facts.{to_z_pos}
use mir.Val.{to_z}
use mir.Syntax.{w16}
use lib.IntN.{pos}
use lib.ListN.{length-set}
use native.Mathlib.Omega.{arith}
use mathlib.Core.Path.{◌≡◌, refl, subst, ◌∙◌}
use mathlib.Core.List.{[]}
use Rattle.dimacs.proofs.clauses.Goals as goal

pub loop-at-init : goal.loop-at-init
loop-at-init c =
    let n : to_z w16 c.args.sizes.variables ≡ pos c.args.sizes.variables = to_z_pos w16 (omega (arith, c.requires.0.few_variables)) in
    let m : to_z w16 c.args.sizes.clauses ≡ pos c.args.sizes.clauses = to_z_pos w16 (omega (arith, c.requires.0.few_clauses)) in
    rw (n, m) (
      record {
        s = record { ended = []; current = [] };
        going = going_none c.requires.1.clause_long (two_set c.args.words.now _ _ (omega (arith, c.requires.1.enough))) c.next-at.ensures;
        few_variables = c.requires.0.few_variables;
        short = c.requires.1.short;
        enough = simp length-set c.requires.1.enough;
      },
      refl,
      refl,
    )

pub returns-in_err-number : goal.returns-in_err-number
returns-in_err-number c =
    let p = err_from_is_err_and c.from_residual.result c.from_residual.ensures.1 in
    let e = err_none c.number_at.result _ c.in_err-number.ensures.value in
    rw (p.1, p.2, e.1) (no_number c.loop-at.invariant.0.going c.loop-at-test.true (subst (SignedRead _ _) e.0 c.number_at.ensures))

pub next-after-requires : goal.next-after-requires
next-after-requires c =
    let r = subst (SignedRead _ _) (ok_some c.number_at.result _ c.in_ok-number.ensures.value) c.number_at.ensures in
    end_within c.loop-at.invariant.0 c.loop-at-test.true r

pub returns-then-ended-sizes : goal.returns-then-ended-sizes
returns-then-ended-sizes c =
    let r = subst (SignedRead _ _) (ok_some c.number_at.result _ c.in_ok-number.ensures.value) c.number_at.ensures in
    fault_6 c.loop-at.invariant.0.going c.loop-at-test.true r c.next-after.ensures c.if-ended-sizes.true

pub returns-then-sizes-size : goal.returns-then-sizes-size
returns-then-sizes-size c =
    let r = subst (SignedRead _ _) (ok_some c.number_at.result _ c.in_ok-number.ensures.value) c.number_at.ensures in
    let u = read_size c.in_ok-number.number.value r.3 c.unsigned_abs-size.ensures.value in
    fault_4 c.loop-at.invariant.0.going c.loop-at-test.true r c.next-after.ensures c.if-ended-sizes.false (rw u at c.if-sizes-size.true)

pub loop-at-preserved-then-size-eq0 : goal.loop-at-preserved-then-size-eq0
loop-at-preserved-then-size-eq0 c =
    let r = subst (SignedRead _ _) (ok_some c.number_at.result _ c.in_ok-number.ensures.value) c.number_at.ensures in
    let u = read_size c.in_ok-number.number.value r.3 c.unsigned_abs-size.ensures.value in (
      stand_closed c.loop-at.invariant.0 c.loop-at-test.true r c.next-after.ensures c.if-ended-sizes.false (rw u at c.if-sizes-size.false) (rw u at c.if-size-eq0.true) c.close.ensures,
      c.close.ensures.as_long ∙ c.loop-at.invariant.1,
      c.loop-at.invariant.2,
    )

pub loop-at-preserved : goal.loop-at-preserved
loop-at-preserved c =
    let r = subst (SignedRead _ _) (ok_some c.number_at.result _ c.in_ok-number.ensures.value) c.number_at.ensures in
    let u = read_size c.in_ok-number.number.value r.3 c.unsigned_abs-size.ensures.value in
    let n = rw u at c.if-sizes-size.false in
    let w = read_word c.in_ok-number.number.value (omega (arith, n, c.requires.0.few_variables)) in (
      stand_added c.loop-at.invariant.0 c.loop-at-test.true r c.next-after.ensures c.if-ended-sizes.false n (rw u at c.if-size-eq0.false) (rw w at c.add.ensures) c.if-add.true,
      c.loop-at.invariant.1,
      c.add.auto.clause ∙ c.loop-at.invariant.2,
    )

pub returns-else-add : goal.returns-else-add
returns-else-add c =
    let r = subst (SignedRead _ _) (ok_some c.number_at.result _ c.in_ok-number.ensures.value) c.number_at.ensures in
    let u = read_size c.in_ok-number.number.value r.3 c.unsigned_abs-size.ensures.value in
    let n = rw u at c.if-sizes-size.false in
    let w = read_word c.in_ok-number.number.value (omega (arith, n, c.requires.0.few_variables)) in
    fault_5 c.loop-at.invariant.0.going c.loop-at-test.true r c.next-after.ensures c.if-ended-sizes.false n (rw u at c.if-size-eq0.false) (rw w at c.add.ensures) c.if-add.false

pub returns-then-ended-sizes-2 : goal.returns-then-ended-sizes-2
returns-then-ended-sizes-2 c = all_read c.loop-at.invariant.0.going c.loop-at-test.false c.if-ended-sizes-2.true c.loop-at.invariant.0.enough

pub returns : goal.returns
returns c = too_few c.loop-at.invariant.0.going c.loop-at-test.false c.if-ended-sizes-2.false
