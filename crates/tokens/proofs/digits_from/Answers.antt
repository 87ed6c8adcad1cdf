use Rattle.tokens.proofs.Numbers.{running_more, digit_told, digit_not, value_small, digit_high, front, front_at}
use native.Mathlib.Omega.{arith}
use Prim.Native.Nat.{◌-◌}
use mathlib.Core.Path.{◌≡◌, sym, ◌∙◌}
use lib.ListN.{drop, length, get_or, length-take, length-drop}
use Rattle.tokens.specs.Numbers.{is_digit}
use mathlib.Core.Bool.{true}
use Rattle.std.proofs.lemmas.List.{length_push}
use Rattle.std.proofs.lemmas.Iterator.{YieldsList-from_slice, YieldsList-from_take}
use Rattle.std.proofs.lemmas.Iterator.Consumers.{YieldsList-turn, YieldsList-end}
use Rattle.tokens.proofs.digits_from.Goals as goal

pub overflow_add-value : goal.overflow_add-value
overflow_add-value c =
    let d = digit_told c.in-Some.b.now c.in-Some-digit.d (sym c.digit.ensures ∙ c.in-Some-digit.is) in
    omega (arith, value_small c.loop-b.invariant.1, digit_high _ d.0, d.1)

pub loop-b-preserved : goal.loop-b-preserved
loop-b-preserved c =
    let y = YieldsList-turn (YieldsList-from_take 5 (YieldsList-from_slice (front c.args.text.now c.args.start) cc) cc) c.loop-b.yielded _ c.loop-b.yielded_by _ _ c.in-Some.b c.in-Some.is c.next.ensures.steps in
    let d = digit_told c.in-Some.b.now c.in-Some-digit.d (sym c.digit.ensures ∙ c.in-Some-digit.is) in
    let n = length_push c.loop-b.yielded c.in-Some.b in
    let f = front_at c.args.text.now c.args.start c.loop-b.end c.in-Some.b.now c.loop-b.invariant.0 y.0 y.1 in
    let g : is_digit (get_or c.args.text.now c.loop-b.end 0) ≡ true = rw (← f.1) d.0 in
    (omega (arith, n), rw (← d.1, f.1) (running_more _ _ c.loop-b.invariant.1 f.0 g f.2))

pub returns-in_default : goal.returns-in_default
returns-in_default c =
    let y = YieldsList-turn (YieldsList-from_take 5 (YieldsList-from_slice (front c.args.text.now c.args.start) cc) cc) c.loop-b.yielded _ c.loop-b.yielded_by _ _ c.in-Some.b c.in-Some.is c.next.ensures.steps in
    let f = front_at c.args.text.now c.args.start c.loop-b.end c.in-Some.b.now c.loop-b.invariant.0 y.0 y.1 in
    record { running = c.loop-b.invariant.1; stopped = λ _ i. absurd (digit_not c.in-Some.b.now (sym c.digit.ensures ∙ c.in_default.is) (rw f.1 i)) }

pub returns-in-None : goal.returns-in-None
returns-in-None c =
    let y = YieldsList-end (YieldsList-from_take 5 (YieldsList-from_slice (front c.args.text.now c.args.start) cc) cc) c.loop-b.yielded _ c.loop-b.yielded_by _ _ c.in-None.is c.next.ensures.steps in
    record {
      running = c.loop-b.invariant.1;
      stopped = λ h _. omega (arith, h, c.loop-b.invariant.0, y.1, length-take 5 (front c.args.text.now c.args.start), length-take (length c.args.text.now - c.args.start) (drop c.args.start c.args.text.now), length-drop c.args.start c.args.text.now);
    }
