use mathlib.Core.Path.{refl, sym, ap, ◌∙◌}
use mathlib.Core.List.{[]}
use native.Mathlib.Omega.{arith}
use lib.ListN.{length-set}
use lib.Seq.{sets}
use Rattle.render.specs.Shown.{shown}
use Rattle.render.proofs.Digits.{first_digit, next_digit, some_digit}
use Rattle.render.proofs.Tail.put_number.Goals as goal
use Rattle.render.proofs.Tail.put_number.Invariants.{start}

pub overflow_sub-self : goal.overflow_sub-self
overflow_sub-self c = some_digit [] (start c.args.self.now.at c.args.number) c.loop-rest.self.at c.loop-rest.rest _ c.loop-rest.invariant.1 c.loop-rest.invariant.0 refl

pub bounds-self-self : goal.bounds-self-self
bounds-self-self c = omega (arith, c.loop-rest.invariant, (some_digit [] (start c.args.self.now.at c.args.number) c.loop-rest.self.at c.loop-rest.rest _ c.loop-rest.invariant.1 c.loop-rest.invariant.0 refl))

pub returns-then-rest-lt10-clause-placed : goal.returns-then-rest-lt10-clause-placed
returns-then-rest-lt10-clause-placed c =
    let s = start c.args.self.now.at c.args.number in
    let t = first_digit c.loop-rest.self.buffer.now s c.loop-rest.self.at c.loop-rest.rest c.digit.result c.loop-rest.invariant.1 c.loop-rest.invariant.0 c.digit.ensures c.if-rest-lt10.true in
    record { starts = omega (arith, t.0); written = t.1 ∙ c.loop-rest.invariant.5 ∙ ap (λ k. sets c.args.self.now.buffer.now k (shown c.args.number)) (sym t.0) }

pub loop-rest-preserved : goal.loop-rest-preserved
loop-rest-preserved c =
    let s = start c.args.self.now.at c.args.number in
    let t = next_digit c.loop-rest.self.buffer.now s c.loop-rest.self.at c.loop-rest.rest c.digit.result c.loop-rest.invariant.1 c.loop-rest.invariant.0 c.digit.ensures c.if-rest-lt10.false in
    (t.0, omega arith, omega arith, c.loop-rest.invariant.3, simp length-set c.loop-rest.invariant.4, t.1 ∙ c.loop-rest.invariant.5)
