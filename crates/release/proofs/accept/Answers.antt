use Rattle.std.proofs.Common.{◌≡◌, ap, ◌+◌, ◌<◌, ◌≤◌, ◌∷◌, [], ◌++◌, arith, rules}
use Rattle.std.proofs.lemmas.List.Sorted.{answers_always}
use Rattle.std.proofs.lemmas.Result.{err_from_is_err_and}
use Rattle.release.specs.declared.Placed.{Placed}
use Rattle.release.specs.declared.ReportFault.TheVariants.{SumLarge}
use Rattle.release.specs.Report.{answer, most_sum}
use Rattle.release.proofs.More.{largest_within, summed, accepted_first, accepted_more, unless_below, given_is, too_large}
use Rattle.release.proofs.accept.Goals as goal

pub returns-in_err-sum : goal.returns-in_err-sum
returns-in_err-sum c xs e =
    let within : c.args.before.largest.total ≤ c.args.before.sum = rw e (largest_within xs) in
    let large : most_sum < c.args.before.sum + c.args.total = grind (arith, within) in
    let p = err_from_is_err_and c.from_residual.result c.from_residual.ensures.1 in
    let f : c.in_err-sum.field-0.0 ≡ SumLarge = grind arith in
    rw (p.1, p.2, f) (too_large (xs ++ answer c.args.place 0 c.args.total ∷ []) (omega (arith, summed xs c.args.place c.args.total, ap (λ f. f.sum) e)))

pub returns-then-before-eq0 : goal.returns-then-before-eq0
returns-then-before-eq0 c xs e =
    let s : c.in_ok-sum.sum ≡ c.args.before.sum + c.args.total = grind arith in
    given_is (xs ++ answer c.args.place 0 c.args.total ∷ [])
    (rw (s, e) (accepted_first xs c.args.place c.args.total (omega (arith, ap (λ f. f.accepted) e))))
    (grind arith)

pub returns : goal.returns
returns c xs e =
    let this : Placed = record { total = c.args.total; place = c.args.place } in
    let s : c.in_ok-sum.sum ≡ c.args.before.sum + c.args.total = grind arith in
    given_is (xs ++ answer c.args.place 0 c.args.total ∷ [])
    (rw (
      c.min_by_key.ensures (λ p. p.total) (answers_always _ _ _ (λ f a r f' k. search rules)),
      c.max_by_key.ensures (λ p. p.total) (answers_always _ _ _ (λ f a r f' k. search rules)),
      unless_below c.args.total c.args.before.smallest.total this c.args.before.smallest,
      unless_below c.args.before.largest.total c.args.total this c.args.before.largest,
      s,
      e,
    ) (accepted_more xs c.args.place c.args.total (λ none. omega (arith, ap (λ f. f.accepted) e))))
    (grind arith)
