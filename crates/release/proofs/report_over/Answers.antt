use Rattle.std.proofs.Common.{ℕ, List, ◌/◌, length, arith}
use Rattle.std.proofs.lemmas.Result.{err_from_is_err_and}
use Rattle.meaning.specs.Promise.{answer_places}
use Rattle.release.proofs.Turn.{over_few, over_more, over_refused, over_all}
use Rattle.release.proofs.report_over.Goals as goal

-- how many answers there are
abbrev count : List ℕ → ℕ
count ws = length ws / answer_places

pub add-requires : goal.add-requires
add-requires c = omega (arith, over_few c.loop-i.invariant)

pub returns-in_err-figures : goal.returns-in_err-figures
returns-in_err-figures c =
    let p = err_from_is_err_and c.from_residual.result c.from_residual.ensures.1 in
    rw (p.1, p.2) (over_refused (count c.args.answers.now) c.loop-i.invariant (omega arith) c.as_chunks.ensures.front c.add.ensures c.in_err-figures.was)

pub loop-i-preserved : goal.loop-i-preserved
loop-i-preserved c = over_more (count c.args.answers.now) c.loop-i.invariant (omega arith) c.as_chunks.ensures.front c.add.ensures c.in_ok-figures.was

pub returns : goal.returns
returns c = over_all (count c.args.answers.now) c.loop-i.invariant (omega arith)
