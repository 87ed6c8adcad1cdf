use Rattle.std.proofs.Common.{rules}
use Rattle.std.proofs.lemmas.List.Sorted.{answers_always}
use Rattle.dimacs.proofs.Rising.{at_end, at_start}
use lib.IntN.{nat_abs}
use Rattle.dimacs.proofs.spot.Goals as goal

pub returns-in-len1-up-clause-position : goal.returns-in-len1-up-clause-position
returns-in-len1-up-clause-position c = λ r. at_end _ _ c.in-len1-up.len_at_least r (rw c.order.ensures at c.if-order-v.true)

pub returns-in-len1-up-2-clause-position : goal.returns-in-len1-up-2-clause-position
returns-in-len1-up-2-clause-position c = λ r. at_start _ _ c.in-len1-up.len_at_least r (rw c.order-2.ensures at c.if-v-order.true)

pub returns-in_default-clause-position : goal.returns-in_default-clause-position
returns-in_default-clause-position c = c.binary_search_by_key.ensures.position nat_abs (answers_always _ _ _ (λ f a r q k. search rules))
