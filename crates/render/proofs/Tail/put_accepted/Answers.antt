use Rattle.render.proofs.Sets.{two_parts}
use Rattle.render.proofs.Tail.put_accepted.Goals as goal

pub returns-clause-placed : goal.returns-clause-placed
returns-clause-placed c = two_parts c.put_text.ensures.placed c.put_named.ensures.placed
