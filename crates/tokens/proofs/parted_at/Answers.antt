use Rattle.std.proofs.Common.{rules}
use Rattle.tokens.proofs.Places.{parted_got}
use Rattle.tokens.proofs.parted_at.Goals as goal

pub returns : goal.returns
returns c = parted_got _ _ _ _ _ c.get.ensures.lookup c.is_none_or.ensures (λ x q. search rules)
