use Rattle.release.proofs.More.{refused_more}
use Rattle.release.proofs.refuse.Goals as goal

pub returns : goal.returns
returns c xs a other e = rw e (refused_more xs a other)
