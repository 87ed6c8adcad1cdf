use Rattle.std.proofs.Common.{rules}
use Rattle.release.specs.Report.{smallest_of, largest_of}
use Rattle.release.proofs.nothing.Goals as goal

-- `release::nothing` meets its contract. Assumes nothing.
pub returns : goal.returns
unfolding smallest_of largest_of
returns c = search rules
