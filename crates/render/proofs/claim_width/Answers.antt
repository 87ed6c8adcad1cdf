use native.Mathlib.Omega.{arith}
use lib.ListN.{length-append}
use Rattle.render.specs.Shown.{named}
use Rattle.render.proofs.claim_width.Goals as goal

pub returns : goal.returns
unfolding named
returns c = simp length-append (omega arith)
