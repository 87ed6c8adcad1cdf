use native.Mathlib.Omega.{arith}
use lib.ListN.{length-append}
use Rattle.render.specs.Shown.{named}
use Rattle.render.proofs.verdict_width.Goals as goal

pub returns-in-Accepted : goal.returns-in-Accepted
unfolding named
returns-in-Accepted c = rw c.in-Accepted.is (simp length-append (omega arith))

pub returns-in-Refused : goal.returns-in-Refused
unfolding named
returns-in-Refused c = rw c.in-Refused.is (simp length-append (omega arith))
