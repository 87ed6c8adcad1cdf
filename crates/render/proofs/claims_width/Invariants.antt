use mathlib.Core.Path.{◌≡◌}
use Prim.Native.Nat.{◌+◌, ◌*◌, ◌≤◌}
use lib.ListN.{length, drop}
use Rattle.render.specs.Shown.{claim_lines}
use Rattle.render.proofs.claims_width.Given as goal

-- `render::claims_width` meets its contract: the bytes counted and those of the lines left are the lines'. Assumes nothing.
abbrev pub invariant-loop-i : goal.invariant-loop-i
invariant-loop-i l = (l.needed ≤ 54 * l.i) × (l.needed + length (claim_lines (l.i + 1) (drop l.i l.counts)) ≡ length (claim_lines 1 l.counts))
