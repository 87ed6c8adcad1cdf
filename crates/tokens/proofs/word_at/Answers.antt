use Rattle.std.proofs.Common.{rules, tests}
use Rattle.std.proofs.lemmas.Iterator.{IsFirst-from_position, YieldsList-from_slice}
use Rattle.std.proofs.lemmas.Slice.{between_to_end}
use Rattle.tokens.specs.Scan.{parts, word, word_at}
use Rattle.tokens.proofs.Places.{word_found}
use lib.ListN.{length, take, drop}
use native.Mathlib.Omega.{arith}
use Prim.Native.Nat.{◌-◌}
use mathlib.Core.Path.{◌≡◌, ap, ◌∙◌}
use mathlib.Core.Bool.{true, false}
use Rattle.tokens.proofs.word_at.Goals as goal

pub returns : goal.returns
unfolding word_at
returns c =
    let t = c.args.text.now in
    let rest = take (length t - c.args.at) (drop c.args.at t) in
    let m = IsFirst-from_position _ _ _ (λ b. parts b ≡ true) (λ b. parts b ≡ false) c.position.ensures.ran (YieldsList-from_slice rest cc) (λ x q k. search (rules, tests)) (λ x q k. search (rules, tests)) in
    rw c.unwrap_or-end.ensures (word_found rest _ m) ∙ ap word (between_to_end t c.args.at (length t) (omega arith))
