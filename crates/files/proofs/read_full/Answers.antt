-- A read that gave bytes: the buffer begins with what was there and then with these.
use Rattle.std.proofs.Common.{ℕ, ◌≡◌, ◌+◌, ◌-◌, ◌≤◌, ◌++◌, List, length, take, sym, ap, subst, ◌∙◌, arith}
use Rattle.std.proofs.Math.Seq.{take-append-add}
use Rattle.std.proofs.lemmas.List.{take-append-le, length-take-le}
use Rattle.std.proofs.KnownBytes.{Consumes-trans}
use Rattle.std.specs.Io.KnownBytes.{Consumes}
use borrow.Rule.Slice.PartMut.{put_mid, post_of}
use Rattle.files.proofs.read_full.Goals as goal

taken : (a k n : ℕ) (xs ys : List ℕ) → a ≤ length xs → n ≤ length ys → take (a + n) (put_mid a k xs ys) ≡ take a xs ++ take n ys
taken a k n xs ys few some =
    let at : a ≡ length (take a xs) = sym (length-take-le a xs few) in
    ap (λ m. take (m + n) (take a xs ++ (ys ++ post_of a k xs))) at
    ∙ take-append-add (take a xs) (ys ++ post_of a k xs) n
    ∙ ap (λ l. take a xs ++ l) (take-append-le n ys (post_of a k xs) some)

pub loop-done-preserved : goal.loop-done-preserved
loop-done-preserved g c =
    let within : c.in-Ok.count ≤ length c.read.new.buf = omega (arith, c.in-Ok.ensures.bound) in
    let e = taken c.loop-done.done (length c.loop-done.buffer - c.loop-done.done) c.in-Ok.count c.loop-done.buffer c.read.new.buf c.loop-done.invariant.0 within in
    (omega arith, subst (Consumes _ _) (sym e) (Consumes-trans _ _ _ _ _ c.loop-done.invariant.1 c.in-Ok.ensures.bytes.0))
