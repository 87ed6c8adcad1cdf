-- The first line that is neither comment nor blank, and what follows it. Assumes nothing.
use mathlib.Core.Path.{◌≡◌, refl, sym, ap, ◌∙◌}
use mathlib.Core.Logic.{⊎_elim}
use mathlib.Core.Bool.{Bool, true, false, cond}
use mathlib.Core.List.{List, [], ◌∷◌, map}
use Prim.Native.Nat.{ℕ, suc, min, ◌+◌, ◌<◌, ◌≤◌}
use native.Mathlib.Omega.{arith}
use native.Mathlib.Numerals.{add-one}
use native.Mathlib.Nat.{add-zero, add-suc, suc-add}
use borrow.Author.Tests.{lt-ltb, le-ltb, eqb-true, eqb-false}
use lib.Dec.{eqb, ltb}
use lib.ListN.{length, drop, take, drop_of_length-le}
use lib.Seq.{drop-cons, drop-drop, drop_at, length-take-le, take-add}
use Rattle.meaning.specs.Lists.{keep, flat}
use Rattle.meaning.specs.Text.{is, Piece, cut, tokens, lines}
use Rattle.tokens.specs.Scan.{line, piece, stands, line_end, tokens_from, Next}
use Rattle.tokens.specs.Header.{solid_line, lines_at, FirstLine, OneLine}
use Rattle.tokens.proofs.Lines.{rest, cut_line, streams}
use Rattle.tokens.proofs.Places.{comment_line, line_within, line_onward}
use Rattle.tokens.proofs.Heads.{tokens_are, next_or, begins_drop}

-- ---- the lines after a line

-- where the line has ended
after : ℕ → List ℕ → List Piece
after place [] = []
after place (b ∷ bs) = cut (is "\n") (suc place) bs

rest_after : (bs : List ℕ) (place : ℕ) → rest place bs ≡ after (place + length (line bs)) (drop (length (line bs)) bs)
unfolding rest after line
rest_after [] place = refl
rest_after (b ∷ bs) place = go (is "\n" b) refl (rest_after bs (suc place))
  where
    go : (x : Bool) → is "\n" b ≡ x → rest (suc place) bs ≡ after (suc place + length (line bs)) (drop (length (line bs)) bs)
        → rest place (b ∷ bs) ≡ after (place + length (line (b ∷ bs))) (drop (length (line (b ∷ bs))) (b ∷ bs))
    go true e ih = rw (e, add-zero)
    go false e ih = rw (e, add-suc) (ih ∙ rw suc-add)

-- the lines that count after the line at a place
unfoldable pub lines_after : List ℕ → ℕ → List Piece
lines_after t at = keep solid_line (rest at (drop at t))

module _ (t : List ℕ) (at : ℕ) where
  pub after_line : line_end t at < length t → lines_after t at ≡ lines_at t (line_end t at + 1)
  unfolding lines_after lines_at line_end after
  after_line h =
      ap (keep solid_line)
      (rest_after (drop at t) at ∙ ap (after (line_end t at)) (drop-drop (length (line (drop at t))) at t ∙ drop-cons t (line_end t at) 0 h)
      ∙ ap (λ k. cut (is "\n") k (drop k t)) (sym (add-one (line_end t at))))

  pub after_last : line_end t at ≡ length t → lines_after t at ≡ []
  unfolding lines_after line_end after
  after_last e =
      let h : length t ≤ line_end t at = omega (arith, e) in
      ap (keep solid_line)
      (rest_after (drop at t) at ∙ ap (after (line_end t at)) (drop-drop (length (line (drop at t))) at t ∙ drop_of_length-le t h))

  pub lines_solid : solid_line (piece at (line (drop at t))) ≡ true → lines_at t at ≡ piece at (line (drop at t)) ∷ lines_after t at
  unfolding lines_after lines_at
  lines_solid e = ap (keep solid_line) (cut_line (drop at t) at) ∙ rw e

  pub lines_passed : solid_line (piece at (line (drop at t))) ≡ false → lines_at t at ≡ lines_after t at
  unfolding lines_after lines_at
  lines_passed e = ap (keep solid_line) (cut_line (drop at t) at) ∙ rw e

  pub lines_none : length t ≤ at → lines_at t at ≡ []
  unfolding lines_at
  lines_none h = rw (drop_of_length-le t h)

  -- their tokens are those from the line's end on
  pub after_tokens : flat (map tokens (lines_after t at)) ≡ tokens_from t (line_end t at)
  unfolding lines_after tokens_from line_end
  after_tokens = (streams (drop at t) at).1 ∙ comment_line (drop at t) at ∙ rw drop-drop

pub lines_all : (t : List ℕ) → lines t ≡ lines_at t 0
unfolding lines_at
lines_all t = refl

-- ---- the text up to the line's end

line_takes : (bs : List ℕ) → take (length (line bs)) bs ≡ line bs
unfolding line
line_takes [] = refl
line_takes (b ∷ bs) = go (is "\n" b) (line_takes bs)
  where
    go : (x : Bool) → take (length (line bs)) bs ≡ line bs → take (length (cond x [] (b ∷ line bs))) (b ∷ bs) ≡ cond x [] (b ∷ line bs)
    go true ih = refl
    go false ih = ap (λ l. b ∷ l) ih

line_again : (bs : List ℕ) → line (line bs) ≡ line bs
unfolding line
line_again [] = refl
line_again (b ∷ bs) = go (is "\n" b) refl (line_again bs)
  where
    go : (x : Bool) → is "\n" b ≡ x → line (line bs) ≡ line bs → line (cond x [] (b ∷ line bs)) ≡ cond x [] (b ∷ line bs)
    go true e ih = refl
    go false e ih = rw e (ap (λ l. b ∷ l) ih)

module _ (t : List ℕ) (at : ℕ) (h : at ≤ length t) where
  pub up_to : drop at (take (line_end t at) t) ≡ line (drop at t)
  unfolding line_end
  up_to = ap (drop at) (take-add at (length (line (drop at t))) t) ∙ drop_at (take at t) _ at (length-take-le at t h) ∙ line_takes (drop at t)

  pub up_to_length : length (take (line_end t at) t) ≡ line_end t at
  up_to_length = length-take-le (line_end t at) t (line_within t at h)

  ends_there : line_end (take (line_end t at) t) at ≡ line_end t at
  unfolding line_end
  ends_there = ap (λ l. at + length (line l)) up_to ∙ ap (λ l. at + length l) (line_again (drop at t))

  pub up_to_one : OneLine (take (line_end t at) t) at
  up_to_one = record { within = rw up_to_length (line_onward t at); ends = ends_there ∙ sym up_to_length }

-- ---- is it solid

module _ {t : List ℕ} {at : ℕ} (o : OneLine t at) where
  pub solid_comment : stands t at 99 ≡ true → false ≡ solid_line (piece at (drop at t))
  solid_comment e = rw (begins_drop "c" t at, e)

  pub solid_tokens : {a : ℕ} → Next t at a → stands t at 99 ≡ false → ltb a (length t) ≡ solid_line (piece at (drop at t))
  solid_tokens {a} n e = rw (begins_drop "c" t at, e, tokens_are o) (⊎_elim (λ y. rw (y.1, lt-ltb a (length t) y.0)) (λ y. rw (y.1, le-ltb a (length t) y.0)) (next_or n))

-- ---- from line to line

module _ (t : List ℕ) (at : ℕ) (h : at ≤ length t) {e : ℕ} (i : e ≡ line_end t at) where
  pub ends_at : e ≡ length (take e t)
  ends_at = rw i (sym (up_to_length t at h))

  pub ends_one : OneLine (take e t) at
  ends_one = rw i (up_to_one t at h)

  -- what `solid` answers of the text up to the line's end, it answers of the line
  of_line : {r x : Bool} → r ≡ solid_line (piece at (drop at (take e t))) → r ≡ x → solid_line (piece at (line (drop at t))) ≡ x
  of_line s y = ap (λ l. solid_line (piece at l)) (sym (up_to t at h)) ∙ ap (λ k. solid_line (piece at (drop at (take k t)))) (sym i) ∙ sym s ∙ y

  module _ (same : lines t ≡ lines_at t at) {r : Bool} (s : r ≡ solid_line (piece at (drop at (take e t)))) where
    pub found : r ≡ true → FirstLine t at
    found y = record { within = h; same = same; reached = λ _. of_line s y }

    module _ (n : r ≡ false) where
      passed : lines t ≡ lines_after t at
      passed = same ∙ lines_passed t at (of_line s n)

      -- on to the next line, or to the text's end
      pub next_line : (min (length t) (e + 1) ≤ length t) × (lines t ≡ lines_at t (min (length t) (e + 1)))
      next_line = (omega arith, go (eqb e (length t)) refl)
        where
          go : (x : Bool) → eqb e (length t) ≡ x → lines t ≡ lines_at t (min (length t) (e + 1))
          go true q =
              let l = eqb-true e (length t) q in
              let m : min (length t) (e + 1) ≡ length t = omega arith in
              passed ∙ after_last t at (sym i ∙ l) ∙ sym (lines_none t (length t) (omega arith)) ∙ ap (lines_at t) (sym m)
          go false q =
              let l = eqb-false e (length t) q in
              let k : e < length t = omega (arith, line_within t at h, l) in
              let m : min (length t) (e + 1) ≡ e + 1 = omega arith in
              passed ∙ rw i (after_line t at (rw i at k)) ∙ ap (lines_at t) (sym m)

  pub ends_onward : at ≤ e
  ends_onward = omega (arith, line_onward t at)
