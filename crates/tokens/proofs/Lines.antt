-- The pieces of the definition are those of the scan from left to right. Assumes nothing.
use mathlib.Core.Path.{◌≡◌, refl, sym, ap, ◌∙◌}
use mathlib.Core.Bool.{Bool, true, false, not, cond}
use mathlib.Core.List.{List, [], ◌∷◌, ◌++◌, map}
use Prim.Native.Nat.{ℕ, suc}
use borrow.Author.Tests.{eqb-true}
use Rattle.meaning.specs.Lists.{keep, is_empty, flat}
use Rattle.meaning.specs.Text.{is, blank, begins, Piece, longer, cut, tokens}
use Rattle.tokens.specs.Header.{solid_line}
use Rattle.tokens.specs.Scan.{line, fresh, comment, gap, inside, piece, scan}

abbrev solid : Piece → Bool
solid t = not (is_empty t.bytes)

-- the first piece whatever it is, then those that are not empty
abbrev first_and : List Piece → List Piece
first_and [] = []
first_and (t ∷ ts) = t ∷ keep solid ts

-- ---- a cut is never empty

data Some : List Piece → Type 0 where
  some : {t : Piece} {ts : List Piece} → Some (t ∷ ts)

some_longer : (place b : ℕ) {ts : List Piece} → Some ts → Some (longer place b ts)
some_longer place b some = some

cut_some : (p : ℕ → Bool) (place : ℕ) (bs : List ℕ) → Some (cut p place bs)
cut_some p place [] = some
cut_some p place (b ∷ bs) = go (p b) (cut_some p (suc place) bs)
  where
    go : (x : Bool) → Some (cut p (suc place) bs) → Some (cond x (piece place [] ∷ cut p (suc place) bs) (longer place b (cut p (suc place) bs)))
    go true s = some
    go false s = some_longer place b s

keep_longer : (place b : ℕ) {ts : List Piece} → Some ts → (rest : List Piece) → keep solid (longer place b ts) ++ rest ≡ longer place b (first_and ts ++ rest)
keep_longer place b some rest = refl

first_longer : (place b : ℕ) {ts : List Piece} → Some ts → (rest : List Piece) → first_and (longer place b ts) ++ rest ≡ longer place b (first_and ts ++ rest)
first_longer place b some rest = refl

-- ---- the tokens of the line that one stands in, then those of the lines after it

module _ (place b : ℕ) (bs : List ℕ) (C R : List Piece) (s : Some C) (g : scan gap (suc place) bs ≡ keep solid C ++ R) (i : scan inside (suc place) bs ≡ first_and C ++ R) where
  gap_step : (y : Bool) → cond y (scan gap (suc place) bs) (longer place b (scan inside (suc place) bs)) ≡ keep solid (cond y (piece place [] ∷ C) (longer place b C)) ++ R
  gap_step true = g
  gap_step false = ap (longer place b) i ∙ sym (keep_longer place b s R)

  inside_step : (y : Bool) → cond y (piece place [] ∷ scan gap (suc place) bs) (longer place b (scan inside (suc place) bs)) ≡ first_and (cond y (piece place [] ∷ C) (longer place b C)) ++ R
  inside_step true = ap (λ ts. piece place [] ∷ ts) g
  inside_step false = ap (longer place b) i ∙ sym (first_longer place b s R)

in_line : (bs : List ℕ) (place : ℕ) → (scan gap place bs ≡ keep solid (cut blank place (line bs)) ++ scan comment place bs) × (scan inside place bs ≡ first_and (cut blank place (line bs)) ++ scan comment place bs)
unfolding scan line
in_line [] place = (refl, refl)
in_line (b ∷ bs) place = go (is "\n" b) (in_line bs (suc place))
  where
    go : (x : Bool) → (scan gap (suc place) bs ≡ keep solid (cut blank (suc place) (line bs)) ++ scan comment (suc place) bs) × (scan inside (suc place) bs ≡ first_and (cut blank (suc place) (line bs)) ++ scan comment (suc place) bs)
        → (cond x (scan fresh (suc place) bs) (cond (blank b) (scan gap (suc place) bs) (longer place b (scan inside (suc place) bs))) ≡ keep solid (cut blank place (cond x [] (b ∷ line bs))) ++ cond x (scan fresh (suc place) bs) (scan comment (suc place) bs))
        × (cond x (piece place [] ∷ scan fresh (suc place) bs) (cond (blank b) (piece place [] ∷ scan gap (suc place) bs) (longer place b (scan inside (suc place) bs))) ≡ first_and (cut blank place (cond x [] (b ∷ line bs))) ++ cond x (scan fresh (suc place) bs) (scan comment (suc place) bs))
    go true ih = (refl, refl)
    go false ih =
        let C = cut blank (suc place) (line bs) in
        let s = cut_some blank (suc place) (line bs) in
        let R = scan comment (suc place) bs in
        (gap_step place b bs C R s ih.0 ih.1 (blank b), inside_step place b bs C R s ih.0 ih.1 (blank b))

pub gap_line : (place : ℕ) (bs : List ℕ) → scan gap place bs ≡ tokens (piece place (line bs)) ++ scan comment place bs
gap_line place bs = (in_line bs place).0

-- ---- the lines

-- the lines after the one that one stands in
unfoldable pub rest : ℕ → List ℕ → List Piece
rest place [] = []
rest place (b ∷ bs) = cond (is "\n" b) (cut (is "\n") (suc place) bs) (rest (suc place) bs)

pub cut_line : (bs : List ℕ) (place : ℕ) → cut (is "\n") place bs ≡ piece place (line bs) ∷ rest place bs
unfolding rest line
cut_line [] place = refl
cut_line (b ∷ bs) place = go (is "\n" b) (cut_line bs (suc place))
  where
    go : (x : Bool) → cut (is "\n") (suc place) bs ≡ piece (suc place) (line bs) ∷ rest (suc place) bs
        → cond x (piece place [] ∷ cut (is "\n") (suc place) bs) (longer place b (cut (is "\n") (suc place) bs)) ≡ piece place (cond x [] (b ∷ line bs)) ∷ cond x (cut (is "\n") (suc place) bs) (rest (suc place) bs)
    go true ih = refl
    go false ih = ap (longer place b) ih

-- the tokens of lines, one line after the other
abbrev pub streamed : List Piece → List Piece
streamed ls = flat (map tokens (keep solid_line ls))

streamed_one : (l : Piece) (ls : List Piece) → flat (map tokens (cond (not (is_empty (tokens l))) (l ∷ ls) ls)) ≡ tokens l ++ flat (map tokens ls)
streamed_one l ls = go (tokens l) refl
  where
    go : (ts : List Piece) → tokens l ≡ ts → flat (map tokens (cond (not (is_empty ts)) (l ∷ ls) ls)) ≡ ts ++ flat (map tokens ls)
    go [] e = refl
    go (t ∷ ts) e = ap (λ us. us ++ flat (map tokens ls)) e

c_line : (b : ℕ) → is "c" b ≡ true → is "\n" b ≡ false
c_line b e = rw (eqb-true b 99 e)

-- ---- a line that is no comment, and a line that is one

pub fresh_gap : (place b : ℕ) (bs : List ℕ) → is "c" b ≡ false → scan fresh place (b ∷ bs) ≡ scan gap place (b ∷ bs)
unfolding scan
fresh_gap place b bs e = rw e

pub fresh_comment : (place b : ℕ) (bs : List ℕ) → is "c" b ≡ true → scan fresh place (b ∷ bs) ≡ scan comment place (b ∷ bs)
unfolding scan
fresh_comment place b bs e = rw (e, c_line b e)

solid_comment : (b : ℕ) (place : ℕ) (bs : List ℕ) → is "c" b ≡ true → solid_line (piece place (line (b ∷ bs))) ≡ false
unfolding line
solid_comment b place bs e = rw (c_line b e) (rw e)

begins_line : (b : ℕ) (bs : List ℕ) → is "c" b ≡ false → begins "c" (line (b ∷ bs)) ≡ false
unfolding line
begins_line b bs e = go (is "\n" b)
  where
    go : (x : Bool) → begins "c" (cond x [] (b ∷ line bs)) ≡ false
    go true = refl
    go false = e

solid_not : (b : ℕ) (place : ℕ) (bs : List ℕ) → is "c" b ≡ false → solid_line (piece place (line (b ∷ bs))) ≡ not (is_empty (tokens (piece place (line (b ∷ bs)))))
solid_not b place bs e = rw (begins_line b bs e)

-- ---- the stream of tokens

module _ (place b : ℕ) (bs : List ℕ) (r : streamed (rest place (b ∷ bs)) ≡ scan comment place (b ∷ bs)) where
  stream_step : (c : Bool) → is "c" b ≡ c → flat (map tokens (cond (solid_line (piece place (line (b ∷ bs)))) (piece place (line (b ∷ bs)) ∷ keep solid_line (rest place (b ∷ bs))) (keep solid_line (rest place (b ∷ bs))))) ≡ scan fresh place (b ∷ bs)
  stream_step true e = rw (solid_comment b place bs e) (r ∙ sym (fresh_comment place b bs e))
  stream_step false e =
      rw (solid_not b place bs e)
      (streamed_one (piece place (line (b ∷ bs))) (keep solid_line (rest place (b ∷ bs)))
      ∙ ap (λ ts. tokens (piece place (line (b ∷ bs))) ++ ts) r
      ∙ sym (gap_line place (b ∷ bs))
      ∙ sym (fresh_gap place b bs e))

pub streams : (bs : List ℕ) (place : ℕ) → (streamed (cut (is "\n") place bs) ≡ scan fresh place bs) × (streamed (rest place bs) ≡ scan comment place bs)
unfolding scan rest
streams [] place = (refl, refl)
streams (b ∷ bs) place =
    let r = after (is "\n" b) (streams bs (suc place)) in
    (ap streamed (cut_line (b ∷ bs) place) ∙ stream_step place b bs r (is "c" b) refl, r)
  where
    after : (x : Bool) → (streamed (cut (is "\n") (suc place) bs) ≡ scan fresh (suc place) bs) × (streamed (rest (suc place) bs) ≡ scan comment (suc place) bs)
        → streamed (cond x (cut (is "\n") (suc place) bs) (rest (suc place) bs)) ≡ cond x (scan fresh (suc place) bs) (scan comment (suc place) bs)
    after true ih = ih.0
    after false ih = ih.1
