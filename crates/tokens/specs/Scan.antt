-- The tokens of a text, found from left to right: what the code goes by.
use Rattle.std.specs.Prelude.{◌≡◌, Bool, false, not, ◌&&◌, ◌||◌, cond, List, [], ◌∷◌, ℕ, suc, ◌+◌, ◌<◌, ◌≤◌, eqb, ltb, length, get_or, drop}
use Rattle.meaning.specs.Text.{is, blank, Piece, longer}

-- blanks and line ends part tokens
unfoldable pub parts : ℕ → Bool
parts b = is "\n" b || blank b

-- the bytes up to one that parts tokens; up to the line end
unfoldable pub word : List ℕ → List ℕ
word [] = []
word (b ∷ bs) = cond (parts b) [] (b ∷ word bs)

unfoldable pub line : List ℕ → List ℕ
line [] = []
line (b ∷ bs) = cond (is "\n" b) [] (b ∷ line bs)

-- where reading stands: at the first byte of a line, in a comment, between tokens, in a token
pub data Mode : Type 0 where
  fresh : Mode
  comment : Mode
  gap : Mode
  inside : Mode

abbrev pub piece : ℕ → List ℕ → Piece
piece place bytes = record { place = place; bytes = bytes }

-- the tokens from here on
unfoldable pub scan : Mode → ℕ → List ℕ → List Piece
scan fresh place [] = []
scan fresh place (b ∷ bs) =
    cond (is "c" b) (scan comment (suc place) bs)
    (cond (is "\n" b) (scan fresh (suc place) bs)
    (cond (blank b) (scan gap (suc place) bs)
    (longer place b (scan inside (suc place) bs))))
scan comment place [] = []
scan comment place (b ∷ bs) = cond (is "\n" b) (scan fresh (suc place) bs) (scan comment (suc place) bs)
scan gap place [] = []
scan gap place (b ∷ bs) =
    cond (is "\n" b) (scan fresh (suc place) bs)
    (cond (blank b) (scan gap (suc place) bs)
    (longer place b (scan inside (suc place) bs)))
scan inside place [] = piece place [] ∷ []
scan inside place (b ∷ bs) =
    cond (is "\n" b) (piece place [] ∷ scan fresh (suc place) bs)
    (cond (blank b) (piece place [] ∷ scan gap (suc place) bs)
    (longer place b (scan inside (suc place) bs)))

-- ---- by places in the text

-- that byte stands there
unfoldable pub stands : List ℕ → ℕ → ℕ → Bool
stands text at b = ltb at (length text) && eqb (get_or text at 0) b

-- no token reaches to there: a byte that parts tokens, or the text's end
unfoldable pub parted : List ℕ → ℕ → Bool
parted text at = not (ltb at (length text)) || parts (get_or text at 0)

-- where the line ends, and where the word ends
unfoldable pub line_end : List ℕ → ℕ → ℕ
line_end text at = at + length (line (drop at text))

unfoldable pub word_at : List ℕ → ℕ → List ℕ
word_at text at = word (drop at text)

-- the tokens from a place between tokens on; from a line's first byte on
unfoldable pub tokens_from : List ℕ → ℕ → List Piece
tokens_from text at = scan gap at (drop at text)

unfoldable pub lines_from : List ℕ → ℕ → List Piece
lines_from text at = scan fresh at (drop at text)

-- the next token begins there, or it is the text's end
pub record Next (text : List ℕ) (at next : ℕ) : Type 0 where
  pub onward : at ≤ next
  pub within : next ≤ length text
  pub same : tokens_from text at ≡ tokens_from text next
  pub reached : next < length text → parts (get_or text next 0) ≡ false

-- past a comment that begins there
pub record Past (text : List ℕ) (at next : ℕ) : Type 0 where
  pub onward : at ≤ next
  pub within : next ≤ length text
  pub same : lines_from text at ≡ tokens_from text next
