-- The header's line and its two numbers.
use Rattle.std.specs.Prelude.{◌≡◌, Bool, true, not, ◌&&◌, List, [], map, ℕ, ◌<◌, ◌≤◌, eqb, leb, length, get_or, drop, Some, None}
use Rattle.std.specs.Prelude as std
use Rattle.std.proofs.Math.Option.{Option, none, some}
use Rattle.meaning.specs.Lists.{keep, is_empty, given, only}
use Rattle.meaning.specs.Limits.{small}
use Rattle.meaning.specs.Text.{is, begins, Piece, cut, tokens, lines, numeral}
use Rattle.tokens.specs.declared.Sizes.{Sizes}
use Rattle.tokens.specs.Scan.{line, piece, line_end}

-- a line that is no comment and not blank
abbrev pub solid_line : Piece → Bool
solid_line l = not (begins "c" l.bytes) && not (is_empty (tokens l))

-- such lines from a line's first byte on
unfoldable pub lines_at : List ℕ → ℕ → List Piece
lines_at text at = keep solid_line (cut (is "\n") at (drop at text))

-- the first such line begins there, or it is the text's end
pub record FirstLine (text : List ℕ) (at : ℕ) : Type 0 where
  pub within : at ≤ length text
  pub same : lines text ≡ lines_at text at
  pub reached : at < length text → solid_line (piece at (line (drop at text))) ≡ true

-- the text is one line from there on
pub record OneLine (text : List ℕ) (at : ℕ) : Type 0 where
  pub within : at ≤ length text
  pub ends : line_end text at ≡ length text

-- the bytes of the k-th token, from 0
abbrev pub bytes_of : List Piece → ℕ → List ℕ
bytes_of ts k = get_or (map (λ t. t.bytes) ts) k []

-- two tokens, the header's numbers
unfoldable pub sizes_of : List Piece → Option (ℕ × ℕ)
sizes_of ts =
    given (numeral (bytes_of ts 0)) (λ n.
    given (numeral (bytes_of ts 1)) (λ m.
    only (eqb (length ts) 2 && leb n small.variables && leb m small.clauses) (n, m)))

abbrev pub head_read : std.Option Sizes → Option (ℕ × ℕ)
head_read (Some s) = some (s.variables, s.clauses)
head_read None = none
