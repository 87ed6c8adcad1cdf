-- Bytes written into a lent buffer so that they end before a place; lines are written from the last byte to the first.
use Rattle.std.specs.Prelude.{◌≡◌, List, ℕ, ◌+◌, ◌≤◌, length}
use Rattle.std.proofs.lemmas.List.Edits.{sets}
use Rattle.meaning.specs.Promise.{over, fitting}

-- so many bytes find room before `end`, and that is within the buffer
pub record Room (end : ℕ) (bytes : List ℕ) (buffer : List ℕ) : Type 0 where
  pub before : length bytes ≤ end
  pub within : end ≤ length buffer

-- the bytes end before `end` and begin at `start`; the rest of the buffer stays
pub record Placed (end : ℕ) (bytes : List ℕ) (buffer : List ℕ) (start : ℕ) (buffer' : List ℕ) : Type 0 where
  pub starts : start + length bytes ≡ end
  pub written : buffer' ≡ sets buffer start bytes

-- the bytes stand at the buffer's start, or, where they do not fit, nothing is written
pub record Rendered (bytes : List ℕ) (buffer : List ℕ) (written : ℕ) (buffer' : List ℕ) : Type 0 where
  pub written_is : written ≡ length (fitting (length buffer) bytes)
  pub buffer_is : buffer' ≡ over (fitting (length buffer) bytes) buffer
