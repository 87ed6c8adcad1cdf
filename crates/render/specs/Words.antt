-- The words of a trace file's bytes in a lent room.
use Rattle.std.specs.Prelude.{◌≡◌, cond, List, ℕ, ◌+◌, ◌*◌, ◌-◌, ◌≤◌, ltb, ℤ, pos, negsuc, length, take}
use Rattle.meaning.specs.Lines.{words_of}
use Rattle.meaning.specs.Promise.{over}

-- the word of two bytes, the low one first
abbrev pub word_of : ℕ → ℕ → ℤ
word_of low high = cond (ltb high 128) (pos (low + 256 * high)) (negsuc (65535 - (low + 256 * high)))

-- the room has the words in its first places, and the others stay; the last two fields follow, and are stated so that
-- `&words[0..count]` of a caller needs no proof
pub record Unpacked (bytes : List ℕ) (before : List ℤ) (count : ℕ) (words : List ℤ) : Type 0 where
  pub room_is : words ≡ over (words_of bytes) before
  pub words_are : take count words ≡ words_of bytes
  pub within : count ≤ length words
