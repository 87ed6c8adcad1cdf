use Rattle.dimacs.proofs.Whole.{too_long}
use Rattle.dimacs.proofs.read_words.Goals as goal

pub returns-then-text-gt-TEXT_BYTES : goal.returns-then-text-gt-TEXT_BYTES
returns-then-text-gt-TEXT_BYTES c = too_long _ c.if-text-gt-TEXT_BYTES.true
