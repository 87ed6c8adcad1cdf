-- The lines of a check, one by one from either end, and that they are those of `meaning`. Assumes nothing.
use mathlib.Core.Path.{◌≡◌, refl, sym, ap, ap₂, ◌∙◌}
use mathlib.Core.List.{List, [], ◌∷◌, ◌++◌, append_assoc, append-nil}
use Prim.Native.Nat.{ℕ, suc, ◌+◌}
use native.Mathlib.Nat.{add-zero, add-suc, suc-add}
use native.Mathlib.Omega.{arith}
use lib.ListN.{length}
use Rattle.meaning.specs.Text.{bytes}
use Rattle.meaning.specs.Lines.{decimal, count_lines, last_line}
use Rattle.meaning.specs.declared.Verdict.{Verdict}
use Rattle.meaning.specs.declared.Verdict.TheVariants.{Accepted, Refused}
use Rattle.render.specs.Shown.{shown, named, pair_line, claim_line, claim_lines, verdict_line}

one_more : (k : ℕ) (cs : List ℕ) (c : ℕ) → claim_lines k (cs ++ c ∷ []) ≡ claim_lines k cs ++ claim_line (k + length cs) c
one_more k [] c = append-nil (claim_line k c) ∙ ap (λ n. claim_line n c) (sym (add-zero k))
one_more k (x ∷ cs) c =
    ap (λ l. claim_line k x ++ l) (one_more (suc k) cs c ∙ ap (λ n. claim_lines (suc k) cs ++ claim_line n c) (suc-add k (length cs) ∙ sym (add-suc k (length cs))))
    ∙ sym (append_assoc (claim_line k x) (claim_lines (suc k) cs) (claim_line (k + suc (length cs)) c))

-- the last line, of the claim behind i others
pub last_claim_line : {all : List ℕ} (cs : List ℕ) (c i : ℕ) → all ≡ cs ++ c ∷ [] → i ≡ length cs → claim_lines 1 all ≡ claim_lines 1 cs ++ claim_line (i + 1) c
last_claim_line cs c i split e = ap (claim_lines 1) split ∙ one_more 1 cs c ∙ ap (λ n. claim_lines 1 cs ++ claim_line n c) (omega arith)

-- ---- meaning's

pair_is : (first : List ℕ) (number : ℕ) (second : List ℕ) (value : ℕ) → first ++ decimal number ++ second ++ decimal value ++ bytes "\n" ≡ pair_line first number second value
unfolding shown named
pair_is first number second value = ap (λ l. l ++ bytes "\n") (append_assoc (first ++ decimal number) second (decimal value))

claims_are : (k : ℕ) (counts : List ℕ) → count_lines k counts ≡ claim_lines k counts
claims_are k [] = refl
claims_are k (c ∷ cs) = ap₂ ◌++◌ (pair_is (bytes "claim ") k (bytes " count ") c) (claims_are (suc k) cs)

verdict_is : (v : Verdict) → last_line v ≡ verdict_line v
unfolding shown named
verdict_is (Accepted total) = refl
verdict_is (Refused number place) = pair_is (bytes "refused ") number (bytes " at ") place

pub lines_are : (counts : List ℕ) (v : Verdict) → count_lines 1 counts ++ last_line v ≡ claim_lines 1 counts ++ verdict_line v
lines_are counts v = ap₂ ◌++◌ (claims_are 1 counts) (verdict_is v)
