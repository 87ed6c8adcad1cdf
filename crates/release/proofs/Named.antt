-- A refusal of the check has a number other than 0. Assumes nothing.
use mathlib.Core.Bool.{Bool, true, false, cond}
use mathlib.Core.List.{List, [], ◌∷◌, ◌++◌}
use mathlib.Core.Option.{Option, none, some}
use Prim.Native.Nat.{ℕ, ◌<◌}
use native.Mathlib.Omega.{arith}
use lib.Dec.{ltb}
use lib.IntN.{ℤ}
use lib.ListN.{length}
use Rattle.meaning.specs.declared.Verdict.{Verdict}
use Rattle.meaning.specs.declared.Verdict.TheVariants.{Accepted, Refused}
use Rattle.meaning.specs.Lists.{last, first_failing}
use Rattle.meaning.specs.Meaning.{Formula, Claim}
use Rattle.meaning.specs.Limits.{Limits}
use Rattle.meaning.specs.Read.{Read, ok, bad}
use Rattle.meaning.specs.Form.{Line, Entry, Trace, formula, trace}
use Rattle.meaning.specs.Verdict.{Counted, Rule, by_axiom, by_composition, by_join, by_extension, rule_of, claim_of, Way, Outcome, after, is_whole, total, go_on, table, counted, judge, when_read, check}

-- a refusal has a number
abbrev pub Named : Verdict → Type 0
Named (Accepted total) = Unit
Named (Refused number place) = 0 < number

-- each test has one
abbrev Numbered : List (ℕ × Bool) → Type 0
Numbered [] = Unit
Numbered (t ∷ ts) = (0 < t.0) × Numbered ts

-- a failing test's number
abbrev Fails : Option ℕ → Type 0
Fails none = Unit
Fails (some number) = 0 < number

first_numbered : (ts : List (ℕ × Bool)) → Numbered ts → Fails (first_failing ts)
first_numbered [] n = tt
first_numbered (t ∷ ts) n = go t.1 (first_numbered ts n.1)
  where
    go : (b : Bool) → Fails (first_failing ts) → Fails (cond b (first_failing ts) (some t.0))
    go true rest = rest
    go false rest = n.0

module _ (way : Way) (L : Limits) (n : ℕ) (φ : Formula) where
  table_numbered : (c : Claim) (r : Option Rule) → Numbered (table way L n φ c r)
  table_numbered c none = search arith
  table_numbered c (some by_axiom) = search arith
  table_numbered c (some (by_composition ρ ps)) = search arith
  table_numbered c (some (by_join p q)) = search arith
  table_numbered c (some (by_extension p)) = search arith

  total_named : (k : ℕ) (o : Option Counted) → Named (total (length φ) k o)
  total_named k none = omega arith
  total_named k (some e) = go (is_whole (length φ) e.claim)
    where
      go : (b : Bool) → Named (cond b (Accepted e.count) (Refused 29 k))
      go true = tt
      go false = omega arith

  go_on_named : (before : List Counted) (o : Option ℕ) (rest : Outcome) → Fails o → Named rest.says → Named (go_on before o rest).says
  go_on_named before none rest f h = h
  go_on_named before (some number) rest f h = f

  judge_named : (t : Trace) (before : List Counted) (ls : List (Entry Line)) → Named (judge way L n φ t before ls).says
  unfolding judge
  judge_named t before [] = total_named (length before) (last before)
  judge_named t before (l ∷ ls) =
      let c = claim_of t l.what in
      let r = rule_of t before l.what in
      go_on_named before (first_failing (table way L n φ c r)) (judge way L n φ t (before ++ counted way L n φ c r) ls)
      (first_numbered (table way L n φ c r) (table_numbered c r))
      (judge_named t (before ++ counted way L n φ c r) ls)

read_named : {A : Type 0} (number : ℕ) (r : Read A) (f : A → Outcome) → 0 < number → ((a : A) → Named (f a).says) → Named (when_read number r f).says
read_named number (bad place) f h g = h
read_named number (ok a e) f h g = g a

room_named : (b : Bool) (k : ℕ) (o : Outcome) → Named o.says → Named (cond b (after [] (Refused 13 k)) o).says
room_named true k o h = omega arith
room_named false k o h = h

pub check_named : (way : Way) (L : Limits) (places : ℕ) (formula_words trace_words : List ℤ) → Named (check way L places formula_words trace_words).says
unfolding check
check_named way L places fw tw =
    read_named 11 (formula L fw) _ (omega arith) (λ f.
    read_named 12 (trace L f.variables (length f.clauses) tw) _ (omega arith) (λ t.
    let k = length t.claims in
    let judged = judge way L f.variables f.clauses t [] t.claims in
    room_named (ltb places k) k judged (judge_named way L f.variables f.clauses t [] t.claims)))
