-- How many counts a check writes follows from what it says, and from what it says when it is lent no count place.
-- Assumes nothing.
use mathlib.Core.Path.{◌≡◌, refl, sym, ap, ◌∙◌}
use mathlib.Core.Bool.{Bool, true, false, ◌&&◌, cond}
use mathlib.Core.List.{List, [], ◌∷◌, ◌++◌}
use mathlib.Core.Option.{Option, none, some}
use Prim.Native.Nat.{ℕ, zero, suc, ◌+◌, ◌≤◌, ◌<◌}
use native.Mathlib.Nat.{add-zero, zero-add}
use native.Mathlib.Omega.{arith}
use borrow.Author.Tests.{le-ltb, lt-ltb, ne_eqb}
use lib.Dec.{T, lit<, leb, ltb, leb→le, ltb→lt}
use lib.IntN.{ℤ}
use lib.ListN.{length, length-map, length-append}
use Rattle.meaning.specs.declared.Verdict.{Verdict}
use Rattle.meaning.specs.declared.Verdict.TheVariants.{Accepted, Refused}
use Rattle.meaning.specs.Lists.{all, last, first_failing}
use Rattle.meaning.specs.Meaning.{Formula, Claim}
use Rattle.meaning.specs.Rules.{in_part}
use Rattle.meaning.specs.Limits.{Limits}
use Rattle.meaning.specs.Read.{Read, ok, bad}
use Rattle.meaning.specs.Form.{Line, Entry, Trace, formula, trace}
use Rattle.meaning.specs.Verdict.{Way, Rule, by_axiom, by_composition, by_join, by_extension, Counted, Outcome, after, total, is_whole, go_on, claim_of, rule_of, table, counted, judge, when_read, check}
use Rattle.meaning.proofs.Logic.{and_l, and_r}
use Rattle.lines.specs.Held.{claims_said, held_of}

-- a refusal number of a claim
of_claim : ℕ × Bool → Bool
of_claim t = leb 21 t.0 && ltb t.0 29

OfClaim : Option ℕ → Type 0
OfClaim none = Unit {0}
OfClaim (some number) = (21 ≤ number) × (number < 29)

failing : (ts : List (ℕ × Bool)) → T (all of_claim ts) → OfClaim (first_failing ts)
unfolding of_claim OfClaim
failing [] h = tt
failing (t ∷ ts) h = go t.1 (failing ts (and_r (of_claim t) (all of_claim ts) h))
  where
    here : (21 ≤ t.0) × (t.0 < 29)
    here = (leb→le 21 t.0 (and_l (leb 21 t.0) (ltb t.0 29) (and_l (of_claim t) (all of_claim ts) h)), ltb→lt t.0 29 (and_r (leb 21 t.0) (ltb t.0 29) (and_l (of_claim t) (all of_claim ts) h)))

    go : (b : Bool) → OfClaim (first_failing ts) → OfClaim (cond b (first_failing ts) (some t.0))
    go true rest = rest
    go false rest = here

-- a claim's refusal: those before it hold
refused_held : (claims place : ℕ) {number : ℕ} → (21 ≤ number) × (number < 29) → held_of claims (Refused number (suc place)) ≡ place
refused_held claims place {number} h = rw (le-ltb number 21 h.0, ne_eqb number 29 (λ e. omega arith)) (omega arith)

-- all k claims hold
total_held : (m k : ℕ) (o : Option Counted) → held_of (k + 0) (total m k o) ≡ k
total_held m k none = refl
total_held m k (some e) = go (is_whole m e.claim)
  where
    go : (b : Bool) → held_of (k + 0) (cond b (Accepted e.count) (Refused 29 k)) ≡ k
    go true = add-zero k
    go false = refl

-- the next claim is refused, or is one more and the rest is right
step : (before more : List Counted) (k : ℕ) (rest : Outcome) (o : Option ℕ) → OfClaim o → (o ≡ none → length more ≡ 1) → length rest.counts ≡ held_of (length (before ++ more) + k) rest.says → length (go_on before o rest).counts ≡ held_of (length before + suc k) (go_on before o rest).says
unfolding OfClaim
step before more k rest (some number) h one ih = length-map before (λ e. e.count) ∙ sym (refused_held (length before + suc k) (length before) h)
step before more k rest none h one ih = ih ∙ ap (λ claims. held_of claims rest.says) (omega (arith, length-append before more, one refl))

never : (b : Bool) → cond {A = Option ℕ} b (some 22) (some 21) ≡ none → ◌≡◌ {A = ℕ} 0 1
never true h = cc
never false h = cc

module _ (way : Way) (L : Limits) (n : ℕ) (φ : Formula) where
  -- the tests of a claim have a claim's numbers
  numbers : (c : Claim) (r : Option Rule) → T (all of_claim (table way L n φ c r))
  unfolding of_claim
  numbers c none = tt
  numbers c (some by_axiom) = tt
  numbers c (some (by_composition ρ ps)) = tt
  numbers c (some (by_join p q)) = tt
  numbers c (some (by_extension p)) = tt

  -- a claim that holds is one more
  one_counted : (c : Claim) (r : Option Rule) → first_failing (table way L n φ c r) ≡ none → length (counted way L n φ c r) ≡ 1
  one_counted c none h = never (in_part φ c) h
  one_counted c (some r) h = refl

  judged : (t : Trace) (before : List Counted) (ls : List (Entry Line)) → let o = judge way L n φ t before ls in length o.counts ≡ held_of (length before + length ls) o.says
  unfolding judge
  judged t before [] = length-map before (λ e. e.count) ∙ sym (total_held (length φ) (length before) (last before))
  judged t before (l ∷ ls) =
      let c = claim_of t l.what in
      let r = rule_of t before l.what in
      let more = counted way L n φ c r in
      step before more (length ls) (judge way L n φ t (before ++ more) ls) (first_failing (table way L n φ c r)) (failing (table way L n φ c r) (numbers c r)) (one_counted c r) (judged t (before ++ more) ls)

-- the counts written follow from what is said, and from what is said with no place lent
abbrev Kept : Outcome → Outcome → Type 0
Kept unroomed o = length o.counts ≡ held_of (claims_said unroomed.says) o.says

kept_read : {A : Type 0} (number : ℕ) → number < 21 → (r : Read A) (f g : A → Outcome) → ((a : A) → Kept (f a) (g a)) → Kept (when_read number r f) (when_read number r g)
kept_read number h (bad place) f g kept = rw (lt-ltb number 21 h)
kept_read number h (ok a e) f g kept = kept a

said_none : (v : Verdict) → held_of 0 v ≡ held_of (claims_said v) v
said_none (Accepted total) = refl
said_none (Refused number place) = refl

kept_roomed : (places k : ℕ) (j : Outcome) → length j.counts ≡ held_of k j.says → Kept (cond (ltb 0 k) (after [] (Refused 13 k)) j) (cond (ltb places k) (after [] (Refused 13 k)) j)
kept_roomed places zero j h = go (ltb places 0)
  where
    go : (b : Bool) → Kept j (cond b (after [] (Refused 13 0)) j)
    go true = refl
    go false = h ∙ said_none j.says
kept_roomed places (suc k) j h = rw (lt-ltb 0 (suc k) (omega arith)) (go (ltb places (suc k)))
  where
    go : (b : Bool) → Kept (after [] (Refused 13 (suc k))) (cond b (after [] (Refused 13 (suc k))) j)
    go true = refl
    go false = h

-- how many counts a check writes
pub kept : (way : Way) (L : Limits) (places : ℕ) (fw tw : List ℤ) → Kept (check way L 0 fw tw) (check way L places fw tw)
unfolding check
kept way L places fw tw =
    kept_read 11 (lit< tt) (formula L fw) _ _ (λ f.
    kept_read 12 (lit< tt) (trace L f.variables (length f.clauses) tw) _ _ (λ t.
    kept_roomed places (length t.claims) _ (rw zero-add at (judged way L f.variables f.clauses t [] t.claims))))
