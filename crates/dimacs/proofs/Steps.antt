-- Reading token by token: reading the rest from here, after what was read, is reading all. Assumes nothing.
use mathlib.Core.Path.{◌≡◌, refl, sym, ap, ap₂, subst, ◌∙◌}
use mathlib.Core.Bool.{Bool, true, false, not, ◌&&◌, ◌||◌, true≢false}
use mathlib.Core.List.{List, [], ◌∷◌, ◌++◌, map, append_assoc, append-nil}
use mathlib.Core.Option.{none, some}
use Prim.Native.Nat.{ℕ, ◌+◌, ◌*◌, ◌^◌, ◌<◌, ◌≤◌}
use native.Mathlib.Omega.{arith}
use borrow.Author.Tests.{lt-ltb, le-ltb, le-leb, lt-leb, ne_eqb, eq-eqb, eqb-true, eqb-false}
use lib.Dec.{eqb, ltb}
use lib.IntN.{ℤ, pos, negsuc, nat_abs}
use lib.Signed.{mag}
use mir.Syntax.{w16, w32}
use mir.Val.{SFits, to_z, of_z}
use mir.Facts.{to_z-of_z}
use lib.ListN.{length, get_or, take, length-append}
use lib.Seq.{length-take-le}
use Rattle.meaning.specs.declared.TextAnswer.TheVariants.{Words, Faulty}
use Rattle.meaning.specs.Lists.{flat, first_failing}
use Rattle.meaning.specs.Limits.{small}
use Rattle.meaning.specs.Meaning.{Clause, Formula, var, named}
use Rattle.meaning.specs.Form.{Cnf}
use Rattle.meaning.specs.Text.{Text, sound, faulty, ◌>>=◌, Piece, Reading, insert, taken, faults, unless, body, whole, signed, clause_words, formula_words}
use Rattle.tokens.specs.Scan.{parts, parted, word_at, tokens_from, piece, Next}
use Rattle.tokens.specs.Numbers.{SignedRead}
use Rattle.std.specs.Prelude as std
use Rattle.std.specs.Option.{ok_or}
use Rattle.tokens.proofs.Numbers.{signed_as}
use Rattle.tokens.proofs.Places.{gap_token, gap_end, word_goes, word_within}
use Rattle.dimacs.specs.Clause.{Begun, Added}
use Rattle.dimacs.specs.Formed.{Closed, clauses_from, Formed}

-- ---- what a fault takes the place of

pub ok_some : {T E : Type 0} (o : std.Option T) (e : E) {x : T} → std.Ok x ≡ ok_or o e → o ≡ std.Some x
ok_some std.None e q = cc
ok_some (std.Some y) e q = cc

pub err_none : {T E : Type 0} (o : std.Option T) (e : E) {y : E} → std.Err y ≡ ok_or o e → (o ≡ std.None) × (y ≡ e)
err_none std.None e q = (refl, cc)
err_none (std.Some x) e q = cc

-- ---- the size of a number that was read

mag_within : (z : ℤ) → mag z ≤ nat_abs z
mag_within (pos n) = omega arith
mag_within (negsuc n) = omega arith

pub read_fits : (z : ℤ) → nat_abs z < 2 ^ 20 → SFits w32 z
read_fits z h = record { sfits = omega (arith, mag_within z) }

pub read_size : (z : ℤ) {s : ℕ} → nat_abs z < 2 ^ 20 → s ≡ nat_abs (to_z w32 (of_z w32 z)) → s ≡ var z
read_size z h e = e ∙ ap nat_abs (to_z-of_z (read_fits z h))

-- the word of a literal
pub read_word : (z : ℤ) → nat_abs z ≤ 512 → to_z w16 (of_z w16 (to_z w32 (of_z w32 z))) ≡ z
read_word z h =
    let f : SFits w16 z = record { sfits = omega (arith, mag_within z) } in
    ap (λ y. to_z w16 (of_z w16 y)) (to_z-of_z (read_fits z (omega arith))) ∙ to_z-of_z f

-- ---- one token after the other

abbrev start_of : Reading
start_of = record { ended = []; current = [] }

-- ---- one token

module _ (n m : ℕ) (s : Reading) (place : ℕ) (w : List ℕ) (ts : List Piece) where
  pub not_number : signed w ≡ none → body small n m s (piece place w ∷ ts) ≡ faulty 3 place
  unfolding body
  not_number e = rw e

  module _ (z : ℤ) (e : signed w ≡ some z) where
    one : body small n m s (piece place w ∷ ts) ≡ (unless (first_failing (faults small n m s z)) place (taken s z) >>= (λ s'. body small n m s' ts))
    unfolding body
    one = rw e

    pub fails_6 : m ≤ length s.ended → body small n m s (piece place w ∷ ts) ≡ faulty 6 place
    fails_6 h = one ∙ rw (le-ltb (length s.ended) m h)

    module _ (h₆ : length s.ended < m) where
      pub fails_4 : n < var z → body small n m s (piece place w ∷ ts) ≡ faulty 4 place
      fails_4 h = one ∙ rw (lt-ltb (length s.ended) m h₆, lt-leb (var z) n h)

      module _ (h₄ : var z ≤ n) where
        pub fails_5 : (eqb (var z) 0 || not (named s.current (var z)) && ltb (length s.current) 64) ≡ false → body small n m s (piece place w ∷ ts) ≡ faulty 5 place
        fails_5 h = one ∙ rw (lt-ltb (length s.ended) m h₆, le-leb (var z) n h₄, h)

        pub passes : (eqb (var z) 0 || not (named s.current (var z)) && ltb (length s.current) 64) ≡ true → body small n m s (piece place w ∷ ts) ≡ body small n m (taken s z) ts
        passes h = one ∙ rw (lt-ltb (length s.ended) m h₆, le-leb (var z) n h₄, h)

-- ---- where reading stands, before the token at a place

pub record Going (text : List ℕ) (n m start : ℕ) (clause words : List ℤ) (k used ended at : ℕ) (s : Reading) : Type 0 where
  pub written : take used words ≡ pos n ∷ pos m ∷ flat (map clause_words s.ended)
  pub begun : Begun clause k
  pub current : take k clause ≡ s.current
  pub counted : length s.ended ≡ ended
  pub few : ended ≤ m
  pub rest : body small n m s (tokens_from text at) ≡ body small n m start_of (tokens_from text start)
  pub within : at ≤ length text
  pub reached : at < length text → parts (get_or text at 0) ≡ false
  pub room : 2 * (used + k) ≤ at + 5
  pub inner : at < length text → 2 * (used + k) ≤ at + 4

-- the same for some reading, with room for what may follow
pub record Standing (text : List ℕ) (n m start : ℕ) (clause words : List ℤ) (k used ended at : ℕ) : Type 0 where
  pub s : Reading
  pub going : Going text n m start clause words k used ended at s
  pub few_variables : n ≤ 512
  pub short : length text ≤ 65535
  pub enough : length text + 6 ≤ 2 * length words

pub going_none : {text : List ℕ} {n m start at : ℕ} {clause words : List ℤ} → length clause ≡ 64 → take 2 words ≡ pos n ∷ pos m ∷ [] → Next text start at → Going text n m start clause words 0 2 0 at start_of
going_none {n} {m} l e x = record {
  written = e;
  begun = record { long = l; few = omega arith; rises = tt };
  current = refl;
  counted = refl;
  few = omega arith;
  rest = ap (body small n m start_of) (sym x.same);
  within = x.within;
  reached = x.reached;
  room = omega arith;
  inner = λ _. omega arith;
}

flat_snoc : (E : Formula) (C : Clause) → flat (map clause_words (E ++ C ∷ [])) ≡ flat (map clause_words E) ++ clause_words C
flat_snoc [] C = append-nil (clause_words C)
flat_snoc (D ∷ E) C = ap (λ l. clause_words D ++ l) (flat_snoc E C) ∙ sym (append_assoc (clause_words D) (flat (map clause_words E)) (clause_words C))

-- where two tokens are parted they are not at one place
apart : (text : List ℕ) (end after : ℕ) → parted text end ≡ true → end ≤ after → after < length text → parts (get_or text after 0) ≡ false → end < after
unfolding parted
apart text end after p o h q = go (eqb end after) refl
  where
    go : (x : Bool) → eqb end after ≡ x → end < after
    go true e =
        let i : end ≡ after = eqb-true end after e in
        absurd (true≢false (sym p ∙ rw (i, lt-ltb after (length text) h, q)))
    go false e = let ne = eqb-false end after e in omega (arith, ne)

pub faulty_formed : {R : Text Cnf} {words : List ℤ} {number place : ℕ} → R ≡ faulty number place → Formed R (Faulty number place) words
faulty_formed e = rw e (record { answer_is = refl; held = tt })

module _ {text : List ℕ} {n m start : ℕ} {clause words : List ℤ} {k used ended at : ℕ} {s : Reading} (g : Going text n m start clause words k used ended at s) where
  taken_k : length (take k clause) ≡ k
  taken_k = length-take-le k clause (omega (arith, g.begun.long, g.begun.few))

  has : length s.current ≡ k
  has = ap length (sym g.current) ∙ taken_k

  at_fault : {number place : ℕ} → body small n m s (tokens_from text at) ≡ faulty number place → {words' : List ℤ} → Formed (clauses_from n m text start) (Faulty number place) words'
  unfolding clauses_from
  at_fault e = faulty_formed (ap (λ r. r >>= whole small n m (length text)) (sym g.rest ∙ e))

  -- all is read
  module _ (h : length text ≤ at) where
    read_all : clauses_from n m text start ≡ whole small n m (length text) s
    unfolding clauses_from body
    read_all = ap (λ r. r >>= whole small n m (length text)) (sym g.rest ∙ ap (body small n m s) (gap_end text at h))

    pub too_few : (ended ≡ m → ⊥) → {words' : List ℤ} → Formed (clauses_from n m text start) (Faulty 6 (length text)) words'
    too_few e = faulty_formed (read_all ∙ rw (ne_eqb (length s.ended) m (λ i. e (sym g.counted ∙ i))))

    pub all_read : ended ≡ m → length text + 6 ≤ 2 * length words → Formed (clauses_from n m text start) (Words used) words
    all_read e r =
        let f : take used words ≡ pos n ∷ pos (length s.ended) ∷ flat (map clause_words s.ended) = g.written ∙ ap (λ j. pos n ∷ pos j ∷ flat (map clause_words s.ended)) (sym e ∙ sym g.counted) in
        let l : used ≡ length (formula_words (record { variables = n; clauses = s.ended })) = sym (length-take-le used words (omega (arith, g.room, g.within))) ∙ ap length f in
        let q : clauses_from n m text start ≡ sound (record { variables = n; clauses = s.ended }) = read_all ∙ rw (eq-eqb (length s.ended) m (g.counted ∙ e)) in
        rw q (record { answer_is = ap Words l; held = subst (λ j. take j words ≡ formula_words (record { variables = n; clauses = s.ended })) l f })

  -- a token
  module _ (h : at < length text) where
    abbrev w : List ℕ
    w = word_at text at

    goes : w ≡ get_or text at 0 ∷ word_at text (at + 1)
    goes = word_goes text at h (g.reached h)

    pub no_number : signed w ≡ none → {words' : List ℤ} → Formed (clauses_from n m text start) (Faulty 3 at) words'
    no_number e = at_fault (ap (body small n m s) (gap_token text at h (g.reached h)) ∙ not_number n m s at w (tokens_from text (at + length w)) e)

    module _ {z : ℤ} {end after : ℕ} (r : SignedRead text at (signed_as z end)) (x : Next text end after) where
      here : tokens_from text at ≡ piece at w ∷ tokens_from text after
      here = gap_token text at h (g.reached h) ∙ ap (λ ts. piece at w ∷ ts) (ap (tokens_from text) (sym r.1) ∙ x.same)

      onward : at + 1 ≤ after
      onward = omega (arith, r.1, ap length goes, x.onward)

      further : after < length text → at + 2 ≤ after
      further i = omega (arith, r.1, ap length goes, apart text end after r.2 x.onward i (x.reached i))

      pub fault_6 : ended ≡ m → {words' : List ℤ} → Formed (clauses_from n m text start) (Faulty 6 at) words'
      fault_6 e = at_fault (ap (body small n m s) here ∙ fails_6 n m s at w (tokens_from text after) z r.0 (omega (arith, g.counted)))

      module _ (e₆ : ended ≡ m → ⊥) where
        below : length s.ended < m
        below = omega (arith, g.counted, g.few, e₆)

        pub fault_4 : n < var z → {words' : List ℤ} → Formed (clauses_from n m text start) (Faulty 4 at) words'
        fault_4 e = at_fault (ap (body small n m s) here ∙ fails_4 n m s at w (tokens_from text after) z r.0 below e)

        module _ (e₄ : var z ≤ n) where
          -- the clause ends
          pub closes : var z ≡ 0 → {words' : List ℤ} → Closed (take k clause) words used words' → Going text n m start clause words' 0 (used + k + 1) (ended + 1) after (record { ended = s.ended ++ s.current ∷ []; current = [] })
          closes e {words'} c =
              let t : eqb (var z) 0 ≡ true = eq-eqb (var z) 0 e in
              let q : taken s z ≡ record { ended = s.ended ++ s.current ∷ []; current = [] } = rw t in
              record {
                written =
                    ap (λ j. take (used + j + 1) words') (sym taken_k)
                    ∙ c.written
                    ∙ ap₂ (λ a b. a ++ pos (length (take k clause)) ∷ b) g.written g.current
                    ∙ ap (λ j. (pos n ∷ pos m ∷ flat (map clause_words s.ended)) ++ pos j ∷ s.current) taken_k
                    ∙ ap (λ l. pos n ∷ pos m ∷ l) (ap (λ j. flat (map clause_words s.ended) ++ pos j ∷ s.current) (sym has) ∙ sym (flat_snoc s.ended s.current));
                begun = record { long = g.begun.long; few = omega arith; rises = tt };
                current = refl;
                counted = length-append s.ended (s.current ∷ []) ∙ ap (λ j. j + 1) g.counted;
                few = omega (arith, below, g.counted);
                rest = sym (ap (body small n m s) here ∙ passes n m s at w (tokens_from text after) z r.0 below e₄ (rw t) ∙ ap (λ s'. body small n m s' (tokens_from text after)) q) ∙ g.rest;
                within = x.within;
                reached = x.reached;
                room = omega (arith, g.inner h, onward);
                inner = λ i. omega (arith, g.inner h, further i);
              }

          -- a literal more, or not
          module _ (e : var z ≡ 0 → ⊥) {done : Bool} {clause' : List ℤ} (d : Added clause k z done clause') where
            nonzero : eqb (var z) 0 ≡ false
            nonzero = ne_eqb (var z) 0 e

            tested : (eqb (var z) 0 || not (named s.current (var z)) && ltb (length s.current) 64) ≡ done
            tested = rw nonzero (sym (d.done_is ∙ ap₂ (λ C j. not (named C (var z)) && ltb j 64) g.current (sym has)))

            pub fault_5 : done ≡ false → {words' : List ℤ} → Formed (clauses_from n m text start) (Faulty 5 at) words'
            fault_5 f = at_fault (ap (body small n m s) here ∙ fails_5 n m s at w (tokens_from text after) z r.0 below e₄ (tested ∙ f))

            pub adds : done ≡ true → Going text n m start clause' words (k + 1) used ended after (record { ended = s.ended; current = insert z s.current })
            adds f =
                let q : taken s z ≡ record { ended = s.ended; current = insert z s.current } = rw nonzero in
                record {
                  written = g.written;
                  begun = d.begun f;
                  current = d.literals f ∙ ap (insert z) g.current;
                  counted = g.counted;
                  few = g.few;
                  rest = sym (ap (body small n m s) here ∙ passes n m s at w (tokens_from text after) z r.0 below e₄ (tested ∙ f) ∙ ap (λ s'. body small n m s' (tokens_from text after)) q) ∙ g.rest;
                  within = x.within;
                  reached = x.reached;
                  room = omega (arith, g.inner h, onward);
                  inner = λ i. omega (arith, g.inner h, further i);
                }

-- ---- from token to token

module _ {text : List ℕ} {n m start : ℕ} {clause words : List ℤ} {k used ended at : ℕ} (S : Standing text n m start clause words k used ended at) (h : at < length text) where
  module _ {z : ℤ} {end : ℕ} (r : SignedRead text at (signed_as z end)) where
    pub end_within : end ≤ length text
    end_within = omega (arith, r.1, word_within text at S.going.within)

    module _ {after : ℕ} (x : Next text end after) where
      module _ (e₆ : ended ≡ m → ⊥) (e₄ : var z ≤ n) where
        pub stand_closed : var z ≡ 0 → {words' : List ℤ} → Closed (take k clause) words used words' → Standing text n m start clause words' 0 (used + k + 1) (ended + 1) after
        stand_closed e c = record {
          s = record { ended = S.s.ended ++ S.s.current ∷ []; current = [] };
          going = closes S.going h r x e₆ e₄ e c;
          few_variables = S.few_variables;
          short = S.short;
          enough = omega (arith, S.enough, c.as_long);
        }

        pub stand_added : (var z ≡ 0 → ⊥) → {done : Bool} {clause' : List ℤ} → Added clause k z done clause' → done ≡ true → Standing text n m start clause' words (k + 1) used ended after
        stand_added e d f = record {
          s = record { ended = S.s.ended; current = insert z S.s.current };
          going = adds S.going h r x e₆ e₄ e d f;
          few_variables = S.few_variables;
          short = S.short;
          enough = S.enough;
        }
