-- The scan at a place of the text: what one byte does. Assumes nothing.
use mathlib.Core.Path.{◌≡◌, refl, sym, ap, ◌∙◌}
use mathlib.Core.Bool.{Bool, true, false, not, ◌&&◌, ◌||◌, cond, true≢false}
use mathlib.Core.List.{List, [], ◌∷◌}
use Prim.Native.Nat.{ℕ, suc, ◌+◌, ◌<◌, ◌≤◌}
use native.Mathlib.Omega.{arith}
use native.Mathlib.Nat.{add-zero, add-suc, suc-add}
use native.Mathlib.Numerals.{add-one}
use borrow.Author.Tests.{eqb-true, ne_eqb, ltb-true, ltb-false, lt-ltb, le-ltb, not-false}
use denote.Ref.{Bor}
use Rattle.std.specs.Slice.{IsItemAt}
use Rattle.std.proofs.lemmas.Option.{MatchOption-at_some, MatchOption-at_none}
use Rattle.std.specs.Option.{option_eq, MatchOption, unwrap_or}
use Rattle.std.specs.List.{AllWithin, HoldsAt}
use Rattle.std.proofs.lemmas.Iterator.{index_from_first}
use Rattle.std.specs.Prelude as std
use lib.Dec.{eqb, ltb}
use lib.ListN.{length, get_or, take, drop, length-drop, drop_of_length-le}
use lib.Seq.{drop-cons, drop-drop}
use Rattle.meaning.specs.Text.{is, blank, longer}
use Rattle.tokens.specs.Scan.{parts, word, line, fresh, comment, gap, inside, piece, scan, stands, parted, line_end, word_at, tokens_from, lines_from, Past}
use Rattle.tokens.proofs.Lines.{fresh_gap}

-- ---- at one byte of a list

blank_parts : (b : ℕ) → blank b ≡ true → is "\n" b ≡ false
blank_parts b e = go (is "\n" b) refl
  where
    go : (x : Bool) → is "\n" b ≡ x → x ≡ false
    go true i = sym e ∙ rw (eqb-true b 10 i)
    go false i = refl

pub no_part : (b : ℕ) → (b ≡ 10 → ⊥) → blank b ≡ false → parts b ≡ false
unfolding parts
no_part b n e = rw (ne_eqb b 10 n) e

pub or_false_l : (x y : Bool) → (x || y) ≡ false → x ≡ false
or_false_l false y e = refl
or_false_l true y e = e

pub or_false_r : (x y : Bool) → (x || y) ≡ false → y ≡ false
or_false_r false y e = e
or_false_r true y e = absurd (true≢false e)

pub and_true_l : (x y : Bool) → (x && y) ≡ true → x ≡ true
and_true_l true y e = refl
and_true_l false y e = e

pub and_true_r : (x y : Bool) → (x && y) ≡ true → y ≡ true
and_true_r true y e = e
and_true_r false y e = absurd (true≢false (sym e))

inside_word : (bs : List ℕ) (place : ℕ) → scan inside place bs ≡ piece place (word bs) ∷ scan gap (place + length (word bs)) (drop (length (word bs)) bs)
unfolding scan word parts
inside_word [] place = refl
inside_word (b ∷ bs) place = go (is "\n" b) (blank b) refl refl (inside_word bs (suc place))
  where
    go : (x y : Bool) → is "\n" b ≡ x → blank b ≡ y → scan inside (suc place) bs ≡ piece (suc place) (word bs) ∷ scan gap (suc place + length (word bs)) (drop (length (word bs)) bs)
        → scan inside place (b ∷ bs) ≡ piece place (word (b ∷ bs)) ∷ scan gap (place + length (word (b ∷ bs))) (drop (length (word (b ∷ bs))) (b ∷ bs))
    go true y e f ih = rw (e, add-zero) (rw e)
    go false true e f ih = rw (e, f, add-zero) (rw (e, f))
    go false false e f ih = rw (e, f, add-suc) (ap (longer place b) ih ∙ rw suc-add)

pub comment_line : (bs : List ℕ) (place : ℕ) → scan comment place bs ≡ scan gap (place + length (line bs)) (drop (length (line bs)) bs)
unfolding scan line
comment_line [] place = refl
comment_line (b ∷ bs) place = go (is "\n" b) refl (comment_line bs (suc place))
  where
    go : (x : Bool) → is "\n" b ≡ x → scan comment (suc place) bs ≡ scan gap (suc place + length (line bs)) (drop (length (line bs)) bs)
        → scan comment place (b ∷ bs) ≡ scan gap (place + length (line (b ∷ bs))) (drop (length (line (b ∷ bs))) (b ∷ bs))
    go true e ih = rw (e, add-zero) (rw e)
    go false e ih = rw (e, add-suc) (ih ∙ rw suc-add)

gap_word : (place b : ℕ) (bs : List ℕ) → parts b ≡ false → scan gap place (b ∷ bs) ≡ scan inside place (b ∷ bs)
unfolding scan parts
gap_word place b bs e = rw (or_false_l (is "\n" b) (blank b) e, or_false_r (is "\n" b) (blank b) e)

fresh_c : (place b : ℕ) (bs : List ℕ) → is "c" b ≡ true → scan fresh place (b ∷ bs) ≡ scan comment (suc place) bs
unfolding scan
fresh_c place b bs e = rw e

-- ---- what `get` lends of the text

got : (t : List ℕ) (at : ℕ) (o : std.Option (Bor ℕ)) → IsItemAt t at o → MatchOption o (length t ≤ at) (λ x. (at < length t) × (x.now ≡ get_or t at 0))
got t at std.None h = h.3
got t at (std.Some x) h = (h.3.0, h.4 (omega arith) 0)

pub got_some : (t : List ℕ) (at : ℕ) {o : std.Option (Bor ℕ)} (x : Bor ℕ) → IsItemAt t at o → o ≡ std.Some x → (at < length t) × (x.now ≡ get_or t at 0)
got_some t at {o} x h e = MatchOption-at_some (length t ≤ at) (λ (y : Bor ℕ). (at < length t) × (y.now ≡ get_or t at 0)) x e (got t at o h)

pub got_none : (t : List ℕ) (at : ℕ) {o : std.Option (Bor ℕ)} → IsItemAt t at o → o ≡ std.None → length t ≤ at
got_none t at {o} h e = MatchOption-at_none (length t ≤ at) (λ (y : Bor ℕ). (at < length t) × (y.now ≡ get_or t at 0)) e (got t at o h)

pub stands_got : (t : List ℕ) (at : ℕ) (o : std.Option (Bor ℕ)) (b : Bor ℕ) → IsItemAt t at o → option_eq (λ x y. eqb x.now y.now) o (std.Some b) ≡ stands t at b.now
unfolding stands
stands_got t at o b h = go o (got t at o h)
  where
    go : (o : std.Option (Bor ℕ)) → MatchOption o (length t ≤ at) (λ x. (at < length t) × (x.now ≡ get_or t at 0)) → option_eq (λ x y. eqb x.now y.now) o (std.Some b) ≡ (ltb at (length t) && eqb (get_or t at 0) b.now)
    go std.None g = rw (le-ltb at (length t) g)
    go (std.Some x) g = rw (lt-ltb at (length t) g.0, g.1)

pub parted_got : (t : List ℕ) (at : ℕ) (o : std.Option (Bor ℕ)) (r : Bool) (P : Bor ℕ → Type 0) → IsItemAt t at o → MatchOption o (r ≡ true) P → ((x : Bor ℕ) → P x → r ≡ parts x.now) → r ≡ parted t at
unfolding parted
parted_got t at o r P h e k = go o (got t at o h) e
  where
    go : (o : std.Option (Bor ℕ)) → MatchOption o (length t ≤ at) (λ x. (at < length t) × (x.now ≡ get_or t at 0)) → MatchOption o (r ≡ true) P → r ≡ (not (ltb at (length t)) || parts (get_or t at 0))
    go std.None g e = rw (le-ltb at (length t) g) e
    go (std.Some x) g e = rw (lt-ltb at (length t) g.0, ← g.1) (k x e)

-- ---- at a place of the text

module _ (t : List ℕ) (at : ℕ) where
  here : at < length t → drop at t ≡ get_or t at 0 ∷ drop (at + 1) t
  here h = rw (add-one, drop-cons t at 0)

  there : length t ≤ at → drop at t ≡ []
  there h = drop_of_length-le t h

  pub line_stops : at < length t → get_or t at 0 ≡ 10 → line_end t at ≡ at
  unfolding line_end line
  line_stops h e = rw (here h, e, add-zero)

  pub line_goes : at < length t → (get_or t at 0 ≡ 10 → ⊥) → line_end t at ≡ line_end t (at + 1)
  unfolding line_end line
  line_goes h e = rw (here h, ne_eqb (get_or t at 0) 10 e) (omega arith)

  pub line_ends : length t ≤ at → line_end t at ≡ at
  unfolding line_end line
  line_ends h = rw (there h, add-zero)

  pub word_stops : parted t at ≡ true → word_at t at ≡ []
  unfolding parted word_at word
  word_stops e = go (ltb at (length t)) refl e
    where
      go : (x : Bool) → ltb at (length t) ≡ x → (not x || parts (get_or t at 0)) ≡ true → word (drop at t) ≡ []
      go true i f = rw (here (ltb-true at (length t) i), f)
      go false i f = rw (there (ltb-false at (length t) i))

  pub not_parted : parted t at ≡ false → (at < length t) × (parts (get_or t at 0) ≡ false)
  unfolding parted
  not_parted e = (ltb-true at (length t) (not-false (ltb at (length t)) (or_false_l (not (ltb at (length t))) (parts (get_or t at 0)) e)), or_false_r (not (ltb at (length t))) (parts (get_or t at 0)) e)

  -- what stands where tokens are parted is no byte of a token
  pub stands_parted : (b : ℕ) → parts b ≡ false → parted t at ≡ true → stands t at b ≡ false
  unfolding parted stands
  stands_parted b p e = go (ltb at (length t)) (eqb (get_or t at 0) b) refl e
    where
      go : (x y : Bool) → eqb (get_or t at 0) b ≡ y → (not x || parts (get_or t at 0)) ≡ true → (x && y) ≡ false
      go true true i f = sym f ∙ ap parts (eqb-true (get_or t at 0) b i) ∙ p
      go true false i f = refl
      go false y i f = refl

  pub word_goes : at < length t → parts (get_or t at 0) ≡ false → word_at t at ≡ get_or t at 0 ∷ word_at t (at + 1)
  unfolding word_at word
  word_goes h e = rw (here h, e)

  pub gap_line_end : at < length t → get_or t at 0 ≡ 10 → tokens_from t at ≡ lines_from t (at + 1)
  unfolding tokens_from lines_from scan
  gap_line_end h e = rw (here h, e, add-one)

  pub gap_blank : at < length t → blank (get_or t at 0) ≡ true → tokens_from t at ≡ tokens_from t (at + 1)
  unfolding tokens_from scan
  gap_blank h e = rw (here h, blank_parts (get_or t at 0) e, e, add-one)

  pub gap_token : at < length t → parts (get_or t at 0) ≡ false → tokens_from t at ≡ piece at (word_at t at) ∷ tokens_from t (at + length (word_at t at))
  unfolding tokens_from word_at
  gap_token h e =
      ap (scan gap at) (here h) ∙ gap_word at (get_or t at 0) (drop (at + 1) t) e ∙ ap (scan inside at) (sym (here h))
      ∙ inside_word (drop at t) at ∙ rw drop-drop

  pub gap_end : length t ≤ at → tokens_from t at ≡ []
  unfolding tokens_from scan
  gap_end h = rw (there h)

  pub stands_inside : (b : ℕ) → stands t at b ≡ true → at < length t
  unfolding stands
  stands_inside b e = ltb-true at (length t) (and_true_l (ltb at (length t)) (eqb (get_or t at 0) b) e)

  pub line_comment : stands t at 99 ≡ true → lines_from t at ≡ tokens_from t (line_end t (at + 1))
  unfolding stands lines_from tokens_from line_end
  line_comment e =
      let h = stands_inside 99 e in
      ap (scan fresh at) (here h) ∙ fresh_c at (get_or t at 0) (drop (at + 1) t) (and_true_r (ltb at (length t)) (eqb (get_or t at 0) 99) e)
      ∙ ap (λ k. scan comment k (drop (at + 1) t)) (sym (add-one at))
      ∙ comment_line (drop (at + 1) t) (at + 1) ∙ rw drop-drop

  pub line_tokens : stands t at 99 ≡ false → lines_from t at ≡ tokens_from t at
  unfolding stands lines_from tokens_from scan
  line_tokens e = go (ltb at (length t)) refl e
    where
      go : (x : Bool) → ltb at (length t) ≡ x → (x && eqb (get_or t at 0) 99) ≡ false → scan fresh at (drop at t) ≡ scan gap at (drop at t)
      go true i f = rw (here (ltb-true at (length t) i)) (fresh_gap at (get_or t at 0) (drop (at + 1) t) f)
      go false i f = rw (there (ltb-false at (length t) i))

-- ---- a word, by the place of the first byte that parts tokens

word_takes : (bs : List ℕ) → take (length (word bs)) bs ≡ word bs
unfolding word
word_takes [] = refl
word_takes (b ∷ bs) = go (parts b) (word_takes bs)
  where
    go : (x : Bool) → take (length (word bs)) bs ≡ word bs → take (length (cond x [] (b ∷ word bs))) (b ∷ bs) ≡ cond x [] (b ∷ word bs)
    go true ih = refl
    go false ih = ap (λ l. b ∷ l) ih

pub word_found : (bs : List ℕ) (r : std.Option ℕ) → MatchOption r (AllWithin (λ b. parts b ≡ false) bs 0 (length bs)) (λ i. (i < length bs) × HoldsAt (λ b. parts b ≡ true) bs i × AllWithin (λ b. parts b ≡ false) bs 0 i)
    → take (unwrap_or r (length bs)) bs ≡ word bs
unfolding word
word_found bs r m =
    rw (← index_from_first (λ l. length (word l)) (λ b. parts b ≡ true) (λ b. parts b ≡ false) refl (λ x xs e. rw e) (λ x xs e. rw e (omega arith)) bs r m) (word_takes bs)

-- ---- nothing reaches beyond the text

shorter : (x : Bool) (b : ℕ) (l bs : List ℕ) → length l ≤ length bs → length (cond x [] (b ∷ l)) ≤ suc (length bs)
shorter true b l bs h = omega arith
shorter false b l bs h = omega arith

line_short : (bs : List ℕ) → length (line bs) ≤ length bs
unfolding line
line_short [] = omega arith
line_short (b ∷ bs) = shorter (is "\n" b) b (line bs) bs (line_short bs)

word_short : (bs : List ℕ) → length (word bs) ≤ length bs
unfolding word
word_short [] = omega arith
word_short (b ∷ bs) = shorter (parts b) b (word bs) bs (word_short bs)

module _ (t : List ℕ) (at : ℕ) where
  pub line_onward : at ≤ line_end t at
  unfolding line_end
  line_onward = omega arith

  pub line_within : at ≤ length t → line_end t at ≤ length t
  unfolding line_end
  line_within h = omega (arith, line_short (drop at t), length-drop at t)

  pub word_within : at ≤ length t → at + length (word_at t at) ≤ length t
  unfolding word_at
  word_within h = omega (arith, word_short (drop at t), length-drop at t)

-- past the comment, where one stands
module _ (t : List ℕ) (at : ℕ) where
  pub past_one : stands t at 99 ≡ true → Past t at (line_end t (at + 1))
  past_one e =
      let h = stands_inside t at 99 e in
      record { onward = omega (arith, line_onward t (at + 1)); within = line_within t (at + 1) (omega arith); same = line_comment t at e }

  pub past_none : at ≤ length t → stands t at 99 ≡ false → Past t at at
  past_none h e = record { onward = omega arith; within = h; same = line_tokens t at e }
