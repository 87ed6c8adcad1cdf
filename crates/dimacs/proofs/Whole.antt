-- The whole text: its header's line, its clauses, and the room. Assumes nothing.
use mathlib.Core.Path.{◌≡◌, refl, sym, ap, ap₂, subst, ◌∙◌}
use mathlib.Core.Bool.{Bool, true, false, ◌&&◌, cond}
use mathlib.Core.List.{List, ◌++◌}
use mathlib.Core.Option.{none, some}
use Prim.Native.Nat.{ℕ, ◌<◌, ◌≤◌}
use native.Mathlib.Omega.{arith}
use borrow.Author.Tests.{lt-ltb, le-ltb, le-leb, lt-leb, ltb-true, ltb-false}
use lib.Dec.{leb, ltb}
use lib.IntN.{ℤ}
use lib.ListN.{length, take, drop, length-take, drop_of_length-le}
use Rattle.meaning.specs.declared.TextAnswer.TheVariants.{Words, Faulty}
use Rattle.meaning.specs.Limits.{small}
use Rattle.meaning.specs.Form.{Cnf}
use Rattle.meaning.specs.Text.{Text, sound, faulty, ◌>>=◌, Piece, lines, header, clauses_of, headed, formula_words, dimacs}
use Rattle.meaning.specs.Promise.{TextRead}
use Rattle.meaning.proofs.Each.{Each}
use Rattle.meaning.proofs.Dimacs as meant
use Rattle.meaning.proofs.Dimacs.{header_fits}
use Rattle.std.specs.Prelude as std
use Rattle.tokens.specs.declared.Sizes.{Sizes}
use Rattle.tokens.specs.Scan.{line, piece, line_end}
use Rattle.tokens.specs.Header.{FirstLine, head_read}
use Rattle.tokens.proofs.Places.{line_within}
use Rattle.tokens.proofs.First.{lines_after, lines_solid, lines_none, after_tokens, up_to}
use Rattle.dimacs.proofs.Steps.{faulty_formed}
use Rattle.dimacs.specs.Formed.{clauses_from, Headed, Formed}

-- ---- the header's line

none_some : {X : Type 0} {x : X} → none ≡ some x → ⊥
none_some e = let o : ◌≡◌ {A = ℕ} 0 1 = cc in absurd (omega arith)

module _ (t : List ℕ) (at : ℕ) (f : FirstLine t at) where
  abbrev l : Piece
  l = piece at (line (drop at t))

  by_line : at < length t → headed small (length t) (lines t) ≡ clauses_of small (length t) at (header small l) (lines_after t at)
  by_line h = rw (f.same ∙ lines_solid t at (f.reached h))

  module _ {end : ℕ} (i : end ≡ line_end t at) (h : std.Option Sizes) (r : head_read h ≡ header small (piece at (drop at (take end t)))) where
    -- what is answered of the text up to the line's end is of the line
    of_line : head_read h ≡ header small l
    of_line = r ∙ ap (λ e. header small (piece at (drop at (take e t)))) i ∙ ap (λ bs. header small (piece at bs)) (up_to t at f.within)

    pub bad_header : h ≡ std.None → {words : List ℤ} → Formed (headed small (length t) (lines t)) (Faulty 2 at) words
    bad_header b = faulty_formed (go (ltb at (length t)) refl)
      where
        go : (x : Bool) → ltb at (length t) ≡ x → headed small (length t) (lines t) ≡ faulty 2 at
        go true e = let z : header small l ≡ none = sym of_line ∙ ap head_read b in by_line (ltb-true at (length t) e) ∙ rw z
        go false e =
            let g : length t ≤ at = ltb-false at (length t) e in
            let q : length t ≡ at = omega (arith, f.within) in
            rw (f.same ∙ lines_none t at g) (ap (faulty 2) q)

    module _ {v m : ℕ} (b : h ≡ std.Some (record { variables = v; clauses = m })) where
      -- a line without bytes is no header
      inside : at < length t
      inside = go (ltb at (length t)) refl
        where
          go : (x : Bool) → ltb at (length t) ≡ x → at < length t
          go true e = ltb-true at (length t) e
          go false e =
              let g : length (take end t) ≤ at = omega (arith, ltb-false at (length t) e, length-take end t) in
              let z : none ≡ some (v, m) = sym (r ∙ rw (drop_of_length-le (take end t) g)) ∙ ap head_read b in
              absurd (none_some z)

      sizes : header small l ≡ some (v, m)
      sizes = sym of_line ∙ ap head_read b

      pub is_headed : Headed t end v m
      is_headed = let z = subst (Each (meant.Sizes small)) sizes (header_fits small l) in record { within = rw i (line_within t at f.within); few_variables = z.0; few_clauses = z.1 }

      pub by_clauses : headed small (length t) (lines t) ≡ clauses_from v m t end
      unfolding clauses_from
      by_clauses = by_line inside ∙ rw (sizes, after_tokens t at, i)

-- ---- the room

-- 7: what is asked of the words
abbrev fit : ℕ → ℕ → Cnf → Text (List ℤ)
fit room size f = cond (leb (length (formula_words f)) room && leb (length (formula_words f)) 32767) (sound (formula_words f)) (faulty 7 size)

module _ (t : List ℕ) (short : length t ≤ 65535) where
  abbrev read : Text Cnf
  read = headed small (length t) (lines t)

  read_is : (R : Text Cnf) → read ≡ R → (room : ℕ) → dimacs small room t ≡ (R >>= fit room (length t))
  unfolding dimacs
  read_is R q room = rw (le-ltb 65535 (length t) short, q)

  -- refused
  pub room_stays : {words room : List ℤ} {number place : ℕ} → Formed read (Faulty number place) words → TextRead small t room (Faulty number place) room
  room_stays {words} {room} {number} {place} = go read refl
    where
      go : (R : Text Cnf) → read ≡ R → Formed R (Faulty number place) words → TextRead small t room (Faulty number place) room
      go (sound f) q F = let e = F.answer_is in let z : ◌≡◌ {A = ℕ} 0 1 = cc in absurd (omega arith)
      go (faulty k p) q F = record { answer_is = rw (read_is (faulty k p) q (length room)) F.answer_is; room_is = rw (read_is (faulty k p) q (length room)) }

  -- sound
  module _ {words : List ℤ} {used : ℕ} (F : Formed read (Words used) words) where
    is_sound : (f : Cnf) × (read ≡ sound f) × (used ≡ length (formula_words f)) × (take used words ≡ formula_words f)
    is_sound = go read refl F
      where
        go : (R : Text Cnf) → read ≡ R → Formed R (Words used) words → (f : Cnf) × (read ≡ sound f) × (used ≡ length (formula_words f)) × (take used words ≡ formula_words f)
        go (sound f) q G = let e = G.answer_is in let i : used ≡ length (formula_words f) = cc in (f, q, i, ap (λ n. take n words) i ∙ G.held)
        go (faulty k p) q G = let e = G.answer_is in let z : ◌≡◌ {A = ℕ} 0 1 = cc in absurd (omega arith)

    pub used_within : used ≤ length words
    used_within = omega (arith, length-take used words, ap length is_sound.3, is_sound.2)

    by_fit : (room : ℕ) → dimacs small room t ≡ fit room (length t) is_sound.0
    by_fit room = read_is (sound is_sound.0) is_sound.1 room

    pub room_small : {room : List ℤ} → length room < used → TextRead small t room (Faulty 7 (length t)) room
    room_small {room} h =
        let e : dimacs small (length room) t ≡ faulty 7 (length t) = by_fit (length room) ∙ rw (← is_sound.2, lt-leb used (length room) h) in
        record { answer_is = rw e; room_is = rw e }

    pub too_many : {room : List ℤ} → used ≤ length room → 32767 < used → TextRead small t room (Faulty 7 (length t)) room
    too_many {room} l h =
        let e : dimacs small (length room) t ≡ faulty 7 (length t) = by_fit (length room) ∙ rw (← is_sound.2, le-leb used (length room) l, lt-leb used 32767 h) in
        record { answer_is = rw e; room_is = rw e }

    pub fits : {room ys : List ℤ} → used ≤ length room → used ≤ 32767 → ys ≡ take used words → TextRead small t room (Words used) (ys ++ drop used room)
    fits {room} l h c =
        let e : dimacs small (length room) t ≡ sound (formula_words is_sound.0) = by_fit (length room) ∙ rw (← is_sound.2, le-leb used (length room) l, le-leb used 32767 h) in
        record { answer_is = rw e (ap Words is_sound.2); room_is = rw e (ap₂ (λ ws n. ws ++ drop n room) (c ∙ is_sound.3) is_sound.2) }

long_is : (t : List ℕ) (room : ℕ) → 65535 < length t → dimacs small room t ≡ faulty 1 65535
unfolding dimacs
long_is t room h = rw (lt-ltb 65535 (length t) h)

pub too_long : (t : List ℕ) → 65535 < length t → {room : List ℤ} → TextRead small t room (Faulty 1 65535) room
too_long t h {room} = record { answer_is = rw (long_is t (length room) h); room_is = rw (long_is t (length room) h) }
