-- A number's digits from the last to the first, as they are counted and written. Assumes nothing.
use mathlib.Core.Path.{◌≡◌, refl, ap}
use mathlib.Core.Bool.{Bool, true, false, cond}
use mathlib.Core.List.{List, [], ◌∷◌, ◌++◌}
use Prim.Native.Nat.{ℕ, zero, suc, max, ◌+◌, ◌-◌, ◌*◌, ◌/◌, ◌%◌, ◌^◌, ◌<◌, ◌≤◌}
use native.Mathlib.Nat.{pow-suc, div-lt_iff_lt-mul}
use native.Mathlib.Omega.{arith}
use lib.Dec.{ltb, lit<}
use lib.ListN.{length, set, length-append}
use lib.Seq.{sets}
use borrow.Author.Tests.{lt-ltb, le-ltb, ltb-true, ltb-false}
use Rattle.meaning.specs.Lines.{digits}
use Rattle.render.specs.Shown.{shown}
use Rattle.render.proofs.Sets.{sets_two}

-- more places than a number has digits change nothing
more_places : (k n : ℕ) → n < 10 ^ suc k → digits (suc k) n ≡ digits (suc (suc k)) n
more_places zero n h = rw (lt-ltb n 10 h)
more_places (suc k) n h =
    let e : 10 ^ suc (suc k) ≡ 10 ^ suc k * 10 = pow-suc 10 (suc k) in
    let less : n < 10 ^ suc k * 10 = omega arith in
    ap (λ ds. cond (ltb n 10) [] ds ++ (48 + n % 10) ∷ []) (more_places k (n / 10) ((div-lt_iff_lt-mul {k = 10} {x = n} {y = 10 ^ suc k} (lit< tt)).1 less))

pub last_digit : (n : ℕ) → n < 10 → shown n ≡ (48 + n % 10) ∷ []
unfolding shown
last_digit n h = rw (lt-ltb n 10 h)

pub digit_before : (n : ℕ) → n < 2 ^ 64 → 10 ≤ n → shown n ≡ shown (n / 10) ++ (48 + n % 10) ∷ []
unfolding shown
digit_before n few h =
    let less : n / 10 < 10 ^ 19 = omega arith in
    rw (le-ltb n 10 h, more_places 18 (n / 10) less)

pub few_more : (b : Bool) (ds : List ℕ) (d k : ℕ) → length ds ≤ k → length (cond b [] ds ++ d ∷ []) ≤ suc k
few_more true ds d k h = omega arith
few_more false ds d k h = rw length-append (omega arith)

few_places : (k n : ℕ) → length (digits k n) ≤ k
few_places zero n = omega arith
few_places (suc k) n = few_more (ltb n 10) (digits k (n / 10)) (48 + n % 10) k (few_places k (n / 10))

pub few_digits : (n : ℕ) → length (shown n) ≤ 20
unfolding shown
few_digits n = few_places 20 n

-- a number from 10 ^ k up to 10 ^ (k + 1) has k + 1 digits
some_power : (k : ℕ) → 0 < 10 ^ k
some_power zero = lit< tt
some_power (suc k) = omega (arith, pow-suc 10 k, some_power k)

by_power : (k n : ℕ) → n < 2 ^ 64 → 10 ^ k ≤ n → n < 10 * 10 ^ k → k + 1 ≡ length (shown n)
by_power zero n few low high = omega (arith, ap length (last_digit n (omega arith)))
by_power (suc k) n few low high =
    let e : 10 ^ suc k ≡ 10 ^ k * 10 = pow-suc 10 k in
    let some = some_power k in
    let rest = by_power k (n / 10) (omega arith) (omega arith) (omega arith) in
    omega (arith, simp length-append at (ap length (digit_before n few (omega arith))))

-- and 0 has one, as 1 has
pub how_many_digits : (n k : ℕ) → n < 2 ^ 64 → 10 ^ k ≤ max n 1 → max n 1 < 10 * 10 ^ k → k + 1 ≡ length (shown n)
how_many_digits zero zero few low high = omega (arith, ap length (last_digit 0 (omega arith)))
how_many_digits zero (suc k) few low high = absurd (omega (arith, pow-suc 10 k, some_power k))
how_many_digits (suc m) k few low high = by_power k (suc m) few (omega arith) (omega arith)

-- one digit more is written before `at`
module _ (b : List ℕ) (s at n d : ℕ) (few : n < 2 ^ 64) (here : at ≡ s + length (shown n)) (is : d ≡ 48 + n % 10) where
  pub first_digit : n < 10 → (at - 1 ≡ s) × (set b (at - 1) d ≡ sets b s (shown n))
  first_digit h =
      let e : shown n ≡ (48 + n % 10) ∷ [] = last_digit n h in
      let k : at - 1 ≡ s = omega (arith, ap length e) in
      (k, rw (e, k, is))

  pub next_digit : 10 ≤ n → (at - 1 ≡ s + length (shown (n / 10))) × (sets (set b (at - 1) d) s (shown (n / 10)) ≡ sets b s (shown n))
  next_digit h =
      let e : shown n ≡ shown (n / 10) ++ (48 + n % 10) ∷ [] = digit_before n few h in
      let k : at - 1 ≡ s + length (shown (n / 10)) = omega (arith, simp length-append at (ap length e)) in
      (k, rw (e, k, is) (sets_two b s (shown (n / 10)) ((48 + n % 10) ∷ [])))

  pub some_digit : 1 ≤ at
  some_digit = go (ltb n 10) refl
    where
      go : (b : Bool) → ltb n 10 ≡ b → 1 ≤ at
      go true h = omega (arith, ap length (last_digit n (ltb-true n 10 h)))
      go false h = omega (arith, simp length-append at (ap length (digit_before n few (ltb-false n 10 h))))
