-- Fractions between two neighbouring multiples of a power of two: their nearest whole number, the number of their digits, and what `round` gives for
-- them. Assumes nothing.
use Rattle.std.proofs.Common.{◌≡◌, ℕ, suc, ◌+◌, ◌-◌, ◌*◌, ◌/◌, ◌%◌, ◌^◌, ◌<◌, ◌≤◌, Bool, true, false, not, T, leb, sym, ap, ◌∙◌, le_trans, lt_of_lt_of_le, mul-le-mul_right, mod-lt, mul_assoc, div-lt_iff_lt-mul, lt_of_mul-lt-mul_right, mul-lt-mul_of_pos_right, lt_of_not-le, div-add-mod', le-div_iff_mul-le, not-le_of_lt, le_of_mul-le-mul_right, arith, leb→le, pow_pos, pow_mono, pow-add}
use native.Mathlib.Nat.{pow-succ'}
use native.Mathlib.Nat.{div-eq_of_lt-le}
use lib.Dec.{nleb→lt}
use lib.Ieee.{Float, binary32, size, units, round}
use lib.Ieee.Digits.{size-lt, size-le, size_reaches}
use lib.Ieee.Fits.{core, round_is}
use lib.Ieee.Nearest.{closest}
use Rattle.floats.proofs.Rounding.{closest-below, closest-above}

-- ---- the nearest whole number
-- a / b is between G / 2E and (G + 1) / 2E
module _ (G E a b : ℕ) (low : G * b < a * (2 * E)) (high : a * (2 * E) < suc G * b) (E0 : 0 < E) where
  twice : 0 < 2 * E
  twice = omega arith

  q : ℕ
  q = G / (2 * E)

  g : ℕ
  g = G % (2 * E)

  parts : q * (2 * E) + g ≡ G
  unfolding q g
  parts = div-add-mod' G (2 * E)

  g-lt : g < 2 * E
  unfolding g
  g-lt = mod-lt G twice

  parts-b : q * (2 * E) * b + g * b ≡ G * b
  parts-b = omega (arith, ap (λ (z : ℕ). z * b) parts)

  above-q : q * b ≤ a
  above-q = le_of_mul-le-mul_right {k = 2 * E} (omega (arith, parts-b, low)) twice

  below-q : a < suc q * b
  below-q = lt_of_mul-lt-mul_right (2 * E) (omega (arith, parts-b, high, mul-le-mul_right b g-lt))

  whole_is : a / b ≡ q
  whole_is = div-eq_of_lt-le b above-q (omega (arith, below-q))

  rest-is : q * b + a % b ≡ a
  rest-is = rw (← whole_is) (div-add-mod' a b)

  rest-2_e : q * b * (2 * E) + a % b * (2 * E) ≡ a * (2 * E)
  rest-2_e = omega (arith, ap (λ (z : ℕ). z * (2 * E)) rest-is)

  pub closest-between : closest a b ≡ (G + E) / (2 * E)
  closest-between = go (leb E g) (leb→le E g) (nleb→lt E g)
    where
      up : E ≤ g → b < a % b * 2
      up h = lt_of_mul-lt-mul_right E (omega (arith, rest-2_e, parts-b, low, mul-le-mul_right b h))

      keep : g < E → a % b * 2 < b
      keep h = lt_of_mul-lt-mul_right E (omega (arith, rest-2_e, parts-b, high, mul-le-mul_right b h))

      go : (t : Bool) → (T t → E ≤ g) → (T (not t) → g < E) → closest a b ≡ (G + E) / (2 * E)
      go true h k =
          sym (closest-above a b (up (h tt))) ∙ ap (λ (z : ℕ). z + 1) whole_is
          ∙ sym (div-eq_of_lt-le (2 * E) (omega (arith, parts, h tt)) (omega (arith, parts, g-lt)))
      go false h k =
          sym (closest-below a b (keep (k tt))) ∙ whole_is ∙ sym (div-eq_of_lt-le (2 * E) (omega (arith, parts)) (omega (arith, parts, k tt)))

-- ---- the number of digits
pub size-more : (n j : ℕ) → 2 ^ j ≤ n → j < size n
size-more n j h = lt_of_not-le (λ (g : size n ≤ j). not-le_of_lt (lt_of_lt_of_le (size-lt n) (pow_mono g)) h)

-- w is G with h more digits
size-longer : (G h w : ℕ) → 0 < G → G * 2 ^ h ≤ w → w < suc G * 2 ^ h → size w ≡ size G + h
size-longer G h w G0 low high =
    let z = size G in
    let some : 0 < z = size-more G 0 G0 in
    let least : 2 ^ (z - 1) ≤ G = size_reaches G (z - 1) (omega (arith, some)) in
    let most : w < 2 ^ (z + h) = rw (pow-add 2 z h) (lt_of_lt_of_le high (mul-le-mul_right (2 ^ h) (size-lt G))) in
    let reach : 2 ^ (z - 1 + h) ≤ w = rw (pow-add 2 (z - 1) h) (le_trans (mul-le-mul_right (2 ^ h) least) low) in
    omega (arith, some, size-le w (z + h) most, size-more w (z - 1 + h) reach)

-- ---- what `round` gives
-- the digits of G that are dropped are one and those of `spare`
spare : ℕ → ℕ
spare G = size G - 25

more-digits : (G : ℕ) → 2 ^ 24 ≤ G → suc (spare G) ≡ size G - 24
unfolding spare
more-digits G h = omega (arith, size-more G 24 h)

module _ (s : Bool) (g G : ℕ) (G24 : 2 ^ 24 ≤ G) (g149 : g < 149) where
  -- 2 ^ 149 is 2 ^ g * 2 ^ fine
  fine : ℕ
  fine = 149 - g

  dropped : ℕ
  dropped = fine + suc (spare G)

  all : 2 ^ 149 ≡ 2 ^ g * 2 ^ fine
  unfolding fine
  all = let e : g + (149 - g) ≡ 149 = omega (arith, g149) in sym (ap (λ (j : ℕ). 2 ^ j) e) ∙ pow-add 2 g (149 - g)

  step_is : 2 ^ dropped ≡ 2 ^ fine * (2 * 2 ^ spare G)
  unfolding dropped
  step_is = pow-add 2 fine (suc (spare G)) ∙ ap (λ (z : ℕ). 2 ^ fine * z) (pow-succ' 2 (spare G))

  dropped-is : (x : ℕ) → x ≡ size G + fine → x - 24 ≡ dropped
  unfolding dropped
  dropped-is x h = omega (arith, h, more-digits G G24, size-more G 24 G24)

  result : Float
  result = units binary32 s ((G + 2 ^ spare G) / (2 * 2 ^ spare G)) dropped

  -- n / c in units of 2 ^ -149
  core-between : (n c : ℕ) → 0 < c → G * c * 2 ^ fine < n → n < suc G * c * 2 ^ fine → core binary32 s n c (size (n / c) - 24) ≡ result
  unfolding result
  core-between n c C low high =
      let E = 2 ^ spare G in
      let twice : 0 < 2 * E = omega (arith, pow_pos (spare G)) in
      let digits : size (n / c) ≡ size G + fine =
      size-longer G fine (n / c) (le_trans (pow_pos 24) G24)
      ((le-div_iff_mul-le C).1 (omega (arith, low))) ((div-lt_iff_lt-mul C).1 (omega (arith, high))) in
      let low' : G * (c * 2 ^ dropped) < n * (2 * E) = rw step_is (omega (arith, mul-lt-mul_of_pos_right low twice)) in
      let high' : n * (2 * E) < suc G * (c * 2 ^ dropped) = rw step_is (omega (arith, mul-lt-mul_of_pos_right high twice)) in
      ap (λ (k : ℕ). core binary32 s n c k) (dropped-is (size (n / c)) digits)
      ∙ ap (λ (z : ℕ). units binary32 s z dropped)
      (closest-between G E n (c * 2 ^ dropped) low' high' (pow_pos (spare G)))

  round-between-is : (a c : ℕ) → 0 < c → G * c < a * 2 ^ g → a * 2 ^ g < suc G * c → round binary32 s a c ≡ result
  round-between-is a c C low high =
      let n-is : a * 2 ^ 149 ≡ a * 2 ^ g * 2 ^ fine = ap (λ (z : ℕ). a * z) all ∙ sym (mul_assoc a (2 ^ g) (2 ^ fine)) in
      round_is binary32 s a c
      ∙ core-between (a * 2 ^ 149) c C (rw n-is (mul-lt-mul_of_pos_right low (pow_pos fine))) (rw n-is (mul-lt-mul_of_pos_right high (pow_pos fine)))

-- Fractions strictly between two neighbouring multiples of a power of two round alike, if the lower multiple has 25 digits or more.
pub round-between : (s : Bool) (g G a c : ℕ) → 0 < c → 2 ^ 24 ≤ G → g < 149 → G * c < a * 2 ^ g → a * 2 ^ g < suc G * c
    → round binary32 s a c ≡ round binary32 s (2 * G + 1) (2 ^ suc g)
round-between s g G a c C G24 g149 low high =
    let e : 2 ^ suc g ≡ 2 * 2 ^ g = pow-succ' 2 g in
    let p : 0 < 2 ^ g = pow_pos g in
    let middle-low : G * 2 ^ suc g < (2 * G + 1) * 2 ^ g = rw e (omega (arith, p)) in
    let middle-high : (2 * G + 1) * 2 ^ g < suc G * 2 ^ suc g = rw e (omega (arith, p)) in
    round-between-is s g G G24 g149 a c C low high
    ∙ sym (round-between-is s g G G24 g149 (2 * G + 1) (2 ^ suc g) (pow_pos (suc g)) middle-low middle-high)
