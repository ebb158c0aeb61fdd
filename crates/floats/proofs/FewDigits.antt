-- Numbers of few binary digits, as bounds that `round` keeps. Sections: the leading digits of a fraction (`Leading`); values of binary32 in units of
-- 2 ^ -60 (`grid`), and `round` against them. Assumes nothing.
use Rattle.std.proofs.Common.{◌≡◌, ℕ, suc, ◌+◌, ◌-◌, ◌*◌, ◌/◌, ◌^◌, ◌<◌, ◌≤◌, false, T, sym, ap, ◌∙◌, le_trans, le_of_eq, lt_of_lt_of_le, lt_of_le_of_lt, mul-le-mul_right, mul_assoc, lt_of_mul-lt-mul_right, lt_of_not-le, le-div_iff_mul-le, not-le_of_lt, div-mul-le_self, le_of_mul-le-mul_right, arith, pow_pos, pow_mono, pow-add, shl_lt}
use native.Mathlib.Nat.{lt-div-mul-add}
use lib.Ieee.{Float, binary32, round, le, size}
use lib.Ieee.Digits.{size-lt, size_reaches}
use lib.Ieee.Fits.{kept-lt}
use lib.Ieee.Exact.{HasValue, round_exact}
use lib.Ieee.Order.{round_mono}
use lib.Ieee.Positive.{num, den, den_pos, through, value→cross}
use Rattle.floats.proofs.Values.{pow_le_back}
use Rattle.floats.proofs.Signs.{round-sgn}
use Rattle.floats.proofs.Ranges.{NonNeg, non_neg-of-value, non_neg-of-le, le→cross, le-value}

-- ---- the b + 1 leading binary digits of a / c
pub record Leading (b a c : ℕ) : Type 0 where
  pub digits : ℕ
  pub power : ℕ
  pub low : 2 ^ b ≤ digits
  pub high : digits < 2 ^ suc b
  pub below : digits * 2 ^ power * c ≤ a
  pub above : a < suc digits * 2 ^ power * c

-- a / c is from `lower` to `upper`
abbrev pub lower : {b a c : ℕ} → Leading b a c → ℕ
lower l = l.digits * 2 ^ l.power

abbrev pub upper : {b a c : ℕ} → Leading b a c → ℕ
upper l = suc l.digits * 2 ^ l.power

-- the number of digits, size n, is more than b
size-more : (n b : ℕ) → 2 ^ b ≤ n → b < size n
size-more n b h = lt_of_not-le (λ (g : size n ≤ b). not-le_of_lt (lt_of_lt_of_le (size-lt n) (pow_mono g)) h)

top-power : (s b : ℕ) → b < s → b + (s - suc b) < s
top-power s b h = omega arith

pub leading : (b a c : ℕ) → 0 < c → 2 ^ b * c ≤ a → Leading b a c
leading b a c C h =
    let n = a / c in
    let k = size n - suc b in
    let big : 2 ^ b ≤ n = (le-div_iff_mul-le C).1 h in
    let m = n / 2 ^ k in
    let reach : 2 ^ b * 2 ^ k ≤ n = le_trans (le_of_eq (sym (pow-add 2 b k))) (size_reaches n (b + k) (top-power (size n) b (size-more n b big))) in
    let n-low : n * c ≤ a = div-mul-le_self a c in
    let n-high : a < n * c + c = lt-div-mul-add C in
    let m-low : m * 2 ^ k ≤ n = div-mul-le_self n (2 ^ k) in
    let m-high : suc n ≤ m * 2 ^ k + 2 ^ k = lt-div-mul-add (pow_pos k) in
    record {
      digits = m;
      power = k;
      low = (le-div_iff_mul-le (pow_pos k)).1 reach;
      high = kept-lt (suc b) n;
      below = le_trans (mul-le-mul_right c m-low) n-low;
      above = omega (arith, n-high, mul-le-mul_right c m-high);
    }

-- the ends are as close as the digits are many
pub upper-le : {b a c : ℕ} (l : Leading b a c) → 2 ^ b * upper l ≤ suc (2 ^ b) * lower l
upper-le l = omega (arith, mul-le-mul_right (2 ^ l.power) l.low)

-- the power of a fraction below 2 ^ e, and of one from 2 ^ e on
pub power-high : {b a c : ℕ} (l : Leading b a c) (e : ℕ) → 0 < c → a ≤ 2 ^ e * c → l.power ≤ e
power-high {b} {a} {c} l e C h =
    let some : 1 ≤ l.digits = le_trans (pow_pos b) l.low in
    let small : 2 ^ l.power * c ≤ 2 ^ e * c = omega (arith, l.below, h, mul-le-mul_right (2 ^ l.power * c) some) in
    pow_le_back l.power e (le_of_mul-le-mul_right small C)

pub power-low : {b a c : ℕ} (l : Leading b a c) (e : ℕ) → 2 ^ e * c ≤ a → e ≤ b + l.power
power-low {b} {a} {c} l e h =
    let top : upper l ≤ 2 ^ (suc b + l.power) = le_trans (mul-le-mul_right (2 ^ l.power) l.high) (le_of_eq (sym (pow-add 2 (suc b) l.power))) in
    let less : 2 ^ e * c < 2 ^ (suc b + l.power) * c = lt_of_le_of_lt h (lt_of_lt_of_le l.above (mul-le-mul_right c top)) in
    let within : e < suc b + l.power = lt_of_not-le (λ (g : suc b + l.power ≤ e). not-le_of_lt (lt_of_mul-lt-mul_right c less) (pow_mono g)) in
    omega (arith, within)

-- ---- values of binary32, in units of 2 ^ -60
abbrev pub grid : ℕ → ℕ → Float
grid q k = round binary32 false (q * 2 ^ k) (2 ^ 60)

sum-power : (k : ℕ) → 2 ^ k * 2 ^ 149 ≡ 2 ^ (k + 89) * 2 ^ 60
sum-power k = sym (pow-add 2 k 149) ∙ ap (λ (j : ℕ). 2 ^ j) same ∙ pow-add 2 (k + 89) 60
  where
    same : k + 149 ≡ k + 89 + 60
    same = omega arith

pub grid-value : (q k : ℕ) → q < 2 ^ 24 → k ≤ 150 → HasValue (grid q k) false (q * 2 ^ k) (2 ^ 60)
grid-value q k h g =
    let fine : q * 2 ^ (k + 89) < 2 ^ 277 = lt_of_lt_of_le (shl_lt 24 (k + 89) h) (pow_mono {i = 24 + (k + 89)} {j = 277} (omega arith)) in
    let same = mul_assoc q (2 ^ k) (2 ^ 149) ∙ ap (λ (z : ℕ). q * z) (sum-power k) ∙ sym (mul_assoc q (2 ^ (k + 89)) (2 ^ 60)) in
    round_exact binary32 false (q * 2 ^ k) (2 ^ 60) q (k + 89) (pow_pos 60) h fine same

-- y equals a / c
pub value-le : {x : Float} (y : Float) (a c : ℕ) → NonNeg x → HasValue y false a c → T (le y x) → a * den x ≤ num x * c
value-le {x} y a c p v h =
    through a (num y) (num x) c (den y) (den x) (den_pos y) (le_of_eq (sym (value→cross y a c v))) (le→cross (non_neg-of-value y a c v) p h)

pub round-grid-le : (a c q k : ℕ) → 0 < c → q < 2 ^ 24 → k ≤ 150 → a * 2 ^ 60 ≤ q * 2 ^ k * c
    → let x = round binary32 false a c in NonNeg x × (num x * 2 ^ 60 ≤ q * 2 ^ k * den x)
round-grid-le a c q k C h g l =
    let v = grid-value q k h g in
    let most = round_mono binary32 a c (q * 2 ^ k) (2 ^ 60) C (pow_pos 60) l in
    let p = non_neg-of-le (round binary32 false a c) (round-sgn binary32 false a c) (non_neg-of-value (grid q k) (q * 2 ^ k) (2 ^ 60) v) most in
    (p, le-value (grid q k) (q * 2 ^ k) (2 ^ 60) p v most)

pub round-grid-ge : (a c q k : ℕ) → 0 < c → q * 2 ^ k * c ≤ a * 2 ^ 60 → T (le (grid q k) (round binary32 false a c))
round-grid-ge a c q k C l = round_mono binary32 (q * 2 ^ k) (2 ^ 60) a c (pow_pos 60) C l
