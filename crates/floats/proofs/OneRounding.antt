-- 1 / R of a rate in 1,000..=500,000, rounded to binary64 and then to binary32, is 1 / R rounded to binary32 once. With G the whole part of
-- 2 ^ 43 / R, 1 / R is G / 2 ^ 43 and a binary64; or it lies between G / 2 ^ 43 and (G + 1) / 2 ^ 43, and so does the binary64 nearest to it, and
-- what lies there rounds alike (`Between`). Assumes nothing.
use Rattle.std.proofs.Common.{◌≡◌, ℕ, ◌+◌, ◌-◌, ◌*◌, ◌/◌, ◌%◌, ◌^◌, ◌<◌, ◌≤◌, false, pos, sym, ap, ◌∙◌, inl, inr, le_trans, lt_of_lt_of_le, mod-lt, mul_assoc, div-lt_iff_lt-mul, eq-zero-or-pos, one-mul, div-add-mod', le-div_iff_mul-le, mul_right_comm, arith, lit≤, pow_pos, pow_mono, pow-add, shl_lt}
use lib.Ieee.{Float, binary32, binary64, round, div, of_int}
use lib.Ieee.Exact.{HasValue, round_exact}
use lib.Ieee.Order.{round_mono}
use lib.Ieee.Positive.{num, den, den_pos}
use Rattle.floats.specs.Numbers.{one, narrow}
use Rattle.floats.specs.Settings.{sample_period}
use Rattle.floats.proofs.Narrow.{narrow-val}
use Rattle.floats.proofs.Signs.{round-sgn}
use Rattle.floats.proofs.Ranges.{NonNeg, own_value, non_neg-of-value, non_neg-of-le, le-value}
use Rattle.floats.proofs.FewDigits.{value-le}
use Rattle.floats.proofs.Between.{round-between}
use Rattle.floats.proofs.SamplePeriod.{inverse-is}

-- q / 2 ^ 62 is a binary64
sixty-two : (q : ℕ) → q < 2 ^ 53 → HasValue (round binary64 false q (2 ^ 62)) false q (2 ^ 62)
sixty-two q h =
    let fine = lt_of_lt_of_le (shl_lt 53 1012 h) (pow_mono {i = 1065} {j = 2098} (lit≤ tt)) in
    round_exact binary64 false q (2 ^ 62) q 1012 (pow_pos 62) h fine (ap (λ (z : ℕ). q * z) (pow-add 2 1012 62) ∙ sym (mul_assoc q (2 ^ 1012) (2 ^ 62)))

-- 1 / R in units of 2 ^ -1074
in-units : (G R k : ℕ) → G * R ≡ 2 ^ 43 → 1 * 2 ^ (43 + k) ≡ G * 2 ^ k * R
in-units G R k e = one-mul (2 ^ (43 + k)) ∙ pow-add 2 43 k ∙ ap (λ (z : ℕ). z * 2 ^ k) (sym e) ∙ mul_right_comm G R (2 ^ k)

module _ (R : ℕ) (low : 1000 ≤ R) (high : R ≤ 500000) where
  some : 0 < R
  some = omega arith

  G : ℕ
  G = 2 ^ 43 / R

  r : ℕ
  r = 2 ^ 43 % R

  parts : G * R + r ≡ 2 ^ 43
  unfolding G r
  parts = div-add-mod' (2 ^ 43) R

  r-lt : r < R
  unfolding r
  r-lt = mod-lt (2 ^ 43) some

  G-low : 2 ^ 24 ≤ G
  unfolding G
  G-low = (le-div_iff_mul-le some).1 (omega arith)

  G-high : G < 2 ^ 34
  unfolding G
  G-high = (div-lt_iff_lt-mul some).1 (omega arith)

  -- the binary64 nearest to 1 / R
  abbrev y : Float
  y = round binary64 false 1 R

  -- ---- 2 ^ 43 is a multiple of R
  exact : r ≡ 0 → narrow y ≡ round binary32 false 1 R
  exact z =
      let fine = lt_of_lt_of_le (shl_lt 34 1031 G-high) (pow_mono {i = 1065} {j = 2098} (lit≤ tt)) in
      let digits : G < 2 ^ 53 = lt_of_lt_of_le G-high (lit≤ tt) in
      let whole : G * R ≡ 2 ^ 43 = omega (arith, parts, z) in
      narrow-val y false 1 R some (round_exact binary64 false 1 R G 1031 some digits fine (in-units G R 1031 whole))

  -- ---- it is not: 1 / R, and with it y, lies between `least` and `most` in units of 2 ^ -62
  between : 0 < r → narrow y ≡ round binary32 false 1 R
  between z =
      let least = G * 2 ^ 19 + 1 in
      let most = G * 2 ^ 19 + (2 ^ 19 - 1) in
      let v = sixty-two least (omega (arith, G-high)) in
      let w = sixty-two most (omega (arith, G-high)) in
      let lo = round_mono binary64 least (2 ^ 62) 1 R (pow_pos 62) some (omega (arith, parts)) in
      let hi = round_mono binary64 1 R most (2 ^ 62) some (pow_pos 62) (omega (arith, parts, r-lt)) in
      let p : NonNeg y = non_neg-of-le y (round-sgn binary64 false 1 R) (non_neg-of-value (round binary64 false most (2 ^ 62)) most (2 ^ 62) w) hi in
      let over = value-le (round binary64 false least (2 ^ 62)) least (2 ^ 62) p v lo in
      let under = le-value (round binary64 false most (2 ^ 62)) most (2 ^ 62) p w hi in
      narrow-val y false (num y) (den y) (den_pos y) (own_value p)
      ∙ round-between false 43 G (num y) (den y) (den_pos y) G-low (lit≤ tt) (omega (arith, over, den_pos y)) (omega (arith, under, den_pos y))
      ∙ sym (round-between false 43 G 1 R some G-low (lit≤ tt) (omega (arith, parts)) (omega (arith, parts, r-lt)))

  once : narrow y ≡ round binary32 false 1 R
  once = elim (eq-zero-or-pos r) [ inl z ↦ exact z | inr z ↦ between z ]

-- the quotient in binary32 is the sample period
pub one-rounding : (R : ℕ) → 1000 ≤ R → R ≤ 500000 → div binary32 one (of_int binary32 (pos R)) ≡ sample_period R
unfolding sample_period
one-rounding R low high =
    let P : 0 < R = omega arith in
    rw (inverse-is binary32 R P (le_trans high (lit≤ tt)), inverse-is binary64 R P (le_trans high (lit≤ tt))) (sym (once R low high))
