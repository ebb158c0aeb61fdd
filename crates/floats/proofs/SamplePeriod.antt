-- The sample period of a rate in 1,000..=500,000 is an `f32` above zero, from 2 ^ -19 to 2 ^ -9. Assumes nothing.
use Rattle.std.proofs.Common.{◌≡◌, ℕ, ◌*◌, ◌^◌, ◌<◌, ◌≤◌, false, T, pos, negsuc, ◌∙◌, le_trans, zero-lt-suc, mul-pos, arith, lit≤}
use lib.Ieee.{Float, fin, Format, binary32, binary64, prec, round, div, le, fits, of_int}
use lib.Ieee.Exact.{HasValue}
use lib.Ieee.Back.{round_whole}
use lib.Ieee.Positive.{num, den, den_pos, positive, between, value→cross}
use lib.Ieee.Scale.{round_same}
use Rattle.floats.specs.Numbers.{one, narrow}
use Rattle.floats.specs.Settings.{sample_period}
use Rattle.floats.proofs.Narrow.{narrow-val, narrow-fits}
use Rattle.floats.proofs.Signs.{round-sgn}
use Rattle.floats.proofs.Ranges.{NonNeg, non_neg, own_value, non_neg-of-value, non_neg-of-le, div_is, le→cross}
use Rattle.floats.proofs.Bounds.{round-le, round-ge}

-- 2 ^ -19 and 2 ^ -9
abbrev pub shortest : Float
shortest = fin false 1 (negsuc 18)

abbrev pub longest : Float
longest = fin false 1 (negsuc 8)

-- the rate in a format that has it exactly, and 1 / R
rate-value : (f : Format) (R : ℕ) → R ≤ 2 ^ prec f → HasValue (of_int f (pos R)) false R 1
unfolding of_int
rate-value f R h = round_whole f false R h

pub inverse-is : (f : Format) (R : ℕ) → 0 < R → R ≤ 2 ^ prec f → div f one (of_int f (pos R)) ≡ round f false 1 R
inverse-is f R P h =
    let x = of_int f (pos R) in
    let v = rate-value f R h in
    let is = value→cross x R 1 v in
    let some : 0 < num x = omega (arith, is, mul-pos P (den_pos x)) in
    div_is f (non_neg 1 (pos 0)) (non_neg-of-value x R 1 v) some
    ∙ round_same f false (1 * den x) (num x * 1) 1 R (mul-pos some (zero-lt-suc 0)) P (omega (arith, is))

pub period-range : (R : ℕ) → 1000 ≤ R → R ≤ 500000
    → T (positive (sample_period R)) × T (fits binary32 (sample_period R)) × T (le shortest (sample_period R)) × T (le (sample_period R) longest)
unfolding sample_period fits
period-range R h g =
    let P : 0 < R = omega arith in
    let y = round binary64 false 1 R in
    let lo = round-ge binary64 1 R (non_neg 1 (negsuc 18)) tt P (omega arith) in
    let hi = round-le binary64 1 R (non_neg 1 (negsuc 8)) tt P (omega arith) in
    let p : NonNeg y = non_neg-of-le y (round-sgn binary64 false 1 R) (non_neg 1 (negsuc 8)) hi in
    let low : T (le shortest (narrow y)) = rw (narrow-val y false (num y) (den y) (den_pos y) (own_value p))
    (round-ge binary32 (num y) (den y) (non_neg 1 (negsuc 18)) tt (den_pos y) (le→cross (non_neg 1 (negsuc 18)) p lo)) in
    let high : T (le (narrow y) longest) = rw (narrow-val y false (num y) (den y) (den_pos y) (own_value p))
    (round-le binary32 (num y) (den y) (non_neg 1 (negsuc 8)) tt (den_pos y) (le→cross p (non_neg 1 (negsuc 8)) hi)) in
    rw (inverse-is binary64 R P (le_trans g (lit≤ tt))) (between shortest (narrow y) longest tt tt low high, narrow-fits y, low, high)
