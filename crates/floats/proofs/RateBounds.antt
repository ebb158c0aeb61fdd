-- The new rate of a rate and a pitch in their ranges: from a 20th of the rate to 20 times it. Assumes nothing.
use Rattle.std.proofs.Common.{◌≡◌, ℕ, ◌*◌, ◌/◌, ◌≤◌, T, pos, negsuc, mul-le-mul_right, zero-lt-suc, arith}
use lib.Ieee.{Float, binary32, div, le, of_bits}
use lib.Ieee.Fits.{of_int-fits}
use lib.Ieee.Positive.{num, den, between}
use Rattle.floats.specs.Numbers.{count}
use Rattle.floats.specs.Settings.{min_pitch, max_pitch}
use Rattle.floats.specs.Scales.{new_rate}
use Rattle.floats.proofs.Ranges.{non_neg, non_neg-of-positive, non_neg-of-le, le→cross, count-value, count-non_neg, count-cross}
use Rattle.floats.proofs.Bounds.{cut-le, cut-ge, quotient_le, quotient-ge}

pub new_rate-between : (rate : ℕ) (pitch : Float) → 1000 ≤ rate → rate ≤ 500000 → T (le min_pitch pitch) → T (le pitch max_pitch)
    → (rate / 20 ≤ new_rate rate pitch) × (new_rate rate pitch ≤ 20 * rate)
unfolding new_rate of_bits
new_rate-between rate pitch R R' h g =
    let n = rate / 20 in
    let m = 20 * rate in
    let z = div binary32 (count rate) pitch in
    let p = count-non_neg rate (omega arith) in
    let q = non_neg-of-positive pitch (between min_pitch pitch max_pitch tt tt h g) in
    let low : 1 * den pitch ≤ num pitch * 20 = omega (arith, le→cross (non_neg 13421773 (negsuc 27)) q.0 h) in
    let high : num pitch * 1 ≤ 20 * den pitch = le→cross q.0 (non_neg 5 (pos 2)) g in
    let x : num (count rate) ≡ rate * den (count rate) = count-cross rate (omega arith) in
    let whole : n * 20 ≤ rate = omega arith in
    let from : num (count n) * (1 * 20) ≤ rate * 1 * den (count n) = rw (count-cross n (omega arith)) (omega (arith, mul-le-mul_right (den (count n)) whole)) in
    let to : rate * 20 * den (count m) ≤ num (count m) * 1 = omega (arith, count-cross m (omega arith)) in
    let some = zero-lt-suc 0 in
    let least-p = count-non_neg n (omega arith) in
    let most-p = count-non_neg m (omega arith) in
    let least = quotient-ge binary32 rate 1 20 1 p q.0 least-p (of_int-fits binary32 (pos n)) q.1 some some (omega arith) high from in
    let most = quotient_le binary32 rate 1 1 20 p q.0 most-p (of_int-fits binary32 (pos m)) some some (omega arith) low to in
    let r = non_neg-of-le z most.0 most-p most.1 in (
      cut-ge (count n) z n (count-value n (omega arith)) r (omega arith) least,
      cut-le (count m) z m (count-value m (omega arith)) most.0 most.1,
    )
