-- `floats::samples::cut_magnitude` meets its contract: the digits and the weight fit, and the upper half of their product is the whole part. Assumes nothing.
use Rattle.std.proofs.Common.{◌≡◌, ℕ, ◌+◌, ◌-◌, ◌*◌, ◌/◌, ◌%◌, ◌^◌, ◌<◌, sym, ap, ◌∙◌, subst, lt_of_lt_of_le, one-mul, arith, lit<, pow_mono, shl_lt, shl_exact, w16, w32, Fits}
use lib.Pow.{pow-lt}
use Rattle.floats.specs.Bits.{exponent_field, cut_magnitude}
use Rattle.floats.proofs.CutBits.{leading-digits}
use Rattle.floats.proofs.samples.cut_magnitude.Goals as goal
use Rattle.floats.proofs.samples.cut_magnitude.Goals.{Start}

-- the weight, as a shift makes it
weight_is : (c : Start) → 1 * 2 ^ (exponent_field c.args.b - 126) % 2 ^ 32 ≡ 2 ^ (exponent_field c.args.b - 126)
weight_is c = let k = exponent_field c.args.b - 126 in shl_exact {a = 1} 1 k 32 (lit< tt) (omega arith) ∙ one-mul (2 ^ k)

digits_lt : (b : ℕ) → 2 ^ 15 + b % 2 ^ 23 / 2 ^ 8 < 2 ^ 16
digits_lt b = omega arith

digits-is : (b : ℕ) → 2 ^ 15 + b % 2 ^ 23 / 2 ^ 8 ≡ (2 ^ 23 + b % 2 ^ 23) / 2 ^ 8
digits-is b = omega arith

pub overflow_cast-weight : goal.overflow_cast-weight
overflow_cast-weight c =
    let k = exponent_field c.args.b - 126 in
    subst (Fits w16) (sym (weight_is c)) (record { fits = pow-lt {i = k} {j = 16} (omega arith) })

pub overflow_mul-result : goal.overflow_mul-result
overflow_mul-result c =
    let b = c.args.b in
    let k = exponent_field b - 126 in
    let d = 2 ^ 15 + b % 2 ^ 23 / 2 ^ 8 in
    let small : d * 2 ^ k < 2 ^ 32 = lt_of_lt_of_le (shl_lt 16 k (digits_lt b)) (pow_mono {i = 16 + k} {j = 32} (omega arith)) in
    subst (λ (z : ℕ). Fits w32 (d * z)) (sym (weight_is c)) (record { fits = small })

pub returns : goal.returns
unfolding cut_magnitude
returns c =
    let b = c.args.b in
    let k = exponent_field b - 126 in
    let places : 24 - k ≡ 150 - exponent_field b = omega arith in
    ap (λ (z : ℕ). (2 ^ 15 + b % 2 ^ 23 / 2 ^ 8) * z / 2 ^ 16) (weight_is c)
    ∙ ap (λ (z : ℕ). z * 2 ^ k / 2 ^ 16) (digits-is b)
    ∙ leading-digits (2 ^ 23 + b % 2 ^ 23) k (omega arith)
    ∙ ap (λ (z : ℕ). (2 ^ 23 + b % 2 ^ 23) / 2 ^ z) places
