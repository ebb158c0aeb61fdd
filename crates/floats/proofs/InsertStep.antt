-- An insert step for s of 0.5 at most: period * s / (1 - s), cut, is at most the period (`insert-le`). Sections: s from 0 to 0.5; s below zero; any s.
-- Assumes nothing.
use Rattle.std.proofs.Common.{◌≡◌, ℕ, ◌+◌, ◌-◌, ◌*◌, ◌^◌, ◌<◌, ◌≤◌, Bool, true, false, cond, T, eqb, ℤ, pos, negsuc, sym, refl, ap, true≢false, lt_of_lt_of_le, mul-le-mul_right, zero-lt-suc, mul_assoc, mul-pos, arith, lit≤, shl_lt}
use mathlib.Core.Bool.{false≢true}
use lib.Ieee.{Float, nan, inf, fin, binary32, up, down, round, neg, sum, add, sub, mul, div, le, fits, to_unsigned}
use lib.Ieee.Fits.{round-fits, of_int-fits}
use lib.Ieee.Exact.{HasValue, round_exact}
use lib.Ieee.Positive.{num, den, den_pos, value→cross}
use Rattle.floats.specs.Numbers.{half, one, count}
use Rattle.floats.proofs.Signs.{Sgn, round-sgn}
use Rattle.floats.proofs.Ranges.{NonNeg, non_neg, non_neg-of-value, non_neg-of-le, mul_is, sub_is, le→cross, le-value}
use Rattle.floats.proofs.Ranges.{count-value, count-non_neg, count-cross}
use Rattle.floats.proofs.Bounds.{round-le, round-ge, cut-le, quotient_le}

-- ---- s from 0 to 0.5
-- half of a count is a value of the format
half-value : (n : ℕ) → n < 2 ^ 24 → HasValue (round binary32 false n 2) false n 2
half-value n h =
    round_exact binary32 false n 2 n 148 (zero-lt-suc 1) h (lt_of_lt_of_le (shl_lt 24 148 h) (lit≤ tt)) (sym (mul_assoc n (2 ^ 148) 2))

-- 1 - s is from 0.5 to 1
pub rest : {s : Float} → NonNeg s → T (le s half) → NonNeg (sub binary32 one s) × T (le half (sub binary32 one s))
unfolding fits
rest {s} q h =
    let g : num s * 2 ≤ 1 * den s = le→cross q (non_neg 1 (negsuc 0)) h in
    let a = 1 * den s - num s * 1 in
    let c = 1 * den s in
    let C : 0 < c = mul-pos (zero-lt-suc 0) (den_pos s) in
    let hi = round-le binary32 a c (non_neg 1 (pos 0)) tt C (omega arith) in
    rw (sub_is binary32 (non_neg 1 (pos 0)) q (omega arith)) (
      non_neg-of-le (round binary32 false a c) (round-sgn binary32 false a c) (non_neg 1 (pos 0)) hi,
      round-ge binary32 a c (non_neg 1 (negsuc 0)) tt C (omega arith),
    )

-- the product is at most half of the count
pub part : (n : ℕ) {s : Float} → n < 2 ^ 24 → NonNeg s → T (le s half)
    → NonNeg (mul binary32 (count n) s) × (num (mul binary32 (count n) s) * 2 ≤ n * den (mul binary32 (count n) s))
part n {s} N q h =
    let p = count-non_neg n (omega arith) in
    let x = count n in
    let y = round binary32 false n 2 in
    let v = half-value n N in
    let r = non_neg-of-value y n 2 v in
    let g : num s * 2 ≤ 1 * den s = le→cross q (non_neg 1 (negsuc 0)) h in
    let a = num x * num s in
    let c = den x * den s in
    let C : 0 < c = mul-pos (den_pos x) (den_pos s) in
    let y-is = ap (λ (z : ℕ). z * c) (value→cross y n 2 v) in
    let x-is = ap (λ (z : ℕ). z * (num s * den y)) (count-cross n (omega arith)) in
    let twice : a * den y * 2 ≤ num y * c * 2 = omega (arith, y-is, x-is, mul-le-mul_right (n * den x * den y) g) in
    let most = round-le binary32 a c r (round-fits binary32 false n 2) C (omega arith) in
    let m = non_neg-of-le (round binary32 false a c) (round-sgn binary32 false a c) r most in
    rw (mul_is binary32 p q) (m, le-value y n 2 m v most)

pub insert-quotient : (n : ℕ) {s : Float} → n < 2 ^ 24 → NonNeg s → T (le s half)
    → let z = div binary32 (mul binary32 (count n) s) (sub binary32 one s) in Sgn false z × T (le z (count n))
insert-quotient n {s} N q h =
    let p = count-non_neg n (omega arith) in
    let x = part n N q h in
    let y = rest q h in
    let low : 1 * den (sub binary32 one s) ≤ num (sub binary32 one s) * 2 = omega (arith, le→cross (non_neg 1 (negsuc 0)) y.0 y.1) in
    let same : n * 2 * den (count n) ≤ num (count n) * (2 * 1) = omega (arith, count-cross n (omega arith)) in
    quotient_le binary32 n 2 1 2 x.0 y.0 p (of_int-fits binary32 (pos n)) (zero-lt-suc 1) (zero-lt-suc 0) x.1 low same

insert-some : (n : ℕ) {s : Float} → n < 2 ^ 24 → NonNeg s → T (le s half) → to_unsigned 64 (div binary32 (mul binary32 (count n) s) (sub binary32 one s)) ≤ n
insert-some n {s} N q h =
    let r = insert-quotient n N q h in
    cut-le (count n) (div binary32 (mul binary32 (count n) s) (sub binary32 one s)) n (count-value n (omega arith)) r.0 r.1

-- ---- s below zero: a quotient below zero or a NaN, which is cut to 0
cut-none : (x : Float) → Sgn true x → to_unsigned 64 x ≡ 0
unfolding to_unsigned
cut-none nan s = absurd s
cut-none (inf true) s = refl
cut-none (inf false) s = absurd (false≢true s)
cut-none (fin true m e) s = refl
cut-none (fin false m e) s = absurd (false≢true s)

below_none : (x y : Float) → Sgn true x → Sgn false y → to_unsigned 64 (div binary32 x y) ≡ 0
unfolding div to_unsigned
below_none nan y s t = absurd s
below_none (inf false) y s t = absurd (false≢true s)
below_none (inf true) nan s t = absurd t
below_none (inf true) (inf u) s t = refl
below_none (inf true) (fin true b d) s t = absurd (true≢false t)
below_none (inf true) (fin false b d) s t = refl
below_none (fin false a k) y s t = absurd (false≢true s)
below_none (fin true a k) nan s t = absurd t
below_none (fin true a k) (inf true) s t = absurd (true≢false t)
below_none (fin true a k) (inf false) s t = refl
below_none (fin true a k) (fin true b d) s t = absurd (true≢false t)
below_none (fin true a k) (fin false b d) s t = go (eqb b 0) (eqb a 0)
  where
    go : (x y : Bool) → to_unsigned 64 (cond x (cond y nan (inf true)) (round binary32 true (a * up k * down d) (b * up d * down k))) ≡ 0
    go true true = refl
    go true false = refl
    go false y = cut-none (round binary32 true (a * up k * down d) (b * up d * down k)) (round-sgn binary32 true (a * up k * down d) (b * up d * down k))

below-sgns : {x : Float} (m : ℕ) (e : ℤ) → NonNeg x → Sgn true (mul binary32 x (fin true m e)) × Sgn false (sub binary32 one (fin true m e))
unfolding mul sub add neg sum
below-sgns m e (non_neg a k) =
    (round-sgn binary32 true (a * up k * (m * up e)) (down k * down e), round-sgn binary32 false (1 * 1 * down e + m * up e * 1) (1 * down e))

below_inf : {x : Float} → NonNeg x → to_unsigned 64 (div binary32 (mul binary32 x (inf true)) (sub binary32 one (inf true))) ≡ 0
unfolding to_unsigned mul div sub add neg
below_inf (non_neg a k) = go (eqb a 0)
  where
    go : (t : Bool) → to_unsigned 64 (div binary32 (cond t nan (inf true)) (inf false)) ≡ 0
    go true = refl
    go false = refl

-- ---- any s
pub insert-le : (s : Float) (n : ℕ) → n < 2 ^ 24 → T (le s half)
    → to_unsigned 64 (div binary32 (mul binary32 (count n) s) (sub binary32 one s)) ≤ n
insert-le nan n h g = absurd (unfold le in g)
insert-le (inf false) n h g = absurd (unfold le in g)
insert-le (inf true) n h g = omega (arith, below_inf (count-non_neg n (omega arith)))
insert-le (fin false m e) n h g = insert-some n h (non_neg m e) g
insert-le (fin true m e) n h g =
    let w = below-sgns m e (count-non_neg n (omega arith)) in
    omega (arith, below_none (mul binary32 (count n) (fin true m e)) (sub binary32 one (fin true m e)) w.0 w.1)
