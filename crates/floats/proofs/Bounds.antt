-- Bounds by a value of the format. Sections: `round` against such a value; a cut below a whole number; a quotient against a value, and k of a skip
-- step; the play time once every frame is used. Assumes nothing.
use Rattle.std.proofs.Common.{◌≡◌, ℕ, ◌-◌, ◌*◌, ◌^◌, ◌<◌, ◌≤◌, Bool, true, false, cond, T, eqb, ℤ, pos, refl, ap, ◌∙◌, lt_of_lt_of_le, mul-le-mul_right, zero-lt-suc, mul-le-mul, mul-pos, zero-mul, le_of_mul-le-mul_right, mul-div_cancel, arith}
use lib.Ieee.{Float, nan, inf, fin, Format, binary32, up, down, unlike, round, neg, add, sub, mul, div, le, fits, of_int, to_unsigned}
use lib.Ieee.Fits.{down_pos, of_int-fits}
use lib.Ieee.Exact.{HasValue}
use lib.Ieee.Order.{round_mono}
use lib.Ieee.Positive.{num, den, den_pos, first_pos, above_of_le, value→cross}
use Rattle.floats.specs.Numbers.{one, two, count}
use Rattle.floats.proofs.Values.{round-to, nought, round-zero, mul-zero-right}
use Rattle.floats.proofs.Signs.{Sgn, round-sgn, cond-nonzero}
use Rattle.floats.proofs.Ranges.{NonNeg, non_neg, own_value, non_neg-of-value, non_neg-of-le, div_is, sub_is, le→cross, whole, cut-is, whole-grows}
use Rattle.floats.proofs.Ranges.{count-value, count-non_neg, count-cross, count-some}

-- ---- `round` against a value of the format
pub round-le : (f : Format) {y : Float} (a c : ℕ) → NonNeg y → T (fits f y) → 0 < c → a * den y ≤ num y * c → T (le (round f false a c) y)
round-le f {y} a c p h C k =
    rw (round-to f y false (num y) (den y) (den_pos y) h (own_value p)) at (round_mono f a c (num y) (den y) C (den_pos y) k)

pub round-ge : (f : Format) {y : Float} (a c : ℕ) → NonNeg y → T (fits f y) → 0 < c → num y * c ≤ a * den y → T (le y (round f false a c))
round-ge f {y} a c p h C k =
    rw (round-to f y false (num y) (den y) (den_pos y) h (own_value p)) at (round_mono f (num y) (den y) a c (den_pos y) C k)

-- ---- a value that is at most a whole number n, cut; and one that is at least n
whole_is : (x : Float) (n : ℕ) → HasValue x false n 1 → whole x ≡ n
whole_is x n v =
    let is : num x ≡ n * den x = omega (arith, value→cross x n 1 v) in
    rw is (mul-div_cancel n (den_pos x))

pub cut-le : (x y : Float) (n : ℕ) → HasValue x false n 1 → Sgn false y → T (le y x) → to_unsigned 64 y ≤ n
cut-le x y n v s h =
    let p = non_neg-of-value x n 1 v in
    let q = non_neg-of-le y s p h in
    omega (arith, cut-is q, whole_is x n v, whole-grows q p h)

pub cut-ge : (x y : Float) (n : ℕ) → HasValue x false n 1 → NonNeg y → n < 2 ^ 64 → T (le x y) → n ≤ to_unsigned 64 y
cut-ge x y n v q w h = omega (arith, cut-is q, whole_is x n v, whole-grows (non_neg-of-value x n 1 v) q h)

-- ---- x / y for x at most a / c and y at least b / d, against z; its sign is +
pub quotient_le : (f : Format) {x y z : Float} (a c b d : ℕ) → NonNeg x → NonNeg y → NonNeg z → T (fits f z) → 0 < c → 0 < b
    → num x * c ≤ a * den x → b * den y ≤ num y * d → a * d * den z ≤ num z * (c * b)
    → Sgn false (div f x y) × T (le (div f x y) z)
quotient_le f {x} {y} {z} a c b d p q r fit C B h g k =
    let Y : 0 < num y = first_pos (num y) d (lt_of_lt_of_le (mul-pos B (den_pos y)) g) in
    let le' : num x * den y * den z * (c * b) ≤ num z * (num y * den x) * (c * b) =
    omega (arith, mul-le-mul_right (den z) (mul-le-mul h g), mul-le-mul_right (den x * num y) k) in
    let top = le_of_mul-le-mul_right le' (mul-pos C B) in
    rw (div_is f p q Y) (
      round-sgn f false (num x * den y) (num y * den x),
      round-le f (num x * den y) (num y * den x) r fit (mul-pos Y (den_pos x)) top,
    )

-- x at least a / c and y at most b / d
pub quotient-ge : (f : Format) {x y z : Float} (a c b d : ℕ) → NonNeg x → NonNeg y → NonNeg z → T (fits f z) → 0 < num y → 0 < c → 0 < d
    → a * den x ≤ num x * c → num y * d ≤ b * den y → num z * (c * b) ≤ a * d * den z → T (le z (div f x y))
quotient-ge f {x} {y} {z} a c b d p q r fit Y C D h g k =
    let h' = mul-le-mul_right (d * den z * den y) h in
    let g' = mul-le-mul_right (num z * c * den x) g in
    let le' : num z * (num y * den x) * (c * d) ≤ num x * den y * den z * (c * d) = omega (arith, h', g', mul-le-mul_right (den y * den x) k) in
    let top = le_of_mul-le-mul_right le' (mul-pos C D) in
    rw (div_is f p q Y) (round-ge f (num x * den y) (num y * den x) r fit (mul-pos Y (den_pos x)) top)

-- ---- n / v for a v of 1 at least, and v = s - 1 for an s of 2 at least
by-inf : {x : Float} → NonNeg x → to_unsigned 64 (div binary32 x (inf false)) ≡ 0
unfolding div to_unsigned
by-inf (non_neg a k) = refl

div-cut : (n : ℕ) (v : Float) → n ≤ 2 ^ 24 → T (le one v) → to_unsigned 64 (div binary32 (count n) v) ≤ n
div-cut n nan h l = absurd (unfold le in l)
div-cut n (inf true) h l = absurd (unfold le in l)
div-cut n (inf false) h l = omega (arith, by-inf (count-non_neg n h))
div-cut n (fin true b d) h l = absurd (above_of_le one (fin true b d) tt l)
div-cut n (fin false b d) h l =
    let p = count-non_neg n h in
    let q = non_neg b d in
    let x : num (count n) * 1 ≤ n * den (count n) = omega (arith, count-cross n h) in
    let y : 1 * down d ≤ b * up d * 1 = omega (arith, le→cross (non_neg 1 (pos 0)) q l) in
    let z : n * 1 * den (count n) ≤ num (count n) * (1 * 1) = omega (arith, count-cross n h) in
    let r = quotient_le binary32 n 1 1 1 p q p (of_int-fits binary32 (pos n)) (zero-lt-suc 0) (zero-lt-suc 0) x y z in
    cut-le (count n) (div binary32 (count n) (fin false b d)) n (count-value n h) r.0 r.1

less_one : (s : Float) → T (le two s) → T (le one (sub binary32 s one))
less_one nan h = absurd (unfold le in h)
less_one (inf true) h = absurd (unfold le in h)
less_one (inf false) h = unfold sub add neg le in tt
less_one (fin true m e) h = absurd (above_of_le two (fin true m e) tt h)
less_one (fin false m e) h =
    let g : 1 * 2 * down e ≤ m * up e * 1 = le→cross (non_neg 1 (pos 1)) (non_neg m e) h in
    rw (sub_is binary32 (non_neg m e) (non_neg 1 (pos 0)) (omega arith))
    (round-ge binary32 (m * up e * 1 - 1 * 1 * down e) (down e * 1) (non_neg 1 (pos 0)) (unfold fits in tt) (mul-pos (down_pos e) (zero-lt-suc 0)) (omega arith))

-- a skip step for s of 2 at least makes no more frames than the period
pub skip-le : (n : ℕ) (s : Float) → n ≤ 2 ^ 24 → T (le two s) → to_unsigned 64 (div binary32 (count n) (sub binary32 s one)) ≤ n
skip-le n s h l = div-cut n (sub binary32 s one) h (less_one s l)

-- ---- the play time once every frame is used: (play * 0) / held
count-zero : count 0 ≡ nought false
unfolding of_int round
count-zero = refl

zero-by : (t : Bool) {y : Float} → NonNeg y → 0 < num y → div binary32 (nought t) y ≡ nought (unlike t false)
unfolding div
zero-by t (non_neg n d) h =
    let r : ℕ → Float = λ z. round binary32 (unlike t false) z (n * up d * 1) in
    cond-nonzero n (cond (eqb 0 0) nan (inf (unlike t false))) (r (0 * 1 * down d)) (first_pos n (up d) h)
    ∙ ap r (zero-mul (down d)) ∙ round-zero binary32 (unlike t false) (n * up d * 1) (mul-pos h (zero-lt-suc 0))

pub emptied : (s : Bool) (m : ℕ) (e : ℤ) (n : ℕ) → 0 < n → n ≤ 2 ^ 24 → div binary32 (mul binary32 (fin s m e) (count 0)) (count n) ≡ nought s
emptied s m e n N h =
    rw (count-zero, mul-zero-right binary32 s m e) (zero-by (unlike s false) (count-non_neg n h) (count-some n N h) ∙ twice s)
  where
    twice : (s : Bool) → nought (unlike (unlike s false) false) ≡ nought s
    twice true = refl
    twice false = refl
