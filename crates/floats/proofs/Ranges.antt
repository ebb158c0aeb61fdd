-- Values that are finite and not negative, each as a fraction `num` / `den`. Sections: `NonNeg`; what an operation on two of them rounds; the order,
-- and that sums, products and quotients keep it; the cut to a whole number; a count of frames. So a range's ends, which are closed numbers,
-- give the range of what is computed. Assumes nothing.
use Rattle.std.proofs.Common.{◌≡◌, ℕ, ◌+◌, ◌-◌, ◌*◌, ◌/◌, ◌^◌, ◌<◌, ◌≤◌, min, Bool, true, false, cond, T, eqb, ltb, ℤ, refl, ap, ◌∙◌, true≢false, le_of_eq, mul-le-mul_right, mul-le-mul, mul-pos, arith, ltb→lt, lt→ltb}
use lib.Arith.{le→nltb}
use lib.Ieee.{Float, nan, inf, fin, Format, binary32, up, down, round, neg, sum, add, sub, mul, div, lt, le, of_int, to_unsigned}
use lib.Ieee.Bits.{cond_no, is_true}
use lib.Ieee.Fits.{up_pos}
use lib.Ieee.Exact.{HasValue}
use lib.Ieee.Nearest.{div_mono}
use lib.Ieee.Order.{round_mono, le_of_values}
use lib.Ieee.Back.{round_whole}
use lib.Ieee.Positive.{num, den, den_pos, positive, between, first_pos, through, value→cross}
use Rattle.floats.specs.Numbers.{count}
use Rattle.floats.proofs.Values.{round-neg}
use Rattle.floats.proofs.Signs.{Sgn, cond-nonzero, le-cross}

-- ---- finite, with the sign +
pub data NonNeg : Float → Type 0 where
  non_neg : (m : ℕ) (e : ℤ) → NonNeg (fin false m e)

pub own_value : {x : Float} → NonNeg x → HasValue x false (num x) (den x)
own_value (non_neg m e) = (refl, refl)

pub non_neg-of-value : (x : Float) (a c : ℕ) → HasValue x false a c → NonNeg x
non_neg-of-value nan a c h = absurd h
non_neg-of-value (inf s) a c h = absurd h
non_neg-of-value (fin true m e) a c h = absurd (true≢false h.0)
non_neg-of-value (fin false m e) a c h = non_neg m e

pub non_neg-of-positive : (x : Float) → T (positive x) → NonNeg x × (0 < num x)
non_neg-of-positive nan p = absurd p
non_neg-of-positive (inf s) p = absurd p
non_neg-of-positive (fin true m e) p = absurd p
non_neg-of-positive (fin false m e) p = (non_neg m e, mul-pos (ltb→lt 0 m p) (up_pos e))

-- a value with the sign + that another bounds
pub non_neg-of-le : (x : Float) {y : Float} → Sgn false x → NonNeg y → T (le x y) → NonNeg x
unfolding le
non_neg-of-le nan s q h = absurd s
non_neg-of-le (inf true) s q h = absurd (true≢false s)
non_neg-of-le (inf false) s (non_neg m e) h = absurd h
non_neg-of-le (fin true m e) s q h = absurd (true≢false s)
non_neg-of-le (fin false m e) s q h = non_neg m e

-- ---- what an operation rounds
pub mul_is : (f : Format) {x y : Float} → NonNeg x → NonNeg y → mul f x y ≡ round f false (num x * num y) (den x * den y)
unfolding mul
mul_is f (non_neg m e) (non_neg n d) = refl

pub div_is : (f : Format) {x y : Float} → NonNeg x → NonNeg y → 0 < num y → div f x y ≡ round f false (num x * den y) (num y * den x)
unfolding div
div_is f (non_neg m e) (non_neg n d) h =
    cond-nonzero n (cond (eqb m 0) nan (inf false)) (round f false (m * up e * down d) (n * up d * down e)) (first_pos n (up d) h)

pub add_is : (f : Format) {x y : Float} → NonNeg x → NonNeg y → add f x y ≡ round f false (num x * den y + num y * den x) (den x * den y)
unfolding add sum
add_is f (non_neg m e) (non_neg n d) = refl

less : (f : Format) (a b c : ℕ) → b ≤ a → sum f false a true b c ≡ round f false (a - b) c
unfolding sum
less f a b c h = cond_no (ltb a b) (round f true (b - a) c) (round f false (a - b) c) (le→nltb a b h)

pub sub_is : (f : Format) {x y : Float} → NonNeg x → NonNeg y → num y * den x ≤ num x * den y
    → sub f x y ≡ round f false (num x * den y - num y * den x) (den x * den y)
unfolding sub add neg
sub_is f (non_neg m e) (non_neg n d) h = less f (m * up e * down d) (n * up d * down e) (down e * down d) h

more : (f : Format) (a b c : ℕ) → a < b → sum f false a true b c ≡ neg (round f false (b - a) c)
unfolding sum
more f a b c h =
    ap (λ (t : Bool). cond t (round f true (b - a) c) (round f false (a - b) c)) (is_true (ltb a b) (lt→ltb a b h)) ∙ round-neg f false (b - a) c

pub sub-below : (f : Format) {x y : Float} → NonNeg x → NonNeg y → num x * den y < num y * den x
    → sub f x y ≡ neg (round f false (num y * den x - num x * den y) (den x * den y))
unfolding sub add neg
sub-below f (non_neg m e) (non_neg n d) h = more f (m * up e * down d) (n * up d * down e) (down e * down d) h

pub mul-neg : (f : Format) {x y : Float} → NonNeg x → NonNeg y → mul f x (neg y) ≡ neg (mul f x y)
unfolding mul neg
mul-neg f (non_neg m e) (non_neg n d) = round-neg f false (m * up e * (n * up d)) (down e * down d)

-- ---- the order
pub lt→cross : {x y : Float} → NonNeg x → NonNeg y → T (lt x y) → num x * den y < num y * den x
unfolding lt
lt→cross (non_neg m e) (non_neg n d) h = ltb→lt (m * up e * down d) (n * up d * down e) h

pub le→cross : {x y : Float} → NonNeg x → NonNeg y → T (le x y) → num x * den y ≤ num y * den x
le→cross (non_neg m e) (non_neg n d) h = le-cross m e n d h

pub cross→le : {x y : Float} → NonNeg x → NonNeg y → num x * den y ≤ num y * den x → T (le x y)
cross→le {x} {y} p q h = le_of_values x y (num x) (den x) (num y) (den y) (den_pos x) (den_pos y) (own_value p) (own_value q) h

-- against a fraction a / c that y equals
pub le-value : {x : Float} (y : Float) (a c : ℕ) → NonNeg x → HasValue y false a c → T (le x y) → num x * c ≤ a * den x
le-value {x} y a c p v h =
    through (num x) (num y) a (den x) (den y) c (den_pos y) (le→cross p (non_neg-of-value y a c v) h) (le_of_eq (value→cross y a c v))

module _ (f : Format) {x x' y y' : Float} (p : NonNeg x) (p' : NonNeg x') (q : NonNeg y) (q' : NonNeg y') where
  pub mul-grows : T (le x x') → T (le y y') → T (le (mul f x y) (mul f x' y'))
  mul-grows h g =
      rw (mul_is f p q, mul_is f p' q')
      (round_mono f (num x * num y) (den x * den y) (num x' * num y') (den x' * den y')
      (mul-pos (den_pos x) (den_pos y)) (mul-pos (den_pos x') (den_pos y'))
      (omega (arith, mul-le-mul (le→cross p p' h) (le→cross q q' g))))

  pub add-grows : T (le x x') → T (le y y') → T (le (add f x y) (add f x' y'))
  add-grows h g =
      rw (add_is f p q, add_is f p' q')
      (round_mono f (num x * den y + num y * den x) (den x * den y) (num x' * den y' + num y' * den x') (den x' * den y')
      (mul-pos (den_pos x) (den_pos y)) (mul-pos (den_pos x') (den_pos y'))
      (omega (arith, mul-le-mul_right (den y * den y') (le→cross p p' h), mul-le-mul_right (den x * den x') (le→cross q q' g))))

  pub div_grows : 0 < num y → 0 < num y' → T (le x x') → T (le y' y) → T (le (div f x y) (div f x' y'))
  div_grows Y Y' h g =
      rw (div_is f p q Y, div_is f p' q' Y')
      (round_mono f (num x * den y) (num y * den x) (num x' * den y') (num y' * den x') (mul-pos Y (den_pos x)) (mul-pos Y' (den_pos x'))
      (omega (arith, mul-le-mul (le→cross p p' h) (le→cross q' q g))))

-- ---- the cut
-- the whole part, and the cut to 64 bits
abbrev pub whole : Float → ℕ
whole x = num x / den x

pub cut-is : {x : Float} → NonNeg x → to_unsigned 64 x ≡ min (whole x) (2 ^ 64 - 1)
unfolding to_unsigned
cut-is (non_neg m e) = refl

pub whole-grows : {x y : Float} → NonNeg x → NonNeg y → T (le x y) → whole x ≤ whole y
whole-grows {x} {y} p q h = div_mono (num x) (den x) (num y) (den y) (den_pos x) (den_pos y) (le→cross p q h)

-- y between two values above zero
pub cut-between : (x y z : Float) → T (positive x) → T (positive z) → T (le x y) → T (le y z) → whole z < 2 ^ 64
    → (whole x ≤ to_unsigned 64 y) × (to_unsigned 64 y ≤ whole z)
cut-between x y z p r h g w =
    let q = (non_neg-of-positive y (between x y z p r h g)).0 in
    omega (arith, cut-is q, whole-grows (non_neg-of-positive x p).0 q h, whole-grows q (non_neg-of-positive z r).0 g)

-- ---- a count of frames
pub count-value : (n : ℕ) → n ≤ 2 ^ 24 → HasValue (count n) false n 1
unfolding of_int
count-value n h = round_whole binary32 false n h

pub count-non_neg : (n : ℕ) → n ≤ 2 ^ 24 → NonNeg (count n)
count-non_neg n h = non_neg-of-value (count n) n 1 (count-value n h)

pub count-cross : (n : ℕ) → n ≤ 2 ^ 24 → num (count n) ≡ n * den (count n)
count-cross n h = omega (arith, value→cross (count n) n 1 (count-value n h))

pub count-some : (n : ℕ) → 0 < n → n ≤ 2 ^ 24 → 0 < num (count n)
count-some n N h = omega (arith, count-cross n h, mul-pos N (den_pos (count n)))

pub count-is : (n : ℕ) → n ≤ 2 ^ 24 → (a : ℕ) × (k : ℤ) × (count n ≡ fin false a k) × (a * up k * 1 ≡ n * down k)
count-is n h = go (count n) (count-non_neg n h) (value→cross (count n) n 1 (count-value n h))
  where
    go : (x : Float) → NonNeg x → num x * 1 ≡ n * den x → (a : ℕ) × (k : ℤ) × (x ≡ fin false a k) × (a * up k * 1 ≡ n * down k)
    go x (non_neg a k) e = (a, k, refl, e)
