-- A sample that a read gave comes back from a write, but -32768, which comes back as -32767. For a size n from 1 to 32766 some N = n * 2 ^ i is from
-- 2 ^ 14 to 32766. With Q = 512 * N + (N + 32) / 64 the quotient n / 32767 rounds to Q / 2 ^ (24 + i), and 32767 times that rounds to n. The sizes 0
-- and 32767 are computed. Sections: a fraction near a value of 24 digits; operations by value; the power i; the quotient and the product; every sample.
-- Assumes nothing.
use Rattle.std.proofs.Common.{◌≡◌, ℕ, zero, suc, ◌+◌, ◌-◌, ◌*◌, ◌/◌, ◌%◌, ◌^◌, ◌<◌, ◌≤◌, Bool, true, false, not, T, leb, ℤ, pos, negsuc, nat_abs, sym, refl, ap, ◌∙◌, subst, inl, inr, lt_of_lt_of_le, mul-le-mul_right, mul_assoc, div-lt_iff_lt-mul, eq-or-lt_of_le, mul-lt-mul_of_pos_right, div-add-mod', le-div_iff_mul-le, le_of_mul-le-mul_right, div-one, arith, lit<, lit≤, leb→le, pow_pos, pow_mono, pow-add, shl_lt}
use native.Mathlib.Nat.{eq_of_mul-eq-mul_right, pow-succ', div-eq_of_lt-le}
use lib.Arith.{le→nltb}
use lib.Dec.{nleb→lt}
use lib.Ieee.{Float, nan, inf, fin, binary32, up, down, unlike, size, units, round, mul, div, lt, of_int, to_signed}
use lib.Ieee.Bits.{is_false}
use lib.Ieee.Digits.{size-le}
use lib.Ieee.Fits.{core, round_is, down_pos}
use lib.Ieee.Exact.{HasValue, units_val}
use lib.Ieee.Nearest.{closest}
use lib.Ieee.Scale.{round_same}
use lib.Ieee.Back.{round_whole}
use Rattle.floats.specs.Numbers.{one}
use Rattle.floats.specs.Write.{full, minus_one, unit_clamped, sample_in, sample_out}
use Rattle.floats.proofs.Rounding.{closest-below, closest-above}
use Rattle.floats.proofs.Between.{size-more}
use Rattle.floats.proofs.Signs.{AtMost}
use Rattle.floats.proofs.CutBits.{signed, signed-val}

-- ---- a fraction near a value of 24 digits
-- a / b is less than a half above q, and less than a half below it
near-above : (a b q : ℕ) → q * b ≤ a → 2 * a < (2 * q + 1) * b → closest a b ≡ q
near-above a b q l h =
    let whole : a / b ≡ q = div-eq_of_lt-le b l (omega arith) in
    let parts : q * b + a % b ≡ a = rw (← whole) (div-add-mod' a b) in
    sym (closest-below a b (omega arith)) ∙ whole

near-below : (a b q : ℕ) → a < q * b → 2 * q * b < 2 * a + b → closest a b ≡ q
near-below a b zero l h = absurd (omega arith)
near-below a b (suc p) l h =
    let whole : a / b ≡ p = div-eq_of_lt-le b (omega arith) (omega arith) in
    let parts : p * b + a % b ≡ a = rw (← whole) (div-add-mod' a b) in
    sym (closest-above a b (omega arith)) ∙ ap (λ (z : ℕ). z + 1) whole ∙ omega arith

closest-near : (a b q : ℕ) → 2 * q * b < 2 * a + b → 2 * a < (2 * q + 1) * b → closest a b ≡ q
closest-near a b q low high = go (leb (q * b) a) (leb→le (q * b) a) (nleb→lt (q * b) a)
  where
    go : (t : Bool) → (T t → q * b ≤ a) → (T (not t) → a < q * b) → closest a b ≡ q
    go true h k = near-above a b q (h tt) high
    go false h k = near-below a b q (k tt) low

-- the same size by another fraction
value_same : (x : Float) (s : Bool) (a c b d : ℕ) → 0 < c → a * d ≡ b * c → HasValue x s a c → HasValue x s b d
value_same nan s a c b d C e v = v
value_same (inf t) s a c b d C e v = v
value_same (fin t m k) s a c b d C e v = (
  v.0,
  eq_of_mul-eq-mul_right c C (m * up k * d) (b * down k)
      (omega (arith, ap (λ (z : ℕ). z * d) v.1, ap (λ (z : ℕ). z * down k) e)),
)

-- a / c is from 2 ^ 23 to 2 ^ 24 in units of 2 ^ -g, and nearest to q of them, which is b / d
round-near : (s : Bool) (g q a c b d : ℕ) → g ≤ 149 → q ≤ 2 ^ 24 → 0 < c → b * 2 ^ g ≡ q * d
    → 2 ^ 23 * c ≤ a * 2 ^ g → a * 2 ^ g < 2 ^ 24 * c → 2 * q * c < 2 * (a * 2 ^ g) + c → 2 * (a * 2 ^ g) < (2 * q + 1) * c
    → HasValue (round binary32 s a c) s b d
round-near s g q a c b d G q24 C e first last low high =
    let k = 149 - g in
    let n = a * 2 ^ 149 in
    let p : 0 < 2 ^ k = pow_pos k in
    let exponent : g + k ≡ 149 = omega arith in
    let unit : 2 ^ 149 ≡ 2 ^ g * 2 ^ k = sym (ap (λ (z : ℕ). 2 ^ z) exponent) ∙ pow-add 2 g k in
    let n-is : n ≡ a * 2 ^ g * 2 ^ k = ap (λ (z : ℕ). a * z) unit ∙ sym (mul_assoc a (2 ^ g) (2 ^ k)) in
    let reach : 2 ^ (23 + k) ≤ n / c = (le-div_iff_mul-le C).1 (rw (n-is, pow-add 2 23 k) (omega (arith, mul-le-mul_right (2 ^ k) first))) in
    let below : n / c < 2 ^ (24 + k) = (div-lt_iff_lt-mul C).1 (rw (n-is, pow-add 2 24 k) (omega (arith, mul-lt-mul_of_pos_right last p))) in
    let digits : size (n / c) - 24 ≡ k = omega (arith, size-le (n / c) (24 + k) below, size-more (n / c) (23 + k) reach) in
    let is : closest n (c * 2 ^ k) ≡ q =
    closest-near n (c * 2 ^ k) q (rw n-is (omega (arith, mul-lt-mul_of_pos_right low p))) (rw n-is (omega (arith, mul-lt-mul_of_pos_right high p))) in
    let whole : round binary32 s a c ≡ units binary32 s q k =
    round_is binary32 s a c ∙ ap (core binary32 s n c) digits ∙ ap (λ (z : ℕ). units binary32 s z k) is in
    let under : q * 2 ^ k < 2 ^ 277 = lt_of_lt_of_le (shl_lt 25 k (omega arith)) (pow_mono {i = 25 + k} {j = 277} (omega arith)) in
    rw whole (value_same (units binary32 s q k) s (q * 2 ^ k) (2 ^ 149) b d (pow_pos 149)
    (rw unit (omega (arith, ap (λ (z : ℕ). z * 2 ^ k) e))) (units_val binary32 s q k under))

-- ---- operations by value
unlike-plus : (t : Bool) → unlike t false ≡ t
unlike-plus true = refl
unlike-plus false = refl

quotient_is : (x : Float) (s : Bool) (n : ℕ) → HasValue x s n 1 → div binary32 x full ≡ round binary32 s n 32767
unfolding div
quotient_is nan s n v = absurd v
quotient_is (inf t) s n v = absurd v
quotient_is (fin t m e) s n v =
    ap (λ (z : Bool). round binary32 z (m * up e * 1) (32767 * 1 * down e)) (unlike-plus t ∙ v.0)
    ∙ round_same binary32 s (m * up e * 1) (32767 * 1 * down e) n 32767 (omega (arith, down_pos e)) (lit< tt) (omega (arith, v.1))

product_is : (x : Float) (s : Bool) (a c : ℕ) → 0 < c → HasValue x s a c → mul binary32 x full ≡ round binary32 s (a * 32767) c
unfolding mul
product_is nan s a c C v = absurd v
product_is (inf t) s a c C v = absurd v
product_is (fin t m e) s a c C v =
    ap (λ (z : Bool). round binary32 z (m * up e * (32767 * 1)) (down e * 1)) (unlike-plus t ∙ v.0)
    ∙ round_same binary32 s (m * up e * (32767 * 1)) (down e * 1) (a * 32767) c (omega (arith, down_pos e)) C (omega (arith, v.1))

at_most_one : (x : Float) (s : Bool) (a c : ℕ) → 0 < c → HasValue x s a c → a ≤ c → AtMost 1 x
at_most_one nan s a c C v h = absurd v
at_most_one (inf t) s a c C v h = absurd v
at_most_one (fin t m e) s a c C v h = le_of_mul-le-mul_right {k = c} (omega (arith, v.1, mul-le-mul_right (down e) h)) C

-- a value of size at most 1 passes the clamp
in-unit : (x : Float) → AtMost 1 x → (lt x minus_one ≡ false) × (lt one x ≡ false)
unfolding lt
in-unit nan h = (refl, refl)
in-unit (inf s) h = absurd h
in-unit (fin true m e) h = (is_false _ (le→nltb (1 * 1 * down e) (m * up e * 1) (omega arith)), refl)
in-unit (fin false m e) h = (refl, is_false _ (le→nltb (1 * 1 * down e) (m * up e * 1) (omega arith)))

-- ---- the power i, for a size from 1 to 32766
record Scaled (n : ℕ) : Type 0 where
  power : ℕ
  few : power ≤ 14
  least : 2 ^ 14 ≤ n * 2 ^ power
  most : n * 2 ^ power ≤ 32766

scaled : (n d : ℕ) → d ≤ 14 → 2 ^ 14 ≤ n * 2 ^ d → n ≤ 32766 → Scaled n
scaled n zero g l h = record { power = 0; few = g; least = l; most = omega arith }
scaled n (suc d) g l h = go (leb (2 ^ 14) (n * 2 ^ d)) (λ t. scaled n d (omega arith) (leb→le (2 ^ 14) (n * 2 ^ d) t) h) (nleb→lt (2 ^ 14) (n * 2 ^ d))
  where
    go : (t : Bool) → (T t → Scaled n) → (T (not t) → n * 2 ^ d < 2 ^ 14) → Scaled n
    go true p q = p tt
    go false p q =
        let double : n * 2 ^ suc d ≡ 2 * (n * 2 ^ d) = rw (pow-succ' 2 d) (omega arith) in
        record { power = suc d; few = g; least = l; most = omega (arith, double, q tt) }

-- ---- the quotient and the product
module _ (s : Bool) (n : ℕ) (c : Scaled n) where
  abbrev i : ℕ
  i = c.power

  abbrev N : ℕ
  N = n * 2 ^ i

  abbrev Q : ℕ
  Q = 512 * N + (N + 32) / 64

  abbrev quotient : Float
  quotient = round binary32 s n 32767

  quotient-value : HasValue quotient s Q (2 ^ (24 + i))
  quotient-value =
      let shift : n * 2 ^ (24 + i) ≡ N * 2 ^ 24 = rw (pow-add 2 24 i) (omega arith) in
      round-near s (24 + i) Q n 32767 Q (2 ^ (24 + i)) (omega arith) (omega arith) (lit< tt) refl
      (rw shift (omega arith)) (rw shift (omega arith)) (rw shift (omega arith)) (rw shift (omega arith))

  quotient-unit : AtMost 1 quotient
  quotient-unit =
      at_most_one quotient s Q (2 ^ (24 + i)) (pow_pos (24 + i)) quotient-value (rw (pow-add 2 24 i) (omega (arith, pow_pos i)))

  -- the product in units of 2 ^ -(j + i): N * 2 ^ j is the nearest
  product-near : (j : ℕ) → j ≤ 10 → N * 2 ^ j ≤ 2 ^ 24 → 2 ^ 47 ≤ Q * 32767 * 2 ^ j → Q * 32767 * 2 ^ j < 2 ^ 48
      → 2 * (N * 2 ^ j) * 2 ^ 24 < 2 * (Q * 32767 * 2 ^ j) + 2 ^ 24 → 2 * (Q * 32767 * 2 ^ j) < (2 * (N * 2 ^ j) + 1) * 2 ^ 24
      → HasValue (round binary32 s (Q * 32767) (2 ^ (24 + i))) s n 1
  product-near j J small first last low high =
      let p : 0 < 2 ^ i = pow_pos i in
      round-near s (j + i) (N * 2 ^ j) (Q * 32767) (2 ^ (24 + i)) n 1 (omega arith) small (pow_pos (24 + i)) (rw (pow-add 2 j i) (omega arith))
      (rw (pow-add 2 24 i, pow-add 2 j i) (omega (arith, mul-le-mul_right (2 ^ i) first)))
      (rw (pow-add 2 24 i, pow-add 2 j i) (omega (arith, mul-lt-mul_of_pos_right last p)))
      (rw (pow-add 2 24 i, pow-add 2 j i) (omega (arith, mul-lt-mul_of_pos_right low p)))
      (rw (pow-add 2 24 i, pow-add 2 j i) (omega (arith, mul-lt-mul_of_pos_right high p)))

  -- for N = 2 ^ 14 the product is just below a power of two, where the units are half as large
  product_value : HasValue (mul binary32 quotient full) s n 1
  product_value =
      rw (product_is quotient s Q (2 ^ (24 + i)) (pow_pos (24 + i)) quotient-value)
      (elim (eq-or-lt_of_le c.least) [
        | inl e ↦ product-near 10 (lit≤ tt) (omega arith) (omega arith) (omega arith) (omega arith) (omega arith)
        | inr l ↦ product-near 9 (lit≤ tt) (omega arith) (omega arith) (omega arith) (omega arith) (omega arith)
      ])

-- ---- every sample
-- a quotient of the size n is at most 1, and its product is cut to n
abbrev Returns : Bool → ℕ → Type 0
Returns s n = let x = round binary32 s n 32767 in AtMost 1 x × (to_signed 15 (mul binary32 x full) ≡ signed s n)

returns-scaled : (s : Bool) (n : ℕ) → n ≤ 32766 → Scaled n → Returns s n
returns-scaled s n h c =
    let whole : n / 1 ≡ n = div-one n in (
      quotient-unit s n c,
      signed-val (mul binary32 (quotient s n c) full) s n 1 (lit< tt) (product_value s n c) (omega arith) ∙ ap (signed s) whole,
    )

returns-zero : (s : Bool) → Returns s 0
unfolding round mul to_signed
returns-zero true = (lit≤ tt, refl)
returns-zero false = (lit≤ tt, refl)

returns-full : (s : Bool) → Returns s 32767
unfolding round mul to_signed
returns-full true = (lit≤ tt, refl)
returns-full false = (lit≤ tt, refl)

returns : (s : Bool) (n : ℕ) → n ≤ 32767 → Returns s n
returns s zero h = returns-zero s
returns s (suc k) h = elim (eq-or-lt_of_le h) [
  | inl e ↦ subst (Returns s) (sym e) (returns-full s)
  | inr l ↦ returns-scaled s (suc k) (omega arith) (scaled (suc k) 14 (lit≤ tt) (omega arith) (omega arith))
]

-- by the sign and the size
out-is : (s : Bool) (n : ℕ) → n ≤ 32767 → div binary32 (round binary32 s n 1) full ≡ round binary32 s n 32767
out-is s n h = quotient_is (round binary32 s n 1) s n (round_whole binary32 s n (omega arith))

out-in-unit : (v : ℤ) → nat_abs v ≤ 32767 → AtMost 1 (sample_out v)
unfolding sample_out of_int
out-in-unit (pos n) h = rw (out-is false n h) (returns false n h).0
out-in-unit (negsuc k) h = rw (out-is true (suc k) h) (returns true (suc k) h).0

out-cut : (v : ℤ) → nat_abs v ≤ 32767 → to_signed 15 (mul binary32 (sample_out v) full) ≡ v
unfolding sample_out of_int
out-cut (pos n) h = rw (out-is false n h) (returns false n h).1
out-cut (negsuc k) h = rw (out-is true (suc k) h) (returns true (suc k) h).1

-- no sample but -32768 reads as a value below -1
pub sample_out-not-below : (v : ℤ) → nat_abs v ≤ 32767 → lt (sample_out v) minus_one ≡ false
sample_out-not-below v h = (in-unit (sample_out v) (out-in-unit v h)).0

pub sample-back : (v : ℤ) → nat_abs v ≤ 32767 → sample_in (sample_out v) ≡ v
unfolding sample_in unit_clamped
sample-back v h = let b = in-unit (sample_out v) (out-in-unit v h) in rw (b.0, b.1) (out-cut v h)

pub least-back : sample_in (sample_out (negsuc 32767)) ≡ negsuc 32766
unfolding sample_in sample_out unit_clamped of_int div mul lt to_signed
least-back = refl
