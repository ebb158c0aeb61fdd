-- The sum over the taps: its size, and each step by which `interpolate` adds one tap. Assumes nothing.
use mathlib.Core.Path.{◌≡◌, refl, ap, ◌∙◌}
use Prim.Native.Nat.{ℕ, zero, suc, ◌+◌, ◌*◌, ◌≤◌, ◌<◌}
use native.Mathlib.Nat.{lt_of_le_of_lt, mul-le-mul}
use native.Mathlib.Numerals.{add-one}
use native.Mathlib.Omega.{arith}
use lib.IntN.{ℤ, nat_abs, ◌+ℤ◌, ◌*ℤ◌}
use lib.Signed.{shr_z, mag_shr, nat_abs-le}
use mir.Syntax.{w16, w32, w64}
use mir.Val.{SFits}
use mir.Facts.{to_z-of_z}
use Rattle.laws.proofs.Integers.{sfits-of-nat_abs, mag-le-nat_abs, nat_abs-add-le, nat_abs_mul}
use Rattle.laws.proofs.Widening.{i16, i32, i64, widened-fits, widened-reads}
use Rattle.sinc.specs.Sinc.{sinc_filter_points, weighted_sum, held_sample}

-- k products of a sample and a coefficient: 32768·65534 each
abbrev pub limit : ℕ → ℕ
limit k = 2147418112 * k

-- tap i, as the loop meets it
pub record Tap (taps weights : ℕ → ℤ) (i : ℕ) : Type 0 where
  pub sample : SFits w16 (taps i)
  pub weight : SFits w32 (weights i)
  pub small : nat_abs (weights i) ≤ 65534
  pub early : i < sinc_filter_points
  pub before : nat_abs (weighted_sum taps weights i) ≤ limit i

module _ {taps weights : ℕ → ℤ} {i : ℕ} (t : Tap taps weights i) where
  pub sample-fits : SFits w64 (i16 (taps i))
  sample-fits = widened-fits tt t.sample

  pub weight-fits : SFits w64 (i32 (weights i))
  weight-fits = widened-fits tt t.weight

  -- tap * weight
  product-abs : nat_abs (taps i *ℤ weights i) ≤ limit 1
  product-abs = rw nat_abs_mul (mul-le-mul (nat_abs-le (taps i) t.sample.sfits) t.small)

  product_is : i64 (i16 (taps i)) *ℤ i64 (i32 (weights i)) ≡ taps i *ℤ weights i
  product_is = rw (widened-reads w64 tt t.sample, widened-reads w64 tt t.weight)

  pub product-fits : SFits w64 (i64 (i16 (taps i)) *ℤ i64 (i32 (weights i)))
  product-fits = rw product_is (sfits-of-nat_abs (taps i *ℤ weights i) (omega (arith, product-abs)))

  -- sum + tap * weight
  pub next-abs : nat_abs (weighted_sum taps weights (i + 1)) ≤ limit (i + 1)
  unfolding weighted_sum
  next-abs = rw (add-one i) (omega (arith, nat_abs-add-le (weighted_sum taps weights i) (taps i *ℤ weights i), product-abs, t.before))

  sum_is : weighted_sum taps weights i +ℤ i64 (i64 (i16 (taps i)) *ℤ i64 (i32 (weights i))) ≡ weighted_sum taps weights (i + 1)
  unfolding weighted_sum
  sum_is = rw (add-one i, to_z-of_z product-fits, product_is)

  pub sum_fits : SFits w64 (weighted_sum taps weights i +ℤ i64 (i64 (i16 (taps i)) *ℤ i64 (i32 (weights i))))
  sum_fits = rw sum_is (sfits-of-nat_abs (weighted_sum taps weights (i + 1)) (omega (arith, next-abs, t.early)))

  pub sum-reads : i64 (weighted_sum taps weights i +ℤ i64 (i64 (i16 (taps i)) *ℤ i64 (i32 (weights i)))) ≡ weighted_sum taps weights (i + 1)
  sum-reads = to_z-of_z sum_fits ∙ sum_is

-- the whole sum, shifted
shifted_fits : (z : ℤ) (m : ℕ) → nat_abs z ≤ limit sinc_filter_points → SFits w64 (shr_z z m)
shifted_fits z m h = record { sfits = lt_of_le_of_lt (mag_shr z m) (omega (arith, mag-le-nat_abs z)) }

-- what the code holds: z, read back from `sum`, and shifted
pub held-is : {value : ℤ} (sum z : ℤ) (m : ℕ) → sum ≡ z → nat_abs z ≤ limit sinc_filter_points → value ≡ held_sample (i64 (shr_z sum m))
    → value ≡ held_sample (shr_z z m)
held-is sum z m e small v = v ∙ ap held_sample (rw e (to_z-of_z (shifted_fits z m small)))

-- ---- equal taps and weights

pub weighted_sum-cong : {taps taps' weights weights' : ℕ → ℤ} (k : ℕ) → ((i : ℕ) → i < k → taps i ≡ taps' i) → ((i : ℕ) → i < k → weights i ≡ weights' i)
    → weighted_sum taps weights k ≡ weighted_sum taps' weights' k
unfolding weighted_sum
weighted_sum-cong zero p q = refl
weighted_sum-cong {taps} {taps'} {weights} {weights'} (suc k) p q =
    rw (
      weighted_sum-cong {taps = taps} {taps' = taps'} {weights = weights} {weights' = weights'} k (λ i h. p i (omega arith)) (λ i h. q i (omega arith)),
      p k (omega arith),
      q k (omega arith),
    )
