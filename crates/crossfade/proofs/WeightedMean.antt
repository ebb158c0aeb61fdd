-- A weighted mean of two samples, step by step as the code computes it: each step fits its type, and the mean is a sample.
-- `Ramp` names once what a crossfade's sample is given. In order: bounds; what the code computes; its steps.
-- Assumes nothing.
use mathlib.Core.Path.{◌≡◌, ap, ◌∙◌, subst}
use Prim.Native.Nat.{ℕ, suc, ◌+◌, ◌-◌, ◌*◌, ◌/◌, ◌≤◌, ◌<◌}
use native.Mathlib.Nat.{le_of_lt, mul-le-mul_right, div-le_of_le-mul, div-lt_iff_lt-mul, mul_comm}
use native.Mathlib.Omega.{arith}
use lib.IntN.{ℤ, pos, negsuc, nat_abs, ◌+ℤ◌, ◌-ℤ◌, ◌*ℤ◌}
use lib.Signed.{mag, quot_z, nat_abs-le}
use mir.Syntax.{w16, w32}
use mir.Val.{SFits, to_z, of_z}
use mir.Facts.{to_z-of_z, to_z_pos}
use Rattle.laws.proofs.Integers.{sfits-of-nat_abs, nat_abs_mul, pos-sub, mag-neg, mag-pos-neg, mag-neg-pos, mag-neg-neg}
use Rattle.laws.proofs.Widening.{widened-reads}
use Rattle.search.specs.Search.{longest_period}

-- ---- bounds

le-of-sample : (a : ℕ) → a < 32768 → a ≤ 32767
le-of-sample a h = omega arith

-- two samples of weights m and n: the sum is a sample times m + n
mag-weighted : (x y : ℤ) (m n : ℕ) → mag x < 32768 → mag y < 32768 → 0 < m + n → mag (x *ℤ pos m +ℤ y *ℤ pos n) < 32768 * (m + n)
mag-weighted (pos a) (pos b) m n p q h =
    omega (arith, mul-le-mul_right m (le-of-sample a p), mul-le-mul_right n (le-of-sample b q))
mag-weighted (pos a) (negsuc b) m n p q h =
    mag-pos-neg (a * m) (suc b * n) (32768 * (m + n)) (omega (arith, mul-le-mul_right m (le-of-sample a p))) (omega (arith, mul-le-mul_right n q))
mag-weighted (negsuc a) (pos b) m n p q h =
    mag-neg-pos (suc a * m) (b * n) (32768 * (m + n)) (omega (arith, mul-le-mul_right m p)) (omega (arith, mul-le-mul_right n (le-of-sample b q)))
mag-weighted (negsuc a) (negsuc b) m n p q h =
    mag-neg-neg (suc a * m) (suc b * n) (32768 * (m + n)) (omega (arith, mul-le-mul_right m p, mul-le-mul_right n q)) (omega arith)

mag-quot : (z : ℤ) (k : ℕ) → mag z < 32768 * k → 0 < k → mag (quot_z z (pos k)) < 32768
mag-quot (pos a) k p h = (div-lt_iff_lt-mul h).1 p
mag-quot (negsuc a) k p h = mag-neg (suc a / k) 32768 (div-le_of_le-mul k (omega (arith, mul_comm k 32768))) (omega arith)

-- ---- what the code computes, and what it is given

abbrev pub sum : ℤ → ℤ → ℕ → ℕ → ℤ
sum down up k t = down *ℤ pos (k - t) +ℤ up *ℤ pos t

abbrev pub mean : ℤ → ℤ → ℕ → ℕ → ℤ
mean down up k t = quot_z (sum down up k t) (pos k)

pub record Ramp (down up : ℤ) (k t : ℕ) : Type 0 where
  pub down_sample : SFits w16 down
  pub up_sample : SFits w16 up
  pub inside : t < k
  pub short : k ≤ longest_period

-- an i16 read back, and an i32 read back
abbrev i16 : ℤ → ℤ
i16 z = to_z w16 (of_z w16 z)

abbrev i32 : ℤ → ℤ
i32 z = to_z w32 (of_z w32 z)

-- ---- each step of the code: `-fits` says that it fits, `-reads` what it reads back as

module _ {down up : ℤ} {k t : ℕ} (r : Ramp down up k t) where
  k-reads : to_z w32 k ≡ pos k
  k-reads = to_z_pos w32 (omega (arith, r.short))

  t-reads : to_z w32 t ≡ pos t
  t-reads = to_z_pos w32 (omega (arith, r.inside, r.short))

  -- k − t
  rest-is : to_z w32 k -ℤ to_z w32 t ≡ pos (k - t)
  rest-is = rw (k-reads, t-reads, pos-sub k t (le_of_lt r.inside))

  pub rest-fits : SFits w32 (to_z w32 k -ℤ to_z w32 t)
  rest-fits = rw rest-is (sfits-of-nat_abs (pos (k - t)) (omega (arith, r.short)))

  rest-reads : i32 (to_z w32 k -ℤ to_z w32 t) ≡ pos (k - t)
  rest-reads = to_z-of_z rest-fits ∙ rest-is

  -- down·(k − t)
  down_is : i32 (i16 down) *ℤ i32 (to_z w32 k -ℤ to_z w32 t) ≡ down *ℤ pos (k - t)
  down_is = rw (widened-reads w32 tt r.down_sample, rest-reads)

  pub down_fits : SFits w32 (i32 (i16 down) *ℤ i32 (to_z w32 k -ℤ to_z w32 t))
  down_fits =
      rw down_is
      (sfits-of-nat_abs (down *ℤ pos (k - t)) (rw nat_abs_mul (omega (arith, r.short, mul-le-mul_right (k - t) (nat_abs-le down r.down_sample.sfits)))))

  -- up·t
  up_is : i32 (i16 up) *ℤ to_z w32 t ≡ up *ℤ pos t
  up_is = rw (widened-reads w32 tt r.up_sample, t-reads)

  pub up_fits : SFits w32 (i32 (i16 up) *ℤ to_z w32 t)
  up_fits =
      rw up_is
      (sfits-of-nat_abs (up *ℤ pos t) (rw nat_abs_mul (omega (arith, r.inside, r.short, mul-le-mul_right t (nat_abs-le up r.up_sample.sfits)))))

  -- the sum
  sum-mag : mag (sum down up k t) < 32768 * k
  sum-mag =
      subst (λ (n : ℕ). mag (sum down up k t) < 32768 * n) (omega (arith, r.inside))
      (mag-weighted down up (k - t) t r.down_sample.sfits r.up_sample.sfits (omega (arith, r.inside)))

  pub sum-size : nat_abs (sum down up k t) ≤ 32768 * k
  sum-size = nat_abs-le (sum down up k t) sum-mag

  sum_is : i32 (i32 (i16 down) *ℤ i32 (to_z w32 k -ℤ to_z w32 t)) +ℤ i32 (i32 (i16 up) *ℤ to_z w32 t) ≡ sum down up k t
  sum_is = rw (to_z-of_z down_fits, down_is, to_z-of_z up_fits, up_is)

  pub sum_fits : SFits w32 (i32 (i32 (i16 down) *ℤ i32 (to_z w32 k -ℤ to_z w32 t)) +ℤ i32 (i32 (i16 up) *ℤ to_z w32 t))
  sum_fits = rw sum_is (record { sfits = omega (arith, r.short, sum-mag) })

  pub sum-reads : i32 (i32 (i32 (i16 down) *ℤ i32 (to_z w32 k -ℤ to_z w32 t)) +ℤ i32 (i32 (i16 up) *ℤ to_z w32 t)) ≡ sum down up k t
  sum-reads = to_z-of_z sum_fits ∙ sum_is

  -- the mean
  pub mean-fits : SFits w16 (mean down up k t)
  mean-fits = record { sfits = mag-quot (sum down up k t) k sum-mag (omega (arith, r.inside)) }

  -- as `divide` gives it
  pub mean-reads : {share : ℤ} → SFits w32 share
      → share ≡ quot_z (i32 (i32 (i32 (i16 down) *ℤ i32 (to_z w32 k -ℤ to_z w32 t)) +ℤ i32 (i32 (i16 up) *ℤ to_z w32 t))) (pos k) → i32 share ≡ mean down up k t
  mean-reads fits e = to_z-of_z fits ∙ e ∙ ap (λ (z : ℤ). quot_z z (pos k)) sum-reads
