-- The coefficient of a tap: its table place and remainder, its size, and each step by which `find_sinc_coefficient` computes it.
-- In order: place and remainder; a blend of two entries; the steps of the code; the size of a coefficient. Assumes nothing.
use mathlib.Core.Path.{◌≡◌, ap, ◌∙◌}
use mathlib.Core.Bool.{Bool, true, false}
use Prim.Native.Nat.{ℕ, ◌+◌, ◌-◌, ◌*◌, ◌/◌, ◌%◌, ◌≤◌, ◌<◌}
use native.Mathlib.Nat.{
  add-mul,
  mul_comm,
  mul-le-mul_right,
  div-le_of_le-mul,
  div-lt_iff_lt-mul,
  div-add-mod',
  mod-lt,
}
use native.Mathlib.Omega.{arith}
use lib.IntN.{ℤ, pos, neg_ℤ, nat_abs, ◌+ℤ◌, ◌-ℤ◌, ◌*ℤ◌, neg_ℤ-neg_ℤ}
use lib.ListN.{get_or}
use lib.Signed.{quot_z}
use mir.Syntax.{w16, w64}
use mir.Val.{SFits, to_z}
use mir.Facts.{to_z-of_z, to_z_pos}
use Rattle.laws.proofs.Integers.{sfits-of-nat_abs, pos-sub}
use Rattle.laws.proofs.Widening.{i16, i64, widened-reads}
use Rattle.sinc.specs.SincTable.{sinc_table, sinc_table_size}
use Rattle.sinc.specs.Sinc.{sinc_filter_points, lobe_points, max_width, table_place, remainder, table_value, sinc_coefficient}
use Rattle.sinc.specs.Lobes.{below_zero, OnSide, EntriesOnSide}
use Rattle.sinc.proofs.TableRule.{entry-abs}
use Rattle.sinc.proofs.Lobes.{signed, nat_abs-signed, signed_add, signed-twice, quot-signed, side-mul, lobe-side}

-- ---- place and remainder

-- the place within a lobe
pub place-lt : (r N : ℕ) → r < N → lobe_points * r / N < lobe_points
place-lt r N h = (div-lt_iff_lt-mul {k = N} {x = lobe_points * r} {y = lobe_points} (omega arith)).1 (omega arith)

pub table_place-lt : (i r N : ℕ) → i < sinc_filter_points → r < N → table_place i r N + 1 < sinc_table_size
unfolding table_place
table_place-lt i r N k h = omega (arith, place-lt r N h)

-- the remainder of each tap is 50r mod N
pub remainder_is : (i r N : ℕ) → remainder i r N ≡ lobe_points * r % N
unfolding remainder table_place
remainder_is i r N = omega (arith, add-mul (lobe_points * i) (lobe_points * r / N) N, div-add-mod' (lobe_points * r) N)

-- one division serves all taps
pub sinc_coefficient-is : (i r N : ℕ) → sinc_coefficient i r N ≡ table_value (lobe_points * i + lobe_points * r / N) (lobe_points * r % N) N
unfolding sinc_coefficient table_place
sinc_coefficient-is i r N = rw (remainder_is i r N)

-- ---- a blend of two entries

abbrev pub double : ℤ → ℤ → ℕ → ℕ → ℤ
double x y N e = pos 2 *ℤ (x *ℤ pos (N - e) +ℤ y *ℤ pos e)

-- two entries on a side of zero
pub record Blend (below : Bool) (x y : ℤ) (N e : ℕ) : Type 0 where
  pub left_small : nat_abs x ≤ 32767
  pub right_small : nat_abs y ≤ 32767
  pub left_side : OnSide below x
  pub right_side : OnSide below y
  pub inside : e < N

-- the size of `double`
abbrev pub size : ℤ → ℤ → ℕ → ℕ → ℕ
size x y N e = nat_abs x * (2 * (N - e)) + nat_abs y * (2 * e)

module _ {below : Bool} {x y : ℤ} {N e : ℕ} (b : Blend below x y N e) where
  pub left-sample : SFits w16 x
  left-sample = sfits-of-nat_abs x (omega (arith, b.left_small))

  pub right-sample : SFits w16 y
  right-sample = sfits-of-nat_abs y (omega (arith, b.right_small))

  left_le : nat_abs x * (2 * (N - e)) ≤ 32767 * (2 * (N - e))
  left_le = mul-le-mul_right (2 * (N - e)) b.left_small

  right_le : nat_abs y * (2 * e) ≤ 32767 * (2 * e)
  right_le = mul-le-mul_right (2 * e) b.right_small

  pub size-le : size x y N e ≤ 65534 * N
  size-le = omega (arith, left_le, right_le, b.inside)

  pub share-le : size x y N e / N ≤ 65534
  share-le = div-le_of_le-mul N (omega (arith, size-le, mul_comm N 65534))

  double-is : double x y N e ≡ signed below (size x y N e)
  double-is =
      let same : 2 * (nat_abs x * (N - e) + nat_abs y * e) ≡ size x y N e = omega arith in
      rw (side-mul below x (N - e) b.left_side, side-mul below y e b.right_side, signed_add below (nat_abs x * (N - e)) (nat_abs y * e))
      (signed-twice below (nat_abs x * (N - e) + nat_abs y * e) ∙ ap (signed below) same)

  pub mean-is : quot_z (double x y N e) (pos N) ≡ signed below (size x y N e / N)
  mean-is = rw double-is (quot-signed below (size x y N e) N)

-- ---- the steps of the code: `-fits` says that a step fits, `-reads` what it reads back as

-- 2 * k
twice-is : (k : ℕ) → k ≤ max_width → pos 2 *ℤ to_z w64 k ≡ pos (2 * k)
twice-is k h = rw (to_z_pos w64 {n = k} (omega arith))

pub twice-fits : (k : ℕ) → k ≤ max_width → SFits w64 (pos 2 *ℤ to_z w64 k)
twice-fits k h = rw (twice-is k h) (record { sfits = omega arith })

twice-reads : (k : ℕ) → k ≤ max_width → i64 (pos 2 *ℤ to_z w64 k) ≡ pos (2 * k)
twice-reads k h = to_z-of_z (twice-fits k h) ∙ twice-is k h

-- n, the left part, the right part
abbrev pub rest : ℕ → ℕ → ℤ
rest N e = i64 (pos 2 *ℤ to_z w64 N) -ℤ i64 (pos 2 *ℤ to_z w64 e)

abbrev pub left_part : ℤ → ℕ → ℕ → ℤ
left_part x N e = i64 (i16 x) *ℤ i64 (rest N e)

abbrev pub right_part : ℤ → ℕ → ℤ
right_part y e = i64 (i16 y) *ℤ i64 (pos 2 *ℤ to_z w64 e)

module _ {below : Bool} {x y : ℤ} {N e : ℕ} (b : Blend below x y N e) (narrow : N ≤ max_width) where
  remainder-le : e ≤ max_width
  remainder-le = omega (arith, b.inside)

  rest-is : rest N e ≡ pos (2 * (N - e))
  rest-is =
      let same : 2 * N - 2 * e ≡ 2 * (N - e) = omega arith in
      rw (twice-reads N narrow, twice-reads e remainder-le, pos-sub (2 * N) (2 * e) (omega (arith, b.inside))) (ap pos same)

  pub rest-fits : SFits w64 (rest N e)
  rest-fits = rw rest-is (record { sfits = omega arith })

  left_is : left_part x N e ≡ signed below (nat_abs x * (2 * (N - e)))
  left_is = rw (widened-reads w64 tt (left-sample b), to_z-of_z rest-fits, rest-is) (side-mul below x (2 * (N - e)) b.left_side)

  pub left-fits : SFits w64 (left_part x N e)
  left-fits =
      rw left_is
      (sfits-of-nat_abs (signed below (nat_abs x * (2 * (N - e)))) (omega (arith, nat_abs-signed below (nat_abs x * (2 * (N - e))), left_le b)))

  pub left-reads : i64 (left_part x N e) ≡ signed below (nat_abs x * (2 * (N - e)))
  left-reads = to_z-of_z left-fits ∙ left_is

  right_is : right_part y e ≡ signed below (nat_abs y * (2 * e))
  right_is = rw (widened-reads w64 tt (right-sample b), twice-reads e remainder-le) (side-mul below y (2 * e) b.right_side)

  pub right-fits : SFits w64 (right_part y e)
  right-fits =
      rw right_is (sfits-of-nat_abs (signed below (nat_abs y * (2 * e))) (omega (arith, nat_abs-signed below (nat_abs y * (2 * e)), right_le b, remainder-le)))

  pub right-reads : i64 (right_part y e) ≡ signed below (nat_abs y * (2 * e))
  right-reads = to_z-of_z right-fits ∙ right_is

-- the size, of entries that are not below zero
module _ {x y : ℤ} {N e : ℕ} (b : Blend false x y N e) (narrow : N ≤ max_width) where
  sum_is : i64 (left_part x N e) +ℤ i64 (right_part y e) ≡ pos (size x y N e)
  sum_is = rw (left-reads b narrow, right-reads b narrow)

  pub sum_fits : SFits w64 (i64 (left_part x N e) +ℤ i64 (right_part y e))
  sum_fits = rw sum_is (record { sfits = omega (arith, size-le b) })

  pub sum-reads : i64 (i64 (left_part x N e) +ℤ i64 (right_part y e)) ≡ pos (size x y N e)
  sum-reads = to_z-of_z sum_fits ∙ sum_is

-- the size, of entries that are not above zero
less-negative : (m n : ℕ) → pos m -ℤ neg_ℤ (pos n) ≡ pos (m + n)
less-negative m n = ap (λ (z : ℤ). pos m +ℤ z) (neg_ℤ-neg_ℤ (pos n))

module _ {x y : ℤ} {N e : ℕ} (b : Blend true x y N e) (narrow : N ≤ max_width) where
  left-size-is : pos 0 -ℤ i64 (left_part x N e) ≡ pos (nat_abs x * (2 * (N - e)))
  left-size-is = rw (left-reads b narrow) (less-negative 0 (nat_abs x * (2 * (N - e))) ∙ ap pos (omega arith))

  pub left-size-fits : SFits w64 (pos 0 -ℤ i64 (left_part x N e))
  left-size-fits = rw left-size-is (record { sfits = omega (arith, left_le b) })

  size_is : i64 (pos 0 -ℤ i64 (left_part x N e)) -ℤ i64 (right_part y e) ≡ pos (size x y N e)
  size_is = rw (to_z-of_z left-size-fits, left-size-is, right-reads b narrow) (less-negative (nat_abs x * (2 * (N - e))) (nat_abs y * (2 * e)))

  pub size_fits : SFits w64 (i64 (pos 0 -ℤ i64 (left_part x N e)) -ℤ i64 (right_part y e))
  size_fits = rw size_is (record { sfits = omega (arith, size-le b) })

  pub size-reads : i64 (i64 (pos 0 -ℤ i64 (left_part x N e)) -ℤ i64 (right_part y e)) ≡ pos (size x y N e)
  size-reads = to_z-of_z size_fits ∙ size_is

-- ---- the size of a coefficient

-- two neighbours of the table
pub entries : (below : Bool) (L e N : ℕ) → L + 1 < sinc_table_size → e < N → EntriesOnSide below L
    → Blend below (get_or sinc_table L (pos 0)) (get_or sinc_table (L + 1) (pos 0)) N e
entries below L e N h k side = record {
  left_small = entry-abs L (omega arith);
  right_small = entry-abs (L + 1) (omega arith);
  left_side = side.0;
  right_side = side.1;
  inside = k;
}

pub remainder-lt : (i r N : ℕ) → r < N → remainder i r N < N
remainder-lt i r N h = rw (remainder_is i r N) (mod-lt (lobe_points * r) (omega arith))

-- no coefficient exceeds 65,534 in size
pub sinc_coefficient-abs : (i r N : ℕ) → i < sinc_filter_points → r < N → nat_abs (sinc_coefficient i r N) ≤ 65534
unfolding sinc_coefficient table_value table_place
sinc_coefficient-abs i r N k h =
    let b = entries (below_zero i) (table_place i r N) (remainder i r N) N (table_place-lt i r N k h) (remainder-lt i r N h)
    (lobe-side i (lobe_points * r / N) k (place-lt r N h)) in
    rw (mean-is b, nat_abs-signed (below_zero i) _) (share-le b)
