-- The signs of the table: a number on a side of zero has a sign and a size, and each lobe lies on the side that `below_zero` says. One test is
-- computed over the whole table. In order: numbers on a side; the test; the entries of a lobe. Assumes nothing.
use mathlib.Core.Path.{◌≡◌, refl, sym, subst}
use mathlib.Core.Bool.{Bool, true, false, ◌&&◌}
use Prim.Native.Nat.{ℕ, zero, suc, ◌+◌, ◌-◌, ◌*◌, ◌/◌, ◌<◌}
use native.Mathlib.Nat.{zero-mul, zero-div, not-suc-le-zero}
use native.Mathlib.Omega.{arith}
use lib.Dec.{T, leb→le}
use lib.IntN.{ℤ, pos, negsuc, neg_ℤ, nat_abs, ◌+ℤ◌, ◌*ℤ◌, neg_ℤ-+ℤ}
use lib.ListN.{get_or}
use lib.Signed.{le_z, quot_z, le_z_yes}
use mir.Facts.{and_yes}
use Rattle.laws.proofs.Integers.{nat_abs-neg}
use Rattle.laws.proofs.Tables.{every-at}
use Rattle.sinc.specs.SincTable.{sinc_table, sinc_table_size}
use Rattle.sinc.specs.Sinc.{sinc_filter_points, lobe_points}
use Rattle.sinc.specs.Lobes.{below_zero, OnSide, EntriesOnSide}

-- ---- numbers on a side of zero

-- the number of size n
abbrev pub signed : Bool → ℕ → ℤ
signed true n = neg_ℤ (pos n)
signed false n = pos n

pub nat_abs-signed : (b : Bool) (n : ℕ) → nat_abs (signed b n) ≡ n
nat_abs-signed true n = nat_abs-neg (pos n)
nat_abs-signed false n = refl

pub signed_add : (b : Bool) (m n : ℕ) → signed b m +ℤ signed b n ≡ signed b (m + n)
signed_add true m n = sym (neg_ℤ-+ℤ (pos m) (pos n))
signed_add false m n = refl

pub signed-twice : (b : Bool) (n : ℕ) → pos 2 *ℤ signed b n ≡ signed b (2 * n)
signed-twice true zero = refl
signed-twice true (suc n) = refl
signed-twice false n = refl

pub quot-signed : (b : Bool) (n k : ℕ) → quot_z (signed b n) (pos k) ≡ signed b (n / k)
quot-signed true zero k = rw (zero-div k)
quot-signed true (suc n) k = refl
quot-signed false n k = refl

pub side-mul : (b : Bool) (z : ℤ) (n : ℕ) → OnSide b z → z *ℤ pos n ≡ signed b (nat_abs z * n)
side-mul true (pos zero) n h = rw (zero-mul n)
side-mul true (pos (suc a)) n h = absurd (not-suc-le-zero (leb→le (suc a) 0 h.le))
side-mul true (negsuc a) n h = refl
side-mul false (pos a) n h = refl
side-mul false (negsuc a) n h = absurd h.le

-- ---- the test

on_side : Bool → ℤ → Bool
on_side true z = le_z z (pos 0)
on_side false z = le_z (pos 0) z

on_side-yes : (b : Bool) (z : ℤ) → T (on_side b z) → OnSide b z
unfolding on_side
on_side-yes true z t = le_z_yes t
on_side-yes false z t = le_z_yes t

-- the entry z at k is in one lobe, or in two
placed : ℕ → ℤ → Bool
placed k z = on_side (below_zero (k / lobe_points)) z && on_side (below_zero ((k - 1) / lobe_points)) z

tested : (k : ℕ) → k < sinc_table_size → T (placed k (get_or sinc_table k (pos 0)))
unfolding sinc_table placed on_side below_zero
tested k h = every-at placed sinc_table (pos 0) tt k h

sides : (k : ℕ) → k < sinc_table_size
    → OnSide (below_zero (k / lobe_points)) (get_or sinc_table k (pos 0)) × OnSide (below_zero ((k - 1) / lobe_points)) (get_or sinc_table k (pos 0))
unfolding placed
sides k h =
    let z : ℤ = get_or sinc_table k (pos 0) in
    let t = and_yes (on_side (below_zero (k / lobe_points)) z) (on_side (below_zero ((k - 1) / lobe_points)) z) (tested k h) in
    (on_side-yes (below_zero (k / lobe_points)) z t.0, on_side-yes (below_zero ((k - 1) / lobe_points)) z t.1)

-- ---- the entries of a lobe

pub lobe-side : (i place : ℕ) → i < sinc_filter_points → place < lobe_points → EntriesOnSide (below_zero i) (lobe_points * i + place)
lobe-side i place h k =
    let L : ℕ = lobe_points * i + place in
    let left : L / lobe_points ≡ i = omega arith in
    let right : (L + 1 - 1) / lobe_points ≡ i = omega arith in (
      subst (λ (m : ℕ). OnSide (below_zero m) (get_or sinc_table L (pos 0))) left (sides L (omega arith)).0,
      subst (λ (m : ℕ). OnSide (below_zero m) (get_or sinc_table (L + 1) (pos 0))) right (sides (L + 1) (omega arith)).1,
    )
