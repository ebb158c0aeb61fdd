-- `copy_count`: the branches of the code; at most the frames that are left (`copy-le`); at least 1 where a frame is left and `to_copy` is at least 1
-- (`copy-ge`). Assumes nothing.
use Rattle.std.proofs.Common.{◌≡◌, ℕ, suc, ◌*◌, ◌/◌, ◌^◌, ◌≤◌, min, Bool, true, false, cond, not, T, ℤ, pos, negsuc, neg_ℤ, nat_abs, refl, zero-le, le_refl, le-div_iff_mul-le, le_of_mul-le-mul_right, arith, lit≤, lt-ltb, nltb→le}
use native.Mathlib.Nat.{div-le_of_le-mul}
use Rattle.std.specs.Int.{int_max}
use lib.Ieee.{Float, nan, inf, fin, up, down, lt, le, to_signed}
use lib.Ieee.Fits.{down_pos}
use lib.Ieee.Positive.{num, den, above_of_le}
use Rattle.floats.specs.Numbers.{one, count}
use Rattle.floats.specs.Steps.{to_copy, nat_of, copy_count}
use Rattle.floats.proofs.Signs.{le-cross}
use Rattle.floats.proofs.Ranges as Ranges
use Rattle.floats.proofs.Ranges.{NonNeg, count-non_neg, count-cross}

-- ---- the branches
pub copy-by : (te s t : Float) (n : ℕ) (b : Bool) → lt (count n) (to_copy te s t) ≡ b → cond b n (nat_of (to_signed 31 (to_copy te s t))) ≡ copy_count te s t n
unfolding copy_count
copy-by te s t n b h = rw h

-- a signed number that is held to 0 from below
pub nat_of-is : (v : ℤ) → nat_abs (int_max v (pos 0)) ≡ nat_of v
nat_of-is (pos ℕ.zero) = refl
nat_of-is (pos (suc n)) = rw (lt-ltb 0 (suc n) (omega arith))
nat_of-is (negsuc n) = refl

-- ---- at most n
not-above : (a n : ℕ) → nat_of (neg_ℤ (pos a)) ≤ n
not-above ℕ.zero n = zero-le
not-above (suc a) n = zero-le

nat_of-le : (n : ℕ) (x : Float) {c : Float} → NonNeg c → num c ≡ n * den c → T (not (lt c x)) → nat_of (to_signed 31 x) ≤ n
unfolding lt to_signed
nat_of-le n nan q e h = zero-le
nat_of-le n (inf true) q e h = zero-le
nat_of-le n (inf false) (Ranges.non_neg a k) e h = absurd h
nat_of-le n (fin true p r) q e h = not-above (min (p * up r / down r) (2 ^ 31)) n
nat_of-le n (fin false p r) (Ranges.non_neg a k) e h =
    let g : p * up r * down k ≤ a * up k * down r = nltb→le (a * up k * down r) (p * up r * down k) h in
    let w : p * up r ≤ down r * n = le_of_mul-le-mul_right (omega (arith, rw e at g)) (down_pos k) in
    omega (arith, div-le_of_le-mul (down r) w)

pub copy-le : (te s t : Float) (n : ℕ) → n ≤ 2 ^ 24 → copy_count te s t n ≤ n
unfolding copy_count
copy-le te s t n N = go (lt (count n) (to_copy te s t)) (nat_of-le n (to_copy te s t) (count-non_neg n N) (count-cross n N))
  where
    go : (b : Bool) → (T (not b) → nat_of (to_signed 31 (to_copy te s t)) ≤ n) → cond b n (nat_of (to_signed 31 (to_copy te s t))) ≤ n
    go true h = le_refl n
    go false h = h tt

-- ---- at least 1
nat_of-ge : (x : Float) → T (le one x) → 1 ≤ nat_of (to_signed 31 x)
unfolding to_signed
nat_of-ge nan h = absurd (unfold le in h)
nat_of-ge (inf true) h = absurd (unfold le in h)
nat_of-ge (inf false) h = lit≤ tt
nat_of-ge (fin true m e) h = absurd (above_of_le one (fin true m e) tt h)
nat_of-ge (fin false m e) h =
    let g : 1 ≤ m * up e / down e = (le-div_iff_mul-le (down_pos e)).1 (omega (arith, le-cross 1 (pos 0) m e h)) in
    omega arith

pub copy-ge : (te s t : Float) (n : ℕ) → 1 ≤ n → T (le one (to_copy te s t)) → 1 ≤ copy_count te s t n
unfolding copy_count
copy-ge te s t n N h = go (lt (count n) (to_copy te s t))
  where
    go : (b : Bool) → 1 ≤ cond b n (nat_of (to_signed 31 (to_copy te s t)))
    go true = N
    go false = nat_of-ge (to_copy te s t) h
