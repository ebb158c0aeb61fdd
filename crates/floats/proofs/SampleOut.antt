-- A sample out, sample/32767, without a division: a + a·r for a = sample/2 ^ 15, which is exact, and r = 1/32767 rounded. For a size n from 512 to
-- 32704, and G = 32769·n, the sum and the quotient are both between G/2 ^ 30 and (G + 1)/2 ^ 30, so they round alike. The other sizes are computed.
-- Sections: the two products; sizes from 512 to 32704; the computed sizes; every size, and the sign. Assumes nothing.
use Rattle.std.proofs.Common.{◌≡◌, ℕ, zero, suc, ◌+◌, ◌-◌, ◌*◌, ◌^◌, ◌<◌, ◌≤◌, Bool, true, false, not, ◌&&◌, T, eqb, leb, ℤ, pos, negsuc, sym, ap, ◌∙◌, ap₂, le_of_suc-le-suc, not-suc-le-zero, lt_of_le_of_lt, add-zero, add-suc, mul-le-mul_right, mul_assoc, add-sub_of_le, suc-add, mul-pos, zero-add, arith, lit<, lit≤, eqb→eq, leb→le, pow_pos, w16, SFits}
use lib.Dec.{nleb→lt}
use lib.Ieee.{Float, nan, inf, fin, binary32, up, down, round, neg, sum, add, mul, div, le, of_int}
use lib.Ieee.Exact.{HasValue, round_exact}
use lib.Ieee.Positive.{num, den, den_pos, value→cross}
use lib.Ieee.Scale.{round_same}
use mir.Facts.{and_yes}
use Rattle.laws.proofs.Equal.{equal, equal_is}
use Rattle.floats.specs.Numbers.{count}
use Rattle.floats.specs.Write.{full, sample_out}
use Rattle.floats.proofs.Values.{round-neg}
use Rattle.floats.proofs.Ranges.{NonNeg, non_neg, non_neg-of-value, mul_is, add_is, div_is, count-non_neg, count-cross}
use Rattle.floats.proofs.FewDigits.{grid, grid-value, value-le, round-grid-le, round-grid-ge}
use Rattle.floats.proofs.Between.{round-between}

-- 2 ^ -15, and 1/32767 rounded
abbrev pub reciprocal_of32768 : Float
reciprocal_of32768 = fin false 1 (negsuc 14)

abbrev pub reciprocal_of32767 : Float
reciprocal_of32767 = fin false 32769 (negsuc 29)

abbrev pub by_product : Float → Float
by_product x = let a = mul binary32 x reciprocal_of32768 in add binary32 a (mul binary32 a reciprocal_of32767)

-- ---- the two products, for a size n
module _ (n : ℕ) (h : n ≤ 32768) where
  x : Float
  x = count n

  a : Float
  a = mul binary32 (count n) reciprocal_of32768

  m : Float
  m = mul binary32 a reciprocal_of32767

  non_neg-x : NonNeg x
  unfolding x
  non_neg-x = count-non_neg n (omega (arith, h))

  x-is : num x ≡ n * den x
  unfolding x
  x-is = count-cross n (omega (arith, h))

  a-is : a ≡ round binary32 false n 32768
  unfolding a x
  a-is =
      mul_is binary32 non_neg-x (non_neg 1 (negsuc 14))
      ∙ round_same binary32 false (num x * 1) (den x * 32768) n 32768 (omega (arith, den_pos x)) (lit< tt) (omega (arith, x-is))

  a-value : HasValue a false n 32768
  a-value = rw a-is (round_exact binary32 false n 32768 n 134 (lit< tt) (omega (arith, h))
      (lt_of_le_of_lt (mul-le-mul_right (2 ^ 134) h) (lit< tt)) (sym (mul_assoc n (2 ^ 134) 32768)))

  non_neg-a : NonNeg a
  non_neg-a = non_neg-of-value a n 32768 a-value

  a-cross : num a * 32768 ≡ n * den a
  a-cross = value→cross a n 32768 a-value

  m-is : m ≡ round binary32 false (n * 32769) (2 ^ 45)
  unfolding m
  m-is =
      mul_is binary32 non_neg-a (non_neg 32769 (negsuc 29))
      ∙ round_same binary32 false (num a * 32769) (den a * 2 ^ 30) (n * 32769) (2 ^ 45) (omega (arith, den_pos a)) (pow_pos 45) (omega (arith, a-cross))

  non_neg-m : NonNeg m
  non_neg-m = rw m-is (round-grid-le (n * 32769) (2 ^ 45) 1 60 (pow_pos 45) (lit< tt) (lit≤ tt) (omega (arith, h))).0

  quotient_is : div binary32 x full ≡ round binary32 false n 32767
  quotient_is =
      div_is binary32 non_neg-x (non_neg 32767 (pos 0)) (lit< tt)
      ∙ round_same binary32 false (num x * 1) (32767 * den x) n 32767 (omega (arith, den_pos x)) (lit< tt) (omega (arith, x-is))

  -- ---- sizes from 512 to 32704
  module _ (low : 512 ≤ n) (high : n ≤ 32704) where
    m-low : (512 * n + 8) * den m ≤ num m * 2 ^ 39
    m-low =
        let v = grid-value (512 * n + 8) 21 (omega (arith, high)) (lit≤ tt) in
        let least : T (le (grid (512 * n + 8) 21) m) = rw m-is (round-grid-ge (n * 32769) (2 ^ 45) (512 * n + 8) 21 (pow_pos 45) (omega (arith, low))) in
        omega (arith, value-le (grid (512 * n + 8) 21) ((512 * n + 8) * 2 ^ 21) (2 ^ 60) non_neg-m v least)

    m-high : num m * 2 ^ 39 ≤ (512 * n + 511) * den m
    m-high =
        let most = (round-grid-le (n * 32769) (2 ^ 45) (512 * n + 511) 21 (pow_pos 45) (omega (arith, high)) (lit≤ tt) (omega (arith, high))).1 in
        let most-m : num m * 2 ^ 60 ≤ (512 * n + 511) * 2 ^ 21 * den m = rw m-is most in
        omega (arith, most-m)

    middle : Float
    middle = round binary32 false (2 * (32769 * n) + 1) (2 ^ 31)

    sum-middle : add binary32 a m ≡ middle
    unfolding middle
    sum-middle =
        let both = den a * den m in
        let e : num a * 32768 * den m ≡ n * both = omega (arith, ap (λ (z : ℕ). z * den m) a-cross) in
        let l : (512 * n + 8) * both ≤ num m * den a * 2 ^ 39 = omega (arith, mul-le-mul_right (den a) m-low) in
        let u : num m * den a * 2 ^ 39 ≤ (512 * n + 511) * both = omega (arith, mul-le-mul_right (den a) m-high) in
        let p : 0 < both = mul-pos (den_pos a) (den_pos m) in
        add_is binary32 non_neg-a non_neg-m
        ∙ round-between false 30 (32769 * n) (num a * den m + num m * den a) both p (omega (arith, low)) (lit< tt)
        (omega (arith, e, l, p)) (omega (arith, e, u, p))

    quotient-middle : div binary32 x full ≡ middle
    unfolding middle
    quotient-middle =
        quotient_is ∙ round-between false 30 (32769 * n) n 32767 (lit< tt) (omega (arith, low)) (lit< tt) (omega (arith, low)) (omega (arith, high))

    between : by_product (count n) ≡ div binary32 (count n) full
    unfolding a m x
    between = sum-middle ∙ sym quotient-middle

-- ---- the computed sizes
-- equal, finite and with the sign +
same : Float → Float → Bool
same nan y = false
same (inf s) y = false
same (fin true m e) y = false
same (fin false m e) nan = false
same (fin false m e) (inf t) = false
same (fin false m e) (fin true k d) = false
same (fin false m e) (fin false k d) = eqb m k && equal e d

same-is : (x y : Float) → T (same x y) → x ≡ y
unfolding same
same-is nan y t = absurd t
same-is (inf s) y t = absurd t
same-is (fin true m e) y t = absurd t
same-is (fin false m e) nan t = absurd t
same-is (fin false m e) (inf s) t = absurd t
same-is (fin false m e) (fin true k d) t = absurd t
same-is (fin false m e) (fin false k d) t =
    let b = and_yes (eqb m k) (equal e d) t in
    ap₂ (fin false) (eqb→eq m k b.0) (equal_is e d b.1)

agrees : ℕ → Bool
agrees n = same (by_product (count n)) (div binary32 (count n) full)

-- the d sizes from i on agree
agree : ℕ → ℕ → Bool
agree zero i = true
agree (suc d) i = agrees i && agree d (suc i)

agree_at : (d i j : ℕ) → T (agree d i) → j < d → by_product (count (i + j)) ≡ div binary32 (count (i + j)) full
unfolding agree agrees
agree_at zero i j t h = absurd (not-suc-le-zero h)
agree_at (suc d) i zero t h =
    rw (add-zero i) (same-is (by_product (count i)) (div binary32 (count i) full) (and_yes (agrees i) (agree d (suc i)) t).0)
agree_at (suc d) i (suc j) t h =
    rw (add-suc i j, ← suc-add i j) (agree_at d (suc i) j (and_yes (agrees i) (agree d (suc i)) t).1 (le_of_suc-le-suc h))

small-agree : T (agree 512 0)
unfolding agree agrees same equal add mul div of_int
small-agree = tt

large-agree : T (agree 64 32705)
unfolding agree agrees same equal add mul div of_int
large-agree = tt

-- ---- every size, and the sign
size-agrees : (n : ℕ) → n ≤ 32768 → by_product (count n) ≡ div binary32 (count n) full
size-agrees n h = go (leb 512 n) (leb n 32704) (leb→le 512 n) (nleb→lt 512 n) (leb→le n 32704) (nleb→lt n 32704)
  where
    go : (s t : Bool) → (T s → 512 ≤ n) → (T (not s) → n < 512) → (T t → n ≤ 32704) → (T (not t) → 32704 < n)
        → by_product (count n) ≡ div binary32 (count n) full
    go false t low small high large = rw (zero-add n) at (agree_at 512 0 n small-agree (small tt))
    go true true low small high large = between n h (low tt) (high tt)
    go true false low small high large =
        rw (add-sub_of_le (large tt)) at (agree_at 64 32705 (n - 32705) large-agree (omega (arith, h)))

neg-mul : {x y : Float} → NonNeg x → NonNeg y → mul binary32 (neg x) y ≡ neg (mul binary32 x y)
unfolding mul neg
neg-mul (non_neg m e) (non_neg k d) = round-neg binary32 false (m * up e * (k * up d)) (down e * down d)

neg-add : {x y : Float} → NonNeg x → NonNeg y → add binary32 (neg x) (neg y) ≡ neg (add binary32 x y)
unfolding add sum neg
neg-add (non_neg m e) (non_neg k d) = round-neg binary32 false (m * up e * down d + k * up d * down e) (down e * down d)

neg-quotient : {x : Float} → NonNeg x → div binary32 (neg x) full ≡ neg (div binary32 x full)
unfolding div neg
neg-quotient (non_neg m e) = round-neg binary32 false (m * up e * 1) (32767 * 1 * down e)

neg-by_product : (n : ℕ) → n ≤ 32768 → by_product (neg (count n)) ≡ neg (by_product (count n))
unfolding x a m
neg-by_product n h =
    rw (neg-mul (non_neg-x n h) (non_neg 1 (negsuc 14)), neg-mul (non_neg-a n h) (non_neg 32769 (negsuc 29))) (neg-add (non_neg-a n h) (non_neg-m n h))

neg-int : (k : ℕ) → of_int binary32 (negsuc k) ≡ neg (count (suc k))
unfolding of_int
neg-int k = round-neg binary32 false (suc k) 1

pub sample_out-by-product : (v : ℤ) → SFits w16 v → by_product (of_int binary32 v) ≡ sample_out v
unfolding sample_out
sample_out-by-product (pos n) h = size-agrees n (omega (arith, h.sfits))
sample_out-by-product (negsuc k) h =
    let l : suc k ≤ 32768 = h.sfits in
    rw (neg-int k)
    (neg-by_product (suc k) l ∙ ap neg (size-agrees (suc k) l) ∙ sym (neg-quotient (count-non_neg (suc k) (omega (arith, l)))))
