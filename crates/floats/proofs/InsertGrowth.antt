-- An insert step at a local speed s of 2 / (g + 1) at least inserts a period of at most g times the frames that it uses (`inserts-few`). Sections: s above 1;
-- s of 0.5 at most, where k = period * s / (1 - s), cut, is compared with a k for which the period is longer. Assumes nothing.
use Rattle.std.proofs.Common.{◌≡◌, ℕ, zero, suc, ◌+◌, ◌-◌, ◌*◌, ◌^◌, ◌<◌, ◌≤◌, max, Bool, true, false, T, leb, ◌⊎◌, pos, negsuc, sym, refl, ap, ◌∙◌, inl, inr, ⊎_elim, mul-le-mul_right, zero-lt-suc, mul-le-mul, mul-le-mul_left, mul-pos, le_of_mul-le-mul_right, arith, lt→ltb, pow_pos, pow_mono, pow-add, leb-false, leb-true}
use lib.Ieee.{Float, nan, inf, fin, binary32, up, down, sub, mul, div, lt, le, to_unsigned}
use lib.Ieee.Bits.{is_true}
use lib.Ieee.Digits.{back}
use lib.Ieee.Fits.{of_int-fits}
use lib.Ieee.Positive.{num, den, den_pos, above_of_le, positive_of_value, above}
use Rattle.floats.specs.Numbers.{half, one, count}
use Rattle.floats.specs.Steps.{insert_count}
use Rattle.floats.proofs.Values.{pow_le_back}
use Rattle.floats.proofs.Cut.{yes}
use Rattle.floats.proofs.Ranges.{NonNeg, non_neg, non_neg-of-le, mul_is, div_is, sub_is, le→cross, count-value, count-non_neg, count-cross}
use Rattle.floats.proofs.Bounds.{round-ge, cut-ge}
use Rattle.floats.proofs.InsertStep.{rest, part, insert-quotient}
use Rattle.floats.proofs.StepRules.{insert_count-ge, insert_count-le}
use Rattle.floats.proofs.FewDigits.{grid, grid-value, value-le, round-grid-le, round-grid-ge}

-- ---- s above 1
pub fast : {s : Float} → NonNeg s → den s < num s → T (lt one s)
unfolding lt
fast (non_neg m e) h = lt→ltb (1 * 1 * down e) (m * up e * 1) (omega (arith, h))

-- a float from q * 2 ^ k / 2 ^ 60 on is the infinity, which is above 1, or finite
pub from-value : (q k : ℕ) (s : Float) → 0 < q → q < 2 ^ 24 → k ≤ 150 → T (le (grid q k) s)
    → T (lt one s) ⊎ (NonNeg s × (q * 2 ^ k * den s ≤ num s * 2 ^ 60))
from-value q k s Q a b h = go s h (above_of_le (grid q k) s (positive_of_value (grid q k) (q * 2 ^ k) (2 ^ 60) (grid-value q k a b) (mul-pos Q (pow_pos k))) h)
  where
    go : (s : Float) → T (le (grid q k) s) → T (above s) → T (lt one s) ⊎ (NonNeg s × (q * 2 ^ k * den s ≤ num s * 2 ^ 60))
    go nan h p = absurd p
    go (inf true) h p = absurd p
    go (inf false) h p = inl (unfold lt in tt)
    go (fin true m e) h p = absurd p
    go (fin false m e) h p = inr (non_neg m e, value-le (grid q k) (q * 2 ^ k) (2 ^ 60) (non_neg m e) (grid-value q k a b) h)

-- ---- s of 0.5 at most
module _ {s : Float} (S : NonNeg s) (h : T (le s half)) (q k : ℕ) (Q : 0 < q) (few : q < 2 ^ 10) (fine : 36 ≤ k) (ge : q * 2 ^ k * den s ≤ num s * 2 ^ 60) where
  slow : num s * 2 ≤ den s
  slow = omega (arith, le→cross S (non_neg 1 (negsuc 0)) h)

  value-small : q * 2 ^ k ≤ 2 ^ 59
  value-small =
      let small : q * 2 ^ k * den s ≤ 2 ^ 59 * den s = omega (arith, ge, slow) in
      le_of_mul-le-mul_right small (den_pos s)

  power_small : k ≤ 59
  power_small = pow_le_back k 59 (omega (arith, value-small, mul-le-mul_right (2 ^ k) Q))

  -- 1 - s is at most 1 - q * 2 ^ k / 2 ^ 60
  rest_le : let y = sub binary32 one s in num y * 2 ^ 60 + q * 2 ^ k * den y ≤ 2 ^ 60 * den y
  rest_le =
      let j = 60 - k in
      let y = sub binary32 one s in
      let is : 2 ^ j * 2 ^ k ≡ 2 ^ 60 = sym (pow-add 2 j k) ∙ ap (λ (i : ℕ). 2 ^ i) (back 60 k (omega (arith, power_small))) in
      let within : q ≤ 2 ^ j = le_of_mul-le-mul_right (omega (arith, value-small, is)) (pow_pos k) in
      let n = 2 ^ j - q in
      let all : n + q ≡ 2 ^ j = omega (arith, within) in
      let parts : n * 2 ^ k + q * 2 ^ k ≡ 2 ^ 60 = omega (arith, ap (λ (i : ℕ). i * 2 ^ k) all, is) in
      let digits : n < 2 ^ 24 = omega (arith, all, Q, pow_mono {i = j} {j = 24} (omega (arith, fine))) in
      let a = 1 * den s - num s * 1 in
      let top : a * 2 ^ 60 ≤ n * 2 ^ k * (1 * den s) =
      let whole : a + num s ≡ den s = omega (arith, slow) in
      omega (arith, ap (λ (i : ℕ). i * 2 ^ 60) whole, ge, ap (λ (i : ℕ). i * den s) parts) in
      let power : k ≤ 150 = omega (arith, power_small) in
      let g = round-grid-le a (1 * den s) n k (omega (arith, den_pos s)) digits power top in
      let y-le : num y * 2 ^ 60 ≤ n * 2 ^ k * den y = rw (sub_is binary32 (non_neg 1 (pos 0)) S (omega (arith, slow))) g.1 in
      omega (arith, y-le, ap (λ (i : ℕ). i * den y) parts)

  -- the product is at least p times that value
  product-ge : (p : ℕ) → p ≤ 7692 → let x = mul binary32 (count p) s in p * (q * 2 ^ k) * den x ≤ num x * 2 ^ 60
  product-ge p P =
      let c = count p in
      let bottom : p * q * 2 ^ k * (den c * den s) ≤ num c * num s * 2 ^ 60 =
      rw (count-cross p (omega (arith, P))) (omega (arith, mul-le-mul_right (p * den c) ge)) in
      let least = round-grid-ge (num c * num s) (den c * den s) (p * q) k (mul-pos (den_pos c) (den_pos s)) bottom in
      let v = grid-value (p * q) k (omega (arith, mul-le-mul P few)) (omega (arith, power_small)) in
      let is = mul_is binary32 (count-non_neg p (omega (arith, P))) S in
      omega (arith, value-le (grid (p * q) k) (p * q * 2 ^ k) (2 ^ 60) (part p (omega (arith, P)) S h).0 v (rw is least))

  module _ (p : ℕ) (P : p ≤ 7692) where
    abbrev x : Float
    x = mul binary32 (count p) s

    abbrev y : Float
    y = sub binary32 one s

    -- n * (1 - s) is at most p * s
    quotient-ge : (n : ℕ) → n ≤ 2 ^ 24 → n * 2 ^ 60 ≤ (p + n) * (q * 2 ^ k) → T (le (count n) (div binary32 x y))
    quotient-ge n N g =
        let c = count n in
        let r = rest S h in
        let Y : 0 < num y = omega (arith, den_pos y, le→cross (non_neg 1 (negsuc 0)) r.0 r.1) in
        let top : num c * (num y * den x) ≤ num x * den y * den c =
        rw (count-cross n N)
        (omega (
          arith,
          mul-le-mul_right (n * den x * den c) rest_le,
          mul-le-mul_right (den x * den y * den c) g,
          mul-le-mul_right (den y * den c) (product-ge p P),
        )) in
        rw (div_is binary32 (part p (omega (arith, P)) S h).0 r.0 Y)
        (round-ge binary32 (num x * den y) (num y * den x) (count-non_neg n N) (of_int-fits binary32 (pos n)) (mul-pos Y (den_pos x)) top)

    count-is : insert_count s p ≡ max 1 (to_unsigned 64 (div binary32 x y))
    unfolding insert_count
    count-is = rw (is_true (le s half) h)

    slow-few : (g : ℕ) → 2 ^ 61 ≤ suc g * (q * 2 ^ k) → 1 ≤ p → p ≤ g * insert_count s p
    slow-few g G some = go (leb p (g * insert_count s p)) refl
      where
        longer : g * insert_count s p < p → ⊥
        longer less =
            let m-low = insert_count-ge s p in
            let m-high = insert_count-le s p some (omega (arith, P)) in
            let n = suc (insert_count s p) in
            let more : suc g * insert_count s p ≤ p + n = omega (arith, less) in
            let enough : n * 2 ^ 60 ≤ (p + n) * (q * 2 ^ k) =
            omega (arith, mul-le-mul_right (q * 2 ^ k) more, mul-le-mul_left (insert_count s p) G, m-low) in
            let z = div binary32 x y in
            let i = insert-quotient p (omega (arith, P)) S h in
            let Z = non_neg-of-le z i.0 (count-non_neg p (omega (arith, P))) i.1 in
            let small : n ≤ 2 ^ 24 = omega (arith, m-high, P) in
            let cut = cut-ge (count n) z n (count-value n small) Z (omega (arith, small)) (quotient-ge n small enough) in
            omega (arith, cut, count-is)

        go : (b : Bool) → leb p (g * insert_count s p) ≡ b → p ≤ g * insert_count s p
        go true e = leb-true p (g * insert_count s p) e
        go false e = absurd (longer (leb-false p (g * insert_count s p) e))

-- ---- any s
no-factor : {s : Float} (q k : ℕ) → NonNeg s → q * 2 ^ k * den s ≤ num s * 2 ^ 60 → 2 ^ 61 ≤ 1 * (q * 2 ^ k) → T (lt one s)
no-factor {s} q k S ge G = fast S (omega (arith, ge, mul-le-mul_right (den s) G, den_pos s))

-- above 0.5 the frames used are the period's
some-factor : (g : ℕ) (s : Float) (p : ℕ) → (T (le s half) → p ≤ suc g * insert_count s p) → p ≤ suc g * insert_count s p
unfolding insert_count
some-factor g s p slow = go (le s half) refl
  where
    go : (b : Bool) → le s half ≡ b → p ≤ suc g * insert_count s p
    go true e = slow (yes e)
    go false e = rw e (omega (arith, mul-le-mul_right (max 1 p) (zero-lt-suc g)))

pub inserts-few : (q k g : ℕ) (s : Float) (p : ℕ) → 0 < q → q < 2 ^ 10 → 36 ≤ k → k ≤ 150 → T (le (grid q k) s) → 2 ^ 61 ≤ suc g * (q * 2 ^ k)
    → 1 ≤ p → p ≤ 7692 → T (lt one s) ⊎ (p ≤ g * insert_count s p)
inserts-few q k g s p Q few fine power h G some P =
    ⊎_elim inl (λ n. by-factor g n.0 n.1 G) (from-value q k s Q (omega (arith, few)) power h)
  where
    by-factor : (g : ℕ) → NonNeg s → q * 2 ^ k * den s ≤ num s * 2 ^ 60 → 2 ^ 61 ≤ suc g * (q * 2 ^ k) → T (lt one s) ⊎ (p ≤ g * insert_count s p)
    by-factor zero S ge G = inl (no-factor q k S ge G)
    by-factor (suc g) S ge G = inr (some-factor g s p (λ t. slow-few S t q k Q few fine ge p P (suc g) G some))
