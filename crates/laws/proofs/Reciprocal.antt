-- Division by a reciprocal in parts of 2^44: n·m/2^44 is n/k for the m of `reciprocal_of k`, where (n + k)·k is at most 2^44.
-- Assumes nothing.
use mathlib.Core.Path.{◌≡◌, sym, subst}
use Prim.Native.Nat.{ℕ, ◌+◌, ◌*◌, ◌/◌, ◌≤◌, ◌<◌}
use native.Mathlib.Nat.{
  le_trans,
  mul-add,
  mul_assoc,
  mul-le-mul_left,
  mul-le-mul_right,
  div-mul-le_self,
  mul-div-le,
  lt-div-mul-add,
  lt-mul-div-succ,
  le_of_lt,
  le-div_iff_mul-le,
  div-eq_of_lt-le,
}
use native.Mathlib.Omega.{arith}
use Rattle.laws.specs.Reciprocal.{reciprocal_parts, reciprocal_of}

-- q is n/k, w is p/k: n·(w + 1)/p is q
scaled-is : (n k p q w : ℕ) → q * k ≤ n → n < q * k + k → k * w ≤ p → p ≤ k * (w + 1) → (q + 1) * k ≤ w → n * (w + 1) / p ≡ q
scaled-is n k p q w front back under over small =
    let low : q * p ≤ q * k * (w + 1) = subst (λ (x : ℕ). q * p ≤ x) (sym (mul_assoc q k (w + 1))) (mul-le-mul_left q over) in
    let high : (q + 1) * k * (w + 1) ≤ (q + 1) * p + (q + 1) * k =
    subst (λ (x : ℕ). x ≤ (q + 1) * p + (q + 1) * k) (sym (mul_assoc (q + 1) k (w + 1)))
    (subst (λ (x : ℕ). (q + 1) * (k * (w + 1)) ≤ x) (mul-add (q + 1) p k) (mul-le-mul_left (q + 1) (omega arith))) in
    let all : (n + 1) * (w + 1) ≤ (q + 1) * k * (w + 1) = mul-le-mul_right (w + 1) (omega arith) in
    let reach : (n + 1) * (w + 1) ≤ (q + 1) * p + (q + 1) * k = le_trans all high in
    div-eq_of_lt-le p (le_trans low (mul-le-mul_right (w + 1) front)) (omega (arith, reach, small))

scaled-le : (n k p w s : ℕ) → n ≤ s * k → k * w ≤ p → n * (w + 1) ≤ s * (p + k)
scaled-le n k p w s size under =
    let all : n * (w + 1) ≤ s * (k * (w + 1)) = subst (λ (x : ℕ). n * (w + 1) ≤ x) (mul_assoc s k (w + 1)) (mul-le-mul_right (w + 1) size) in
    le_trans all (mul-le-mul_left s (omega arith))

next_le : (n k q w : ℕ) → q * k ≤ n → n + k ≤ w → (q + 1) * k ≤ w
next_le n k q w front small = omega arith

pub reciprocal-divides : (n k : ℕ) → 1 ≤ k → (n + k) * k ≤ reciprocal_parts → n * reciprocal_of k / reciprocal_parts ≡ n / k
reciprocal-divides n k some small =
    scaled-is n k reciprocal_parts (n / k) (reciprocal_parts / k) (div-mul-le_self n k) (lt-div-mul-add some) (mul-div-le reciprocal_parts k)
    (le_of_lt (lt-mul-div-succ reciprocal_parts some)) (next_le n k (n / k) (reciprocal_parts / k) (div-mul-le_self n k) ((le-div_iff_mul-le some).1 small))

-- the product, where n is at most s·k
pub product_le : (n k s : ℕ) → n ≤ s * k → n * reciprocal_of k ≤ s * (reciprocal_parts + k)
product_le n k s size = scaled-le n k reciprocal_parts (reciprocal_parts / k) s size (mul-div-le reciprocal_parts k)
