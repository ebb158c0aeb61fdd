-- The most frames that a conversion makes, and the most that it leaves in the tail. Here:
--   ceil_div-add, scan-most           of tail frames in the share N to O: m frames at most if k·N ≤ m·O
--   new_rate-one, rates-one           at pitch 1.0, N is O at least
--   adjust-most, adjust-rest         of a call
-- Assumes nothing.
use mathlib.Core.Path.{◌≡◌, refl, ap}
use mathlib.Core.Bool.{Bool, true, false, cond, or-true}
use mathlib.Core.List.{List, [], ◌∷◌, ◌++◌}
use Prim.Native.Nat.{ℕ, zero, suc, ◌+◌, ◌*◌, ◌≤◌, ◌<◌}
use native.Mathlib.Nat.{add-mul, le_refl, le_trans, le_of_mul-le-mul_right, mul-le-mul_left, mul-le-mul_right, zero-lt-suc}
use native.Mathlib.Omega.{arith}
use lib.IntN.{pos, negsuc}
use lib.Dec.{T}
use lib.Ieee.{Float, binary32, div, le, lt, eq, of_bits}
use lib.Ieee.Fits.{of_int-fits}
use lib.Ieee.Positive.{num, den, between}
use lib.ListN.{length, length-append, length-drop}
use Rattle.frames.specs.Framing.{Frame}
use Rattle.floats.specs.Numbers.{one, count}
use Rattle.floats.specs.Scales.{new_rate}
use Rattle.floats.specs.Settings.{min_pitch, max_pitch}
use Rattle.floats.proofs.Ranges.{non_neg, non_neg-of-positive, non_neg-of-le, le→cross, count-value, count-non_neg, count-cross}
use Rattle.floats.proofs.Bounds.{cut-ge, quotient_le, quotient-ge}
use Rattle.sinc.specs.Sinc.{sinc_filter_points}
use Rattle.rate.specs.declared.Rates.{Rates}
use Rattle.rate.specs.declared.Position.{Position}
use Rattle.rate.specs.Halving.{halved, rates_of}
use Rattle.rate.specs.Tail.{ceil_div, PositionInOrder, scan, consumable}
use Rattle.rate.specs.Conversion.{convert, join_tail, adjust_rate}
use Rattle.rate.proofs.Ceiling.{ceil_div-le, le-ceil_div-mul}
use Rattle.rate.proofs.Counts.{scan-count}
use Rattle.rate.proofs.Halving.{half, halved-suc}

-- ---- tail frames

pub ceil_div-add : (a c b : ℕ) → 0 < b → ceil_div (a + c) b ≤ ceil_div a b + ceil_div c b
ceil_div-add a c b p =
    let x = le-ceil_div-mul a b (ceil_div a b) p (le_refl (ceil_div a b)) in
    let y = le-ceil_div-mul c b (ceil_div c b) p (le_refl (ceil_div c b)) in
    ceil_div-le (a + c) b (ceil_div a b + ceil_div c b) p (omega (arith, add-mul (ceil_div a b) (ceil_div c b) b))

module _ (r : Rates) where
  pub scan-most : (k m : ℕ) (s : Position) (l : List Frame) → PositionInOrder r s → k * r.new ≤ m * r.old → length (scan r k s l) ≤ m
  scan-most k m s l o h =
      let p : 0 < r.old = omega (arith, o.below) in
      let split : ceil_div ((s.old + k) * r.new) r.old ≡ ceil_div (s.old * r.new + k * r.new) r.old =
      ap (λ (x : ℕ). ceil_div x r.old) (add-mul s.old k r.new) in
      omega (arith, scan-count r k s l o, split, ceil_div-add (s.old * r.new) (k * r.new) r.old p, o.least, ceil_div-le (k * r.new) r.old m p h)

  convert-most : (m : ℕ) (s : Position) (l : List Frame) → PositionInOrder r s → length l * r.new ≤ m * r.old → length (convert r s l).made ≤ m
  unfolding convert
  convert-most m s l o h =
      let fewer : consumable l ≤ length l = omega arith in
      scan-most (consumable l) m s l o (le_trans (mul-le-mul_right r.new fewer) h)

  convert-rest : (s : Position) (l : List Frame) → length (convert r s l).rest ≤ sinc_filter_points
  unfolding convert
  convert-rest s l = omega (arith, length-drop (consumable l) l)

  join-most : (m : ℕ) (s : Position) (tail fs : List Frame) → PositionInOrder r s → (length tail + length fs) * r.new ≤ m * r.old
      → length (join_tail r s tail fs).made ≤ m
  unfolding join_tail
  join-most m s tail [] o h = omega arith
  join-most m s tail (f ∷ fs) o h = convert-most m s (tail ++ (f ∷ fs)) o (rw length-append h)

  join-rest : (s : Position) (tail fs : List Frame) → length tail ≤ sinc_filter_points → length (join_tail r s tail fs).rest ≤ sinc_filter_points
  unfolding join_tail
  join-rest s tail [] h = h
  join-rest s tail (f ∷ fs) h = convert-rest s (tail ++ (f ∷ fs))

-- ---- pitch 1.0

le_of_eq : (x y : Float) → eq x y ≡ true → T (le x y)
unfolding le
le_of_eq x y e = rw (e, or-true (lt x y)) tt

new_rate-one : (rate : ℕ) (pitch : Float) → rate ≤ 500000 → T (le min_pitch pitch) → T (le pitch max_pitch) → eq pitch one ≡ true → rate ≤ new_rate rate pitch
unfolding new_rate of_bits
new_rate-one rate pitch R h g e =
    let z = div binary32 (count rate) pitch in
    let m = 20 * rate in
    let p = count-non_neg rate (omega arith) in
    let q = non_neg-of-positive pitch (between min_pitch pitch max_pitch tt tt h g) in
    let low : 1 * den pitch ≤ num pitch * 20 = omega (arith, le→cross (non_neg 13421773 (negsuc 27)) q.0 h) in
    let high : num pitch * 1 ≤ 1 * den pitch = le→cross q.0 (non_neg 1 (pos 0)) (le_of_eq pitch one e) in
    let x : num (count rate) ≡ rate * den (count rate) = count-cross rate (omega arith) in
    let to : rate * 20 * den (count m) ≤ num (count m) * 1 = omega (arith, count-cross m (omega arith)) in
    let some = zero-lt-suc 0 in
    let most-p = count-non_neg m (omega arith) in
    let most = quotient_le binary32 rate 1 1 20 p q.0 most-p (of_int-fits binary32 (pos m)) some some (omega arith) low to in
    let least = quotient-ge binary32 rate 1 1 1 p q.0 p (of_int-fits binary32 (pos rate)) q.1 some some (omega arith) high (omega arith) in
    cut-ge (count rate) z rate (count-value rate (omega arith)) (non_neg-of-le z most.0 most-p most.1) (omega arith) least

halved-keeps : (k : ℕ) (r : Rates) → r.old ≤ r.new → (halved k r).old ≤ (halved k r).new
unfolding halved
halved-keeps zero r h = h
halved-keeps (suc k) r h = halved-suc (λ x. x.old ≤ x.new) k r (λ _. halved-keeps k (half r) (omega arith)) (λ _ _. h)

pub rates-one : (rate : ℕ) (pitch : Float) → rate ≤ 500000 → T (le min_pitch pitch) → T (le pitch max_pitch) → eq pitch one ≡ true
    → (rates_of rate pitch).old ≤ (rates_of rate pitch).new
unfolding rates_of
rates-one rate pitch R h g e = halved-keeps 64 (record { new = new_rate rate pitch; old = rate }) (new_rate-one rate pitch R h g e)

-- ---- a call

-- the tail and the new frames make m frames at most, whatever the pitch
pub adjust-most : (rate : ℕ) (pitch : Float) (m : ℕ) (s : Position) (tail fs : List Frame) → rate ≤ 500000 → T (le min_pitch pitch) → T (le pitch max_pitch)
    → PositionInOrder (rates_of rate pitch) s → (length tail + length fs) * (rates_of rate pitch).new ≤ m * (rates_of rate pitch).old
    → length (adjust_rate rate pitch s tail fs).made ≤ m
unfolding adjust_rate
adjust-most rate pitch m s tail fs R low high o h = go (eq pitch one) refl
  where
    go : (b : Bool) → eq pitch one ≡ b
        → length (cond b (record { made = fs; rest = tail; at = s }) (join_tail (rates_of rate pitch) s tail fs)).made ≤ m
    go true e =
        let r = rates_of rate pitch in
        let same = rates-one rate pitch R low high e in
        let some : 0 < r.new = omega (arith, o.below) in
        let all : length tail + length fs ≤ m = le_of_mul-le-mul_right (le_trans h (mul-le-mul_left m same)) some in
        omega arith
    go false e = join-most (rates_of rate pitch) m s tail fs o h

pub adjust-rest : (rate : ℕ) (pitch : Float) (s : Position) (tail fs : List Frame) → length tail ≤ sinc_filter_points
    → length (adjust_rate rate pitch s tail fs).rest ≤ sinc_filter_points
unfolding adjust_rate
adjust-rest rate pitch s tail fs h = go (eq pitch one)
  where
    go : (b : Bool) → length (cond b (record { made = fs; rest = tail; at = s }) (join_tail (rates_of rate pitch) s tail fs)).rest ≤ sinc_filter_points
    go true = h
    go false = join-rest (rates_of rate pitch) s tail fs h
