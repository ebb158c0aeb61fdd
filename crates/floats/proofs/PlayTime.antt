-- The moves of play time. `Calm` values are finite, not negative and at most 2 ^ 100; 0 is one, and play time stays one as it grows by a write
-- (`grown-calm`) and as it falls to that of the frames left (`left-calm`). Assumes nothing.
use Rattle.std.proofs.Common.{◌≡◌, ℕ, ◌+◌, ◌*◌, ◌^◌, ◌<◌, ◌≤◌, false, T, ℤ, pos, negsuc, sym, refl, ap, ◌∙◌, inl, inr, le_trans, lt_of_lt_of_le, mul-le-mul_right, zero-lt-suc, mul_assoc, mul-le-mul, eq-or-lt_of_le, mul-pos, mul-one, arith, lit<, lit≤, shl_lt}
use lib.Ieee.{Float, fin, binary32, round, add, mul, div, le, fits, of_bits}
use lib.Ieee.Fits.{round-fits, add-fits, div-fits}
use lib.Ieee.Exact.{HasValue, round_exact}
use lib.Ieee.Order.{le_of_values}
use lib.Ieee.Positive.{num, den, den_pos, between, value→cross}
use Rattle.floats.specs.Numbers.{zero, count}
use Rattle.floats.specs.Settings.{min_pitch, max_pitch, sample_period}
use Rattle.floats.specs.Write.{play_time_grown, play_time_left}
use Rattle.floats.proofs.Signs.{Sgn, round-sgn}
use Rattle.floats.proofs.Ranges.{NonNeg, non_neg, non_neg-of-value, non_neg-of-positive, non_neg-of-le, mul_is, add_is, le→cross, cross→le, le-value}
use Rattle.floats.proofs.Ranges.{mul-grows, add-grows, div_grows}
use Rattle.floats.proofs.Ranges.{count-value, count-non_neg, count-cross}
use Rattle.floats.proofs.Bounds.{round-le, quotient_le, emptied}
use Rattle.floats.proofs.SamplePeriod.{longest, period-range}

-- 2 ^ 100 seconds
abbrev pub ceiling : Float
ceiling = fin false 1 (pos 100)

-- no NaN, of the sign +, at most 2 ^ 100, an `f32`
pub record Calm (x : Float) : Type 0 where
  pub sign : Sgn false x
  pub most : T (le x ceiling)
  pub format : T (fits binary32 x)

calm-non_neg : {x : Float} → Calm x → NonNeg x
calm-non_neg {x} c = non_neg-of-le x c.sign (non_neg 1 (pos 100)) c.most

pub calm-finite : {x : Float} → Calm x → (m : ℕ) × (e : ℤ) × (x ≡ fin false m e)
calm-finite c = go (calm-non_neg c)
  where
    go : {x : Float} → NonNeg x → (m : ℕ) × (e : ℤ) × (x ≡ fin false m e)
    go (non_neg m e) = (m, e, refl)

-- it is +0 once every frame is used
pub calm-emptied : (play : Float) (held : ℕ) → 0 < held → held ≤ 2 ^ 24 → Calm play → play_time_left play 0 held ≡ zero
unfolding play_time_left
calm-emptied play held H h c = go (calm-non_neg c)
  where
    go : {x : Float} → NonNeg x → div binary32 (mul binary32 x (count 0)) (count held) ≡ zero
    go (non_neg m e) = emptied false m e held H h

pub zero-calm : Calm zero
unfolding le fits
zero-calm = record { sign = refl; most = tt; format = tt }

-- ---- it grows: n * T is at most 2 ^ 15 and speed / pitch at least 2 ^ -9, so that what is added is at most 2 ^ 24
count-le : (n : ℕ) → n ≤ 2 ^ 24 → T (le (count n) (fin false 1 (pos 24)))
count-le n h = le_of_values (count n) (fin false 1 (pos 24)) n 1 (2 ^ 24) 1 (zero-lt-suc 0) (zero-lt-suc 0) (count-value n h) (refl, refl) (omega arith)

longest-time : mul binary32 (fin false 1 (pos 24)) longest ≡ fin false 1 (pos 15)
unfolding mul
longest-time = refl

time-le : (R n : ℕ) → 1000 ≤ R → R ≤ 500000 → n ≤ 2 ^ 24
    → NonNeg (mul binary32 (count n) (sample_period R)) × T (le (mul binary32 (count n) (sample_period R)) (fin false 1 (pos 15)))
time-le R n low high h =
    let p = count-non_neg n h in
    let r = period-range R low high in
    let q = (non_neg-of-positive (sample_period R) r.0).0 in
    let z = non_neg 1 (pos 15) in
    let most = rw longest-time at (mul-grows binary32 p (non_neg 1 (pos 24)) q (non_neg 1 (negsuc 8)) (count-le n h) r.3) in
    let x = count n in
    let t = sample_period R in
    (non_neg-of-le (mul binary32 x t) (rw (mul_is binary32 p q) (round-sgn binary32 false (num x * num t) (den x * den t))) z most, most)

-- 0.05 / 20 and 20 / 0.05 as they are rounded
least-pace : div binary32 min_pitch max_pitch ≡ fin false 5368709 (negsuc 30)
unfolding of_bits div
least-pace = refl

most-pace : div binary32 max_pitch min_pitch ≡ fin false 25 (pos 4)
unfolding of_bits div
most-pace = refl

pub pace-range : (speed pitch : Float) → T (le min_pitch speed) → T (le speed max_pitch) → T (le min_pitch pitch) → T (le pitch max_pitch)
    → NonNeg (div binary32 speed pitch) × T (le (fin false 1 (negsuc 8)) (div binary32 speed pitch)) × T (le (div binary32 speed pitch) (fin false 25 (pos 4)))
unfolding of_bits
pace-range speed pitch a b c d =
    let lo = non_neg 13421773 (negsuc 27) in
    let hi = non_neg 5 (pos 2) in
    let s = non_neg-of-positive speed (between min_pitch speed max_pitch tt tt a b) in
    let p = non_neg-of-positive pitch (between min_pitch pitch max_pitch tt tt c d) in
    let x = div binary32 speed pitch in
    let least = rw least-pace at (div_grows binary32 lo s.0 hi p.0 (lit< tt) p.1 a d) in
    let most = rw most-pace at (div_grows binary32 s.0 hi p.0 lo p.1 (lit< tt) b c) in
    let q = (non_neg-of-positive x (between (fin false 5368709 (negsuc 30)) x (fin false 25 (pos 4)) tt tt least most)).0 in
    (q, cross→le (non_neg 1 (negsuc 8)) q (omega (arith, le→cross (non_neg 5368709 (negsuc 30)) q least)), most)

no-growth : add binary32 ceiling (fin false 1 (pos 24)) ≡ ceiling
unfolding add
no-growth = refl

pub grown-calm : (R n : ℕ) (play speed pitch : Float) → 1000 ≤ R → R ≤ 500000 → n ≤ 2 ^ 24 → T (le min_pitch speed) → T (le speed max_pitch)
    → T (le min_pitch pitch) → T (le pitch max_pitch) → Calm play → Calm (play_time_grown play n (sample_period R) speed pitch)
unfolding play_time_grown
grown-calm R n play speed pitch low high h a b c d calm =
    let t = time-le R n low high h in
    let v = pace-range speed pitch a b c d in
    let z = non_neg 1 (pos 24) in
    let time = le→cross t.0 (non_neg 1 (pos 15)) t.1 in
    let pace = le→cross (non_neg 1 (negsuc 8)) v.0 v.1 in
    let r = quotient_le binary32 (2 ^ 15) 1 1 512 t.0 v.0 z (unfold fits in tt) (zero-lt-suc 0) (zero-lt-suc 0) time pace (lit≤ tt) in
    let x = div binary32 (mul binary32 (count n) (sample_period R)) (div binary32 speed pitch) in
    let q : NonNeg x = non_neg-of-le x r.0 z r.1 in
    let p = calm-non_neg calm in
    record {
      sign = rw (add_is binary32 p q) (round-sgn binary32 false (num play * den x + num x * den play) (den play * den x));
      most = rw no-growth at (add-grows binary32 p (non_neg 1 (pos 100)) q z calm.most r.1);
      format = add-fits binary32 play x;
    }

-- ---- it falls: play * left is at most 2 ^ 100 * held, which is a value of the format
scaled_value : (n : ℕ) → n ≤ 2 ^ 24 → HasValue (round binary32 false (n * 2 ^ 100) 1) false (n * 2 ^ 100) 1
scaled_value n h = elim (eq-or-lt_of_le h) [
  | inl e ↦ rw e (unfold round in (refl, refl))
  | inr l ↦
      let same = mul_assoc n (2 ^ 100) (2 ^ 149) ∙ sym (mul-one (n * 2 ^ 249)) in
      round_exact binary32 false (n * 2 ^ 100) 1 n 249 (zero-lt-suc 0) l (lt_of_lt_of_le (shl_lt 24 249 l) (lit≤ tt)) same
]

-- P / d at most K, times L, at most H, is at most H * K
scaled-le : (P d L H c Y y K : ℕ) → P ≤ K * d → L ≤ H → Y ≡ H * K * y → P * (L * c) * y ≤ Y * (d * c)
scaled-le P d L H c Y y K h l e = omega (arith, mul-le-mul_right (c * y) (mul-le-mul h l), ap (λ (z : ℕ). z * (d * c)) e)

part-le : (play : Float) (left held : ℕ) → left ≤ held → held ≤ 2 ^ 24 → Calm play
    → NonNeg (mul binary32 play (count left)) × (num (mul binary32 play (count left)) * 1 ≤ held * 2 ^ 100 * den (mul binary32 play (count left)))
part-le play left held l h calm =
    let p = calm-non_neg calm in
    let q = count-non_neg left (le_trans l h) in
    let x = count left in
    let y = round binary32 false (held * 2 ^ 100) 1 in
    let v = scaled_value held h in
    let r = non_neg-of-value y (held * 2 ^ 100) 1 v in
    let P : num play ≤ 2 ^ 100 * den play = rw mul-one at (le→cross p (non_neg 1 (pos 100)) calm.most) in
    let Y : num y ≡ held * 2 ^ 100 * den y = rw mul-one at (value→cross y (held * 2 ^ 100) 1 v) in
    let a = num play * num x in
    let c = den play * den x in
    let C : 0 < c = mul-pos (den_pos play) (den_pos x) in
    let top : a * den y ≤ num y * c =
    rw (count-cross left (le_trans l h)) (scaled-le (num play) (den play) left held (den x) (num y) (den y) (2 ^ 100) P l Y) in
    let most = round-le binary32 a c r (round-fits binary32 false (held * 2 ^ 100) 1) C top in
    let s = non_neg-of-le (round binary32 false a c) (round-sgn binary32 false a c) r most in
    rw (mul_is binary32 p q) (s, le-value y (held * 2 ^ 100) 1 s v most)

pub left-calm : (play : Float) (left held : ℕ) → left ≤ held → 0 < held → held ≤ 2 ^ 24 → Calm play → Calm (play_time_left play left held)
unfolding play_time_left
left-calm play left held l H h calm =
    let x = part-le play left held l h calm in
    let q = count-non_neg held h in
    let z = non_neg 1 (pos 100) in
    let y : held * den (count held) ≤ num (count held) * 1 = omega (arith, count-cross held h) in
    let r = quotient_le binary32 (held * 2 ^ 100) 1 held 1 x.0 q z (unfold fits in tt) (zero-lt-suc 0) H x.1 y (omega arith) in
    record { sign = r.0; most = r.1; format = div-fits binary32 (mul binary32 play (count left)) (count held) }
