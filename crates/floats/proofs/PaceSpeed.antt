-- The local speed of a paced run is at least a part of speed / pitch (`SpeedFrom`): more than 0.75 where at most 3 * r frames are held (`speed-from-few`), and
-- more than 0.5 in any case (`speed-from-any`). Sections: the slack; quotients; the slack against r; held * T from below, and the speed; a value of ten digits,
-- at most the speed, against speed / pitch. Assumes nothing.
use Rattle.std.proofs.Common.{◌≡◌, ℕ, zero, suc, ◌+◌, ◌*◌, ◌/◌, ◌^◌, ◌<◌, ◌≤◌, false, T, ◌⊎◌, refl, inl, inr, le_trans, le_of_eq, lt_of_lt_of_le, le_of_lt, lt_irrefl, mul-le-mul_right, zero-lt-suc, eq-zero-or-pos, mul-le-mul, mul-le-mul_left, mul-pos, div-mul-le_self, le_of_mul-le-mul_right, arith, pow_pos}
use lib.Ieee.{Float, nan, inf, Format, binary32, up, mul, div, lt, le, size}
use lib.Ieee.Digits.{size_reaches}
use lib.Ieee.Fits.{up_pos}
use lib.Ieee.Positive.{num, den, den_pos, first_pos}
use Rattle.floats.specs.Numbers.{count}
use Rattle.floats.specs.Settings.{sample_period}
use Rattle.floats.specs.Write.{local_speed}
use Rattle.floats.proofs.Signs.{cond-nonzero}
use Rattle.floats.proofs.Ranges.{NonNeg, non_neg, non_neg-of-value, mul_is, div_is, count-non_neg, count-cross}
use Rattle.floats.proofs.FewDigits.{Leading, lower, upper, leading, upper-le, power-high, power-low, grid, grid-value, value-le, round-grid-ge}
use Rattle.floats.proofs.Pace.{PaceReady, Paced, slack, period-non_neg, pace-in, pace-some, time-le}

-- s is at least a value of ten digits, and that is at least a / b of v
pub record SpeedFrom (v s : Float) (a b : ℕ) : Type 0 where
  pub digits : ℕ
  pub power : ℕ
  pub digits_low : 1 ≤ digits
  pub digits_high : digits < 2 ^ 10
  pub least_power : 36 ≤ power
  pub most_power : power ≤ 150
  pub least : T (le (grid digits power) s)
  pub part : a * num v * 2 ^ 60 ≤ b * (digits * 2 ^ power) * den v

-- ---- the slack is 1 or at most 34 * most * r / 2 ^ 23
power_le : (n : ℕ) → (2 ^ size n ≡ 1) ⊎ (2 ^ size n ≤ 2 * n)
power_le n = go (size n) refl
  where
    go : (s : ℕ) → size n ≡ s → (2 ^ s ≡ 1) ⊎ (2 ^ s ≤ 2 * n)
    go zero e = inl refl
    go (suc s) e = inr (omega (arith, size_reaches n s (omega (arith, e))))

slack-le : (r most : ℕ) → (slack r most ≡ 1) ⊎ (slack r most * 2 ^ 23 ≤ 34 * most * r)
slack-le r most = elim (power_le (17 * most * r / 2 ^ 23)) [
  | inl e ↦ inl e
  | inr h ↦ inr (omega (arith, h, div-mul-le_self (17 * most * r) (2 ^ 23)))
]

-- ---- a quotient by 0, or by a number above 0
by_zero : (f : Format) {x y : Float} → NonNeg x → NonNeg y → 0 < num x → num y ≡ 0 → div f x y ≡ inf false
unfolding div
by_zero f (non_neg a k) (non_neg b d) A e = elim (eq-zero-or-pos b) [
  | inl z ↦ rw z (cond-nonzero a nan (inf false) (first_pos a (up k) A))
  | inr p ↦ absurd (lt_irrefl 0 (lt_of_lt_of_le (mul-pos p (up_pos d)) (le_of_eq e)))
]

below_inf : {x : Float} → NonNeg x → T (le x (inf false))
unfolding le lt
below_inf (non_neg m e) = tt

-- x at least B / W and y at most A / W, against S / W
quotient-cross : (S A B N D X Y W : ℕ) → 0 < W → S * A ≤ B * W → N * W ≤ A * D → B * Y ≤ X * W → S * (N * Y) ≤ X * D * W
quotient-cross S A B N D X Y W P s n x =
    le_of_mul-le-mul_right (omega (arith, mul-le-mul_right (S * Y) n, mul-le-mul_right (D * Y) s, mul-le-mul_right (D * W) x)) P

module _ {R : ℕ} {speed pitch : Float} {r most held : ℕ} {play : Float} (w : PaceReady R speed pitch r most) (p : Paced R speed pitch r most held play)
    (low : r ≤ held) (high : held ≤ most) where
  -- ---- the slack against r
  slack-any : slack r most * 5 ≤ 4 * r
  slack-any = elim (slack-le r most) [
    | inl e ↦ omega (arith, e, w.required_low)
    | inr h ↦ omega (arith, h, mul-le-mul_right r w.most_high)
  ]

  slack-few : most ≤ 3 * r → slack r most * 5 ≤ r
  slack-few k = elim (slack-le r most) [
    | inl e ↦ omega (arith, e, w.required_low)
    | inr h ↦ omega (arith, h, mul-le-mul_right r k, mul-le-mul_right r w.required_high)
  ]

  -- ---- held * T from below, and the speed
  time-ge : let x = mul binary32 (count held) (sample_period R) in held * lower p.pace.period * den x ≤ num x * 2 ^ 60
  time-ge =
      let t = sample_period R in
      let c = count held in
      let l = p.pace.period in
      let few : held ≤ 196608 = le_trans high w.most_high in
      let digits : held * l.digits < 2 ^ 24 = omega (arith, mul-le-mul few l.high) in
      let bottom : held * l.digits * 2 ^ l.power * (den c * den t) ≤ num c * num t * 2 ^ 60 =
      rw (count-cross held (omega (arith, few))) (omega (arith, mul-le-mul_right (held * den c) l.below)) in
      let power : l.power ≤ 150 = omega (arith, p.pace.period_power) in
      let least = round-grid-ge (num c * num t) (den c * den t) (held * l.digits) l.power (mul-pos (den_pos c) (den_pos t)) bottom in
      let v = grid-value (held * l.digits) l.power digits power in
      let x = (time-le w p held high).0 in
      let is = mul_is binary32 (count-non_neg held (omega (arith, few))) (period-non_neg w) in
      omega (arith, value-le (grid (held * l.digits) l.power) (held * l.digits * 2 ^ l.power) (2 ^ 60) x v (rw is least))

  time-some : 0 < num (mul binary32 (count held) (sample_period R))
  time-some =
      let x = mul binary32 (count held) (sample_period R) in
      let l = p.pace.period in
      let some : 0 < held * lower l = mul-pos (omega (arith, low, w.required_low)) (mul-pos (lt_of_lt_of_le (pow_pos 5) l.low) (pow_pos l.power)) in
      first_pos (num x) (2 ^ 60) (lt_of_lt_of_le (mul-pos some (den_pos x)) time-ge)

  speed-ge : (q k : ℕ) → q < 2 ^ 24 → k ≤ 150 → q * 2 ^ k * ((held + slack r most) * upper p.pace.frame) ≤ held * lower p.pace.period * 2 ^ 60
      → T (le (grid q k) (local_speed held (sample_period R) play))
  unfolding local_speed
  speed-ge q k a b h =
      let x = mul binary32 (count held) (sample_period R) in
      let n = (time-le w p held high).0 in
      elim (eq-zero-or-pos (num play)) [
        | inl z ↦ rw (by_zero binary32 n p.finite time-some z) (below_inf (non_neg-of-value (grid q k) (q * 2 ^ k) (2 ^ 60) (grid-value q k a b)))
        | inr P ↦
            rw (div_is binary32 n p.finite P)
            (round-grid-ge (num x * den play) (num play * den x) q k (mul-pos P (den_pos x))
            (quotient-cross (q * 2 ^ k) ((held + slack r most) * upper p.pace.frame) (held * lower p.pace.period) (num play) (den play) (num x) (den x)
            (2 ^ 60) (pow_pos 60) h p.bound time-ge))
      ]

  -- ---- a value of ten digits: r / (r + slack) of the least T by the most that a frame plays for
  abbrev v : Float
  v = div binary32 speed pitch

  frame-part : 512 * upper p.pace.frame * num v ≤ 561 * lower p.pace.period * den v
  frame-part =
      let t = p.pace.period in
      let f = p.pace.frame in
      omega (arith, mul-le-mul_right (num v) (upper-le f), f.below, mul-le-mul_right (den v) (upper-le t))

  abbrev period : ℕ
  period = lower p.pace.period

  abbrev frame : ℕ
  frame = upper p.pace.frame

  abbrev whole : ℕ
  whole = frame * (r + slack r most)

  frame-most : frame ≤ 561 * period
  frame-most =
      let slow : 512 * frame * num v ≤ 561 * period * (num v * 2 ^ 9) = le_trans frame-part (mul-le-mul_left (561 * period) (pace-in w).1) in
      let less : frame * num v ≤ 561 * period * num v = omega (arith, slow) in
      le_of_mul-le-mul_right less (pace-some w)

  frame-some : 0 < frame
  frame-some = mul-pos (zero-lt-suc p.pace.frame.digits) (pow_pos p.pace.frame.power)

  frame-least : period ≤ 400 * frame
  frame-least =
      let t = p.pace.period in
      let fast : upper t * den v ≤ 400 * frame * den v =
      le_trans (le_of_lt p.pace.frame.above) (omega (arith, mul-le-mul_left frame (pace-in w).2)) in
      omega (arith, le_of_mul-le-mul_right fast (den_pos v))

  whole-most : 2 ^ 49 * whole ≤ period * r * 2 ^ 60
  whole-most = omega (arith, mul-le-mul_left frame slack-any, mul-le-mul_right r frame-most)

  value : Leading 9 (period * r * 2 ^ 60) whole
  value = leading 9 (period * r * 2 ^ 60) whole (mul-pos frame-some (omega (arith, w.required_low))) (omega (arith, whole-most))

  r_some : 0 < r
  r_some = omega (arith, w.required_low)

  value-le-speed : lower value * ((held + slack r most) * frame) ≤ held * period * 2 ^ 60
  value-le-speed =
      let more : (held + slack r most) * r ≤ (r + slack r most) * held = omega (arith, mul-le-mul_left (slack r most) low) in
      le_of_mul-le-mul_right (omega (arith, mul-le-mul_right (lower value * frame) more, mul-le-mul_right held value.below)) r_some

  value-part : (m n : ℕ) → m * (r + slack r most) ≤ n * r → 262144 * m * num v * 2 ^ 60 ≤ 287793 * n * lower value * den v
  value-part m n h =
      let l = value in
      let close : 512 * (period * r * 2 ^ 60) ≤ 513 * (lower l * whole) = omega (arith, l.above, mul-le-mul_right whole (upper-le l)) in
      let by-r : 512 * m * period * 2 ^ 60 * r ≤ 513 * n * lower l * frame * r = omega (arith, mul-le-mul_left m close, mul-le-mul_right (lower l * frame) h) in
      let ratio = le_of_mul-le-mul_right by-r r_some in
      let by-frame : 262144 * m * num v * 2 ^ 60 * frame ≤ 287793 * n * lower l * den v * frame =
      omega (arith, mul-le-mul_right (561 * den v) ratio, mul-le-mul_right (512 * m * 2 ^ 60) frame-part) in
      le_of_mul-le-mul_right by-frame frame-some

  speed-from : (m n : ℕ) → m * (r + slack r most) ≤ n * r → SpeedFrom v (local_speed held (sample_period R) play) (262144 * m) (287793 * n)
  speed-from m n h =
      let l = value in
      let most_power : l.power ≤ 100 = power-high l 100 (mul-pos frame-some (omega (arith, r_some))) (omega (arith, mul-le-mul_right r frame-least)) in
      let least_power : 49 ≤ 9 + l.power = power-low l 49 whole-most in
      record {
        digits = l.digits;
        power = l.power;
        digits_low = le_trans (pow_pos 9) l.low;
        digits_high = l.high;
        least_power = omega (arith, least_power);
        most_power = omega (arith, most_power);
        least = speed-ge l.digits l.power (omega (arith, l.high)) (omega (arith, most_power)) value-le-speed;
        part = value-part m n h;
      }

  -- where at most 3 * r frames are held
  pub speed-from-few : most ≤ 3 * r → SpeedFrom v (local_speed held (sample_period R) play) 1310720 1726758
  speed-from-few k = speed-from 5 6 (omega (arith, slack-few k))

  pub speed-from-any : SpeedFrom v (local_speed held (sample_period R) play) 1310720 2590137
  speed-from-any = speed-from 5 9 (omega (arith, slack-any))
