-- Play time against the frames held, in a run from fresh with one speed and pitch: it is at most that of held + `slack` frames, each of which plays for
-- a time a little above T / (speed / pitch) (`Paced`). So it is at first (`paced-fresh`), as it grows by a write (`paced-grown`), and as it falls to that of
-- the frames left (`paced-left`). Each bound has few binary digits, so that rounding keeps it and no error adds up. Assumes nothing.
use Rattle.std.proofs.Common.{ℕ, suc, ◌+◌, ◌*◌, ◌/◌, ◌^◌, ◌<◌, ◌≤◌, T, pos, negsuc, le_trans, lt_of_le_of_lt, mul-le-mul_right, div-lt_iff_lt-mul, mul-le-mul, lt_of_mul-lt-mul_right, mul-pos, div-mul-le_self, le_of_mul-le-mul_right, arith, pow_pos, pow_mono, pow-add}
use native.Mathlib.Nat.{lt-div-mul-add}
use lib.Ieee.{Float, binary32, mul, div, le, size}
use lib.Ieee.Digits.{size-lt, size-le}
use lib.Ieee.Positive.{num, den, den_pos, first_pos}
use Rattle.floats.specs.Numbers.{zero, count}
use Rattle.floats.specs.Settings.{min_pitch, max_pitch, sample_period}
use Rattle.floats.specs.Write.{play_time_grown, play_time_left}
use Rattle.floats.proofs.Ranges.{NonNeg, non_neg, non_neg-of-positive, mul_is, div_is, add_is, le→cross, count-non_neg, count-cross, count-some}
use Rattle.floats.proofs.SamplePeriod.{period-range}
use Rattle.floats.proofs.PlayTime.{pace-range}
use Rattle.floats.proofs.FewDigits.{Leading, lower, upper, leading, power-high, round-grid-le}

-- the rate, speed and pitch in their ranges; a search looks at r frames, and at most `most` frames are held
pub record PaceReady (R : ℕ) (speed pitch : Float) (r most : ℕ) : Type 0 where
  pub rate_low : 1000 ≤ R
  pub rate_high : R ≤ 500000
  pub speed_low : T (le min_pitch speed)
  pub speed_high : T (le speed max_pitch)
  pub pitch_low : T (le min_pitch pitch)
  pub pitch_high : T (le pitch max_pitch)
  pub required_low : 30 ≤ r
  pub required_high : r ≤ 15384
  pub most_high : most ≤ 196608

-- the least power of two above 17 * most * r / 2 ^ 23
abbrev pub slack : ℕ → ℕ → ℕ
slack r most = 2 ^ size (17 * most * r / 2 ^ 23)

-- in units of 2 ^ -60 seconds, by leading digits: T, and the upper end for T by speed / pitch
pub record Pace (R : ℕ) (speed pitch : Float) : Type 0 where
  pub period : Leading 5 (num (sample_period R) * 2 ^ 60) (den (sample_period R))
  pub frame : Leading 4 (upper period * den (div binary32 speed pitch)) (num (div binary32 speed pitch))
  pub period_power : period.power ≤ 100
  pub frame_power : frame.power ≤ 100

pub record Paced (R : ℕ) (speed pitch : Float) (r most held : ℕ) (play : Float) : Type 0 where
  pub pace : Pace R speed pitch
  pub finite : NonNeg play
  pub bound : num play * 2 ^ 60 ≤ (held + slack r most) * upper pace.frame * den play

-- ---- the slack
slack-above : (r most : ℕ) → 17 * most * r < slack r most * 2 ^ 23
slack-above r most = (div-lt_iff_lt-mul (pow_pos 23)).0 (size-lt (17 * most * r / 2 ^ 23))

module _ {R : ℕ} {speed pitch : Float} {r most : ℕ} (w : PaceReady R speed pitch r most) where
  slack-size : size (17 * most * r / 2 ^ 23) ≤ 13
  slack-size =
      let m = w.most_high in
      let q = w.required_high in
      let all : most * r ≤ 196608 * 15384 = mul-le-mul m q in
      size-le (17 * most * r / 2 ^ 23) 13 ((div-lt_iff_lt-mul (pow_pos 23)).1 (omega (arith, all)))

  slack-high : slack r most ≤ 2 ^ 13
  slack-high = pow_mono slack-size

  -- ---- T and speed / pitch
  pub period-non_neg : NonNeg (sample_period R)
  period-non_neg = (non_neg-of-positive (sample_period R) (period-range R w.rate_low w.rate_high).0).0

  pub pace-in : let v = div binary32 speed pitch in NonNeg v × (den v ≤ num v * 2 ^ 9) × (num v ≤ 400 * den v)
  pace-in =
      let v = pace-range speed pitch w.speed_low w.speed_high w.pitch_low w.pitch_high in (
        v.0,
        omega (arith, le→cross (non_neg 1 (negsuc 8)) v.0 v.1),
        omega (arith, le→cross v.0 (non_neg 25 (pos 4)) v.2),
      )

  pub pace-some : 0 < num (div binary32 speed pitch)
  pace-some =
      let v = div binary32 speed pitch in
      let some : 0 < num v * 2 ^ 9 = omega (arith, den_pos v, pace-in.1) in
      first_pos (num v) (2 ^ 9) some

  -- T is from 2 ^ -19 to 2 ^ -9
  period_in : let t = sample_period R in (den t ≤ num t * 2 ^ 19) × (num t * 2 ^ 9 ≤ den t)
  period_in =
      let t = period-range R w.rate_low w.rate_high in (
        omega (arith, le→cross (non_neg 1 (negsuc 18)) period-non_neg t.2),
        omega (arith, le→cross period-non_neg (non_neg 1 (negsuc 8)) t.3),
      )

  the-period : Leading 5 (num (sample_period R) * 2 ^ 60) (den (sample_period R))
  the-period = leading 5 (num (sample_period R) * 2 ^ 60) (den (sample_period R)) (den_pos (sample_period R)) (omega (arith, period_in))

  -- its upper end is from 2 ^ 41 to 2 ^ 52
  upper_in : (2 ^ 41 ≤ upper the-period) × (upper the-period ≤ 2 ^ 52)
  upper_in =
      let t = sample_period R in
      let l = the-period in
      let more : 2 ^ 41 * den t < upper l * den t = lt_of_le_of_lt (omega (arith, period_in.0)) l.above in
      let less : lower l * den t ≤ 2 ^ 51 * den t = le_trans l.below (omega (arith, period_in.1)) in
      let twice : upper l ≤ lower l + lower l = omega (arith, mul-le-mul_right (2 ^ l.power) (le_trans (pow_pos 5) l.low)) in
      (omega (arith, lt_of_mul-lt-mul_right (den t) more), omega (arith, twice, le_of_mul-le-mul_right less (den_pos t)))

  the_frame : let v = div binary32 speed pitch in Leading 4 (upper the-period * den v) (num v)
  the_frame =
      let v = div binary32 speed pitch in
      leading 4 (upper the-period * den v) (num v) pace-some (omega (arith, pace-in.2, mul-le-mul_right (den v) upper_in.0))

  the-pace : Pace R speed pitch
  the-pace =
      let t = sample_period R in
      let v = div binary32 speed pitch in
      let small : num t * 2 ^ 60 ≤ 2 ^ 100 * den t = omega (arith, period_in.1) in
      let fast : upper the-period * den v ≤ 2 ^ 100 * num v = omega (arith, mul-le-mul upper_in.1 pace-in.1) in
      record {
        period = the-period;
        frame = the_frame;
        period_power = power-high the-period 100 (den_pos t) small;
        frame_power = power-high the_frame 100 pace-some fast;
      }

  pub paced-fresh : Paced R speed pitch r most 0 zero
  paced-fresh = record { pace = the-pace; finite = non_neg 0 (pos 0); bound = omega arith }

  module _ {held : ℕ} {play : Float} (p : Paced R speed pitch r most held play) where
    -- ---- it grows: n * T, by speed / pitch, and added
    pub time-le : (n : ℕ) → n ≤ most → let x = mul binary32 (count n) (sample_period R) in NonNeg x × (num x * 2 ^ 60 ≤ n * upper p.pace.period * den x)
    time-le n h =
        let t = sample_period R in
        let c = count n in
        let l = p.pace.period in
        let few : n ≤ 196608 = le_trans h w.most_high in
        let digits : n * suc l.digits < 2 ^ 24 = omega (arith, mul-le-mul few l.high) in
        let top : num c * num t * 2 ^ 60 ≤ n * suc l.digits * 2 ^ l.power * (den c * den t) =
        rw (count-cross n (omega (arith, few))) (omega (arith, mul-le-mul_right (n * den c) l.above)) in
        let power : l.power ≤ 150 = omega (arith, p.pace.period_power) in
        let g = round-grid-le (num c * num t) (den c * den t) (n * suc l.digits) l.power (mul-pos (den_pos c) (den_pos t)) digits power top in
        rw (mul_is binary32 (count-non_neg n (omega (arith, few))) period-non_neg) (g.0, omega (arith, g.1))

    -- a multiple of the time that a frame plays for
    frames-digits : (n : ℕ) → n < 2 ^ 19 → n * suc p.pace.frame.digits < 2 ^ 24
    frames-digits n h = omega (arith, mul-le-mul h p.pace.frame.high)

    frame_power : p.pace.frame.power ≤ 150
    frame_power = omega (arith, p.pace.frame_power)

    added-le : (n : ℕ) → n ≤ most
        → let x = div binary32 (mul binary32 (count n) (sample_period R)) (div binary32 speed pitch) in
        NonNeg x × (num x * 2 ^ 60 ≤ n * upper p.pace.frame * den x)
    added-le n h =
        let x = mul binary32 (count n) (sample_period R) in
        let v = div binary32 speed pitch in
        let l = p.pace.frame in
        let t = time-le n h in
        let few : n ≤ 196608 = le_trans h w.most_high in
        let top : num x * den v * 2 ^ 60 ≤ n * suc l.digits * 2 ^ l.power * (num v * den x) =
        omega (arith, mul-le-mul_right (den v) t.1, mul-le-mul_right (n * den x) l.above) in
        let g = round-grid-le (num x * den v) (num v * den x) (n * suc l.digits) l.power
        (mul-pos pace-some (den_pos x)) (frames-digits n (omega (arith, few))) frame_power top in
        rw (div_is binary32 t.0 pace-in.0 pace-some) (g.0, omega (arith, g.1))

    pub paced-grown : (n : ℕ) → held + n ≤ most → Paced R speed pitch r most (held + n) (play_time_grown play n (sample_period R) speed pitch)
    unfolding play_time_grown
    paced-grown n h =
        let x = div binary32 (mul binary32 (count n) (sample_period R)) (div binary32 speed pitch) in
        let l = p.pace.frame in
        let t = added-le n (omega (arith, h)) in
        let k = held + n + slack r most in
        let few : k < 2 ^ 19 = omega (arith, h, w.most_high, slack-high) in
        let top : (num play * den x + num x * den play) * 2 ^ 60 ≤ k * suc l.digits * 2 ^ l.power * (den play * den x) =
        omega (arith, mul-le-mul_right (den x) p.bound, mul-le-mul_right (den play) t.1) in
        let g = round-grid-le (num play * den x + num x * den play) (den play * den x) (k * suc l.digits) l.power
        (mul-pos (den_pos play) (den_pos x)) (frames-digits k few) frame_power top in
        rw (add_is binary32 p.finite t.0) record { pace = p.pace; finite = g.0; bound = omega (arith, g.1) }

    -- ---- it falls: times the frames left, and by those held
    module _ (left : ℕ) (some : left < held) (short : left ≤ r) (h : held ≤ most) where
      c : ℕ
      c = slack r most

      -- (held + c) * left, as a multiple of c
      rounded : ℕ
      rounded = (held + c) * left / c + 1

      rounded-ge : (held + c) * left ≤ rounded * c
      unfolding rounded c
      rounded-ge = omega (arith, lt-div-mul-add {a = (held + c) * left} {b = c} (pow_pos (size (17 * most * r / 2 ^ 23))))

      rounded-le : rounded * c ≤ (left + c) * held
      unfolding rounded c
      rounded-le = omega (arith, div-mul-le_self ((held + c) * left) c, mul-le-mul_right c some)

      rounded-few : rounded < 2 ^ 19
      unfolding rounded c
      rounded-few =
          let all : held * left ≤ most * r = mul-le-mul h short in
          let low : 17 * rounded * c < 8650153 * c =
          omega (arith, div-mul-le_self ((held + c) * left) c, all, slack-above r most, mul-le-mul_right c (le_trans short w.required_high)) in
          omega (arith, lt_of_mul-lt-mul_right c low)

      product_le : let x = mul binary32 play (count left) in NonNeg x × (num x * 2 ^ 60 ≤ rounded * c * upper p.pace.frame * den x)
      unfolding c
      product_le =
          let n = count left in
          let l = p.pace.frame in
          let s = size (17 * most * r / 2 ^ 23) in
          let few : left ≤ 2 ^ 24 = omega (arith, short, w.required_high) in
          let top : num play * num n * 2 ^ 60 ≤ rounded * suc l.digits * 2 ^ (s + l.power) * (den play * den n) =
          rw (pow-add 2 s l.power, count-cross left few)
          (omega (arith, mul-le-mul_right (left * den n) p.bound, mul-le-mul_right (upper l * den play * den n) rounded-ge)) in
          let power : s + l.power ≤ 150 = omega (arith, slack-size, p.pace.frame_power) in
          let g = round-grid-le (num play * num n) (den play * den n) (rounded * suc l.digits) (s + l.power)
          (mul-pos (den_pos play) (den_pos n)) (frames-digits rounded rounded-few) power top in
          rw (mul_is binary32 p.finite (count-non_neg left few)) (g.0, omega (arith, rw (pow-add 2 s l.power) at g.1))

      pub paced-left : Paced R speed pitch r most left (play_time_left play left held)
      unfolding play_time_left c
      paced-left =
          let x = mul binary32 play (count left) in
          let n = count held in
          let l = p.pace.frame in
          let t = product_le in
          let k = left + slack r most in
          let few : held ≤ 2 ^ 24 = omega (arith, h, w.most_high) in
          let digits : k < 2 ^ 19 = omega (arith, short, w.required_high, slack-high) in
          let top : num x * den n * 2 ^ 60 ≤ k * suc l.digits * 2 ^ l.power * (num n * den x) =
          rw (count-cross held few) (omega (arith, mul-le-mul_right (den n) t.1, mul-le-mul_right (upper l * den x * den n) rounded-le)) in
          let N : 0 < num n = count-some held (omega (arith, some)) few in
          let g = round-grid-le (num x * den n) (num n * den x) (k * suc l.digits) l.power
          (mul-pos N (den_pos x)) (frames-digits k digits) frame_power top in
          rw (div_is binary32 t.0 (count-non_neg held few) N) record { pace = p.pace; finite = g.0; bound = omega (arith, g.1) }
