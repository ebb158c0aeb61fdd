-- A step of a paced run inserts a period of at most `growth_factor` times the frames that it uses (`insert-grows`). Sections: the factor, pitch / speed * 3
-- cut, against speed / pitch; the step. Assumes nothing.
use Rattle.std.proofs.Common.{◌≡◌, ℕ, suc, ◌+◌, ◌*◌, ◌/◌, ◌^◌, ◌<◌, ◌≤◌, min, Bool, true, false, T, leb, ◌⊎◌, pos, refl, inl, inr, ⊎_elim, mul-le-mul_right, mul-le-mul_left, mul-pos, le-div_iff_mul-le, le_of_mul-le-mul_right, arith, leb-false, leb-true}
use lib.Ieee.{Float, fin, binary32, mul, div, lt, le, of_bits, to_unsigned}
use lib.Ieee.Fits.{of_int-fits}
use lib.Ieee.Positive.{num, den, den_pos, between}
use Rattle.floats.specs.Numbers.{one, count}
use Rattle.floats.specs.Settings.{min_pitch, max_pitch, sample_period}
use Rattle.floats.specs.Write.{local_speed}
use Rattle.floats.specs.Steps.{insert_count}
use Rattle.floats.proofs.Ranges.{NonNeg, non_neg, non_neg-of-positive, mul_is, div_is, le→cross, cut-is, count-value, count-non_neg, count-cross}
use Rattle.floats.proofs.Bounds.{round-ge, cut-ge}
use Rattle.floats.proofs.StepRules.{insert_count-ge}
use Rattle.floats.proofs.PlayTime.{pace-range}
use Rattle.floats.proofs.FewDigits.{lower, leading, upper-le, power-high, grid, grid-value, value-le, round-grid-le, round-grid-ge}
use Rattle.floats.proofs.Pace.{PaceReady, Paced, pace-in}
use Rattle.floats.proofs.PaceSpeed.{speed-from-few, speed-from-any}
use Rattle.floats.proofs.InsertGrowth.{fast, from-value, inserts-few}

abbrev pub three : Float
three = fin false 3 (pos 0)

-- pitch / speed * 3, cut
abbrev pub tripled : Float → Float → ℕ
tripled speed pitch = to_unsigned 64 (mul binary32 (div binary32 pitch speed) three)

-- and at most the longest period
abbrev pub growth_factor : Float → Float → ℕ → ℕ
growth_factor speed pitch longest = min (tripled speed pitch) longest

-- a speed or a pitch
setting-in : (x : Float) → T (le min_pitch x) → T (le x max_pitch) → NonNeg x × (0 < num x)
unfolding of_bits
setting-in x a b = non_neg-of-positive x (between min_pitch x max_pitch tt tt a b)

module _ {R : ℕ} {speed pitch : Float} {r most : ℕ} (w : PaceReady R speed pitch r most) where
  -- ---- the factor and 1, times speed / pitch, are 14 / 5 at least
  speed-in : NonNeg speed × (0 < num speed)
  speed-in = setting-in speed w.speed_low w.speed_high

  pitch-in : NonNeg pitch × (0 < num pitch)
  pitch-in = setting-in pitch w.pitch_low w.pitch_high

  -- a number of 256ths that is a third of n at least
  thirds : ℕ → ℕ
  thirds n = n * 256 / 3 + 1

  -- pitch / speed from there on, cut, is n at least
  tripled-ge : (n : ℕ) → n ≤ 7693 → num speed * den pitch * thirds n ≤ 256 * (num pitch * den speed) → n ≤ tripled speed pitch
  unfolding thirds
  tripled-ge n N h =
      let x = div binary32 pitch speed in
      let v = pace-range pitch speed w.pitch_low w.pitch_high w.speed_low w.speed_high in
      let q = thirds n in
      let C = mul-pos speed-in.1 (den_pos pitch) in
      let bottom : q * 2 ^ 52 * (num speed * den pitch) ≤ num pitch * den speed * 2 ^ 60 = omega (arith, h) in
      let least : T (le (grid q 52) x) =
      rw (div_is binary32 pitch-in.0 speed-in.0 speed-in.1) (round-grid-ge (num pitch * den speed) (num speed * den pitch) q 52 C bottom) in
      let x-ge : q * 2 ^ 52 * den x ≤ num x * 2 ^ 60 =
      value-le (grid q 52) (q * 2 ^ 52) (2 ^ 60) v.0 (grid-value q 52 (omega (arith, N)) (omega arith)) least in
      let y = mul binary32 x three in
      let x-le : num x ≤ 400 * den x = omega (arith, le→cross v.0 (non_neg 25 (pos 4)) v.2) in
      let a = num x * (3 * 1) in
      let D : 0 < den x * 1 = omega (arith, den_pos x) in
      let is = mul_is binary32 v.0 (non_neg 3 (pos 0)) in
      let finite : NonNeg y = rw is (round-grid-le a (den x * 1) 1200 60 D (omega arith) (omega arith) (omega (arith, x-le))).0 in
      let c = count n in
      let few : n ≤ 2 ^ 24 = omega (arith, N) in
      let third : n * 256 ≤ 3 * q = omega arith in
      let top : num c * (den x * 1) ≤ a * den c =
      rw (count-cross n few) (omega (arith, mul-le-mul_right (den c) x-ge, mul-le-mul_right (den x * den c) third)) in
      let reached : T (le c y) = rw is (round-ge binary32 a (den x * 1) (count-non_neg n few) (of_int-fits binary32 (pos n)) D top) in
      cut-ge c y n (count-value n few) finite (omega (arith, N)) reached

  -- below it, speed / pitch times n is 14 / 5 at least
  pace-ge : (n : ℕ) → 1 ≤ n → n ≤ 7693 → 256 * (num pitch * den speed) < num speed * den pitch * thirds n
      → let v = div binary32 speed pitch in 14 * den v ≤ 5 * n * num v
  unfolding thirds
  pace-ge n some N h =
      let v = div binary32 speed pitch in
      let q = thirds n in
      let Q : 0 < q = omega arith in
      let l = leading 5 (256 * 2 ^ 60) q Q (omega (arith, N)) in
      let C = mul-pos pitch-in.1 (den_pos speed) in
      let by-q : lower l * (num pitch * den speed) * q ≤ num speed * den pitch * 2 ^ 60 * q =
      omega (arith, mul-le-mul_right (num pitch * den speed) l.below, h) in
      let least : T (le (grid l.digits l.power) v) =
      rw (div_is binary32 speed-in.0 pitch-in.0 pitch-in.1)
      (round-grid-ge (num speed * den pitch) (num pitch * den speed) l.digits l.power C (le_of_mul-le-mul_right by-q Q)) in
      let power : l.power ≤ 150 = omega (arith, power-high l 100 Q (omega (arith, Q))) in
      let v-ge : lower l * den v ≤ num v * 2 ^ 60 =
      value-le (grid l.digits l.power) (lower l) (2 ^ 60) (pace-in w).0 (grid-value l.digits l.power (omega (arith, l.high)) power) least in
      let close : 32 * (256 * 2 ^ 60) ≤ 33 * (lower l * q) = omega (arith, l.above, mul-le-mul_right q (upper-le l)) in
      let fast-by : 8192 * den v ≤ 33 * (q * num v) = omega (arith, mul-le-mul_right (den v) close, mul-le-mul_right q v-ge) in
      let third : 3 * q ≤ 259 * n = omega (arith, some) in
      omega (arith, fast-by, mul-le-mul_right (num v) third)

  factor-ge : tripled speed pitch ≤ 7692 → let v = div binary32 speed pitch in 14 * den v ≤ 5 * suc (tripled speed pitch) * num v
  factor-ge h = go (leb (num speed * den pitch * thirds n) (256 * (num pitch * den speed))) refl
    where
      n : ℕ
      n = suc (tripled speed pitch)

      not_more : n ≤ tripled speed pitch → ⊥
      not_more k = omega (arith, k)

      go : (b : Bool) → leb (num speed * den pitch * thirds n) (256 * (num pitch * den speed)) ≡ b
          → let v = div binary32 speed pitch in 14 * den v ≤ 5 * n * num v
      go true e = absurd (not_more (tripled-ge n (omega (arith, h)) (leb-true (num speed * den pitch * thirds n) (256 * (num pitch * den speed)) e)))
      go false e = pace-ge n (omega arith) (omega (arith, h)) (leb-false (num speed * den pitch * thirds n) (256 * (num pitch * den speed)) e)

  -- ---- the step
  module _ {held : ℕ} {play : Float} (paced : Paced R speed pitch r most held play) (low : r ≤ held) (high : held ≤ most) where
    abbrev v : Float
    v = div binary32 speed pitch

    abbrev s : Float
    s = local_speed held (sample_period R) play

    -- at speed / pitch of 2 at least s is above 1
    above-one : 2 ≤ to_unsigned 64 v → T (lt one s)
    above-one h =
        let f = speed-from-any w paced low high in
        let n = (pace-in w).0 in
        let two-at-least : 2 * den v ≤ num v = (le-div_iff_mul-le (den_pos v)).0 (omega (arith, h, cut-is n)) in
        let by-den : 2621440 * 2 ^ 60 * den v ≤ 2590137 * (f.digits * 2 ^ f.power) * den v = omega (arith, f.part, two-at-least) in
        let ratio = le_of_mul-le-mul_right by-den (den_pos v) in
        let more : suc (2 ^ 60) ≤ f.digits * 2 ^ f.power = omega (arith, ratio) in
        ⊎_elim (λ t. t) (λ k. fast k.0 (omega (arith, k.1, mul-le-mul_right (den s) more, den_pos s)))
        (from-value f.digits f.power s f.digits_low (omega (arith, f.digits_high)) f.most_power f.least)

    -- where few frames are held, s is 2 / (factor + 1) at least
    by-factor : most ≤ 3 * r → (p : ℕ) → 1 ≤ p → p ≤ 7692 → tripled speed pitch ≤ 7692 → T (lt one s) ⊎ (p ≤ tripled speed pitch * insert_count s p)
    by-factor few p some P h =
        let f = speed-from-few w paced low high few in
        let g = tripled speed pitch in
        let by-den : 18350080 * 2 ^ 60 * den v ≤ 8633790 * (suc g * (f.digits * 2 ^ f.power)) * den v =
        omega (arith, mul-le-mul_left (suc g) f.part, factor-ge h) in
        let ratio = le_of_mul-le-mul_right by-den (den_pos v) in
        inserts-few f.digits f.power g s p f.digits_low f.digits_high f.least_power f.most_power f.least (omega (arith, ratio)) some P

    pub insert-grows : (most ≤ 3 * r) ⊎ (2 ≤ to_unsigned 64 v) → (p longest : ℕ) → 1 ≤ p → p ≤ longest → longest ≤ 7692
        → T (lt one s) ⊎ (p ≤ growth_factor speed pitch longest * insert_count s p)
    insert-grows regime p longest some within short = ⊎_elim (λ few. go few (leb longest (tripled speed pitch)) refl) (λ h. inl (above-one h)) regime
      where
        go : most ≤ 3 * r → (b : Bool) → leb longest (tripled speed pitch) ≡ b → T (lt one s) ⊎ (p ≤ growth_factor speed pitch longest * insert_count s p)
        go few true e =
            let all : growth_factor speed pitch longest ≡ longest = omega (arith, leb-true longest (tripled speed pitch) e) in
            inr (rw all (omega (arith, within, mul-le-mul_left longest (insert_count-ge s p))))
        go few false e =
            let less = leb-false longest (tripled speed pitch) e in
            let is : growth_factor speed pitch longest ≡ tripled speed pitch = omega (arith, less) in
            rw is (by-factor few p some (omega (arith, within, short)) (omega (arith, less, short)))
