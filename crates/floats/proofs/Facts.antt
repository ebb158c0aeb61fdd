-- What the definitions of `specs/` promise beyond their own words, for the layers above. Here:
--   clamped-in, clamped-no-nan     a clamped setting lies in its range, and is no NaN
--   gain-range, new_rate-range      the gain of a volume in its range, and the new rate of a rate and a pitch in theirs
--   sample_in-range                 a sample in lies in -32767..=32767
--   play_time_left-emptied           a finite play time that is not negative is +0 once every frame is used
-- passed on from the files that prove them:
--   period-range (`SamplePeriod`)  the sample period is an `f32` above zero, from 2 ^ -19 to 2 ^ -9
--   new_rate-between (`RateBounds`) the new rate is from a 20th of the rate to 20 times it
--   Calm, zero-calm, grown-calm, left-calm, calm-emptied, calm-finite (`PlayTime`)
--                                  play time is finite, not negative and at most 2 ^ 100 when it is fresh, and each move keeps it so; over
--                                  whole runs this is `play-times` of the crate `runs`
--   PaceReady, Paced, paced-fresh, paced-grown, paced-left (`Pace`)
--                                  play time in a run from fresh with one speed and pitch is at most that of a few frames more than are held
--   three, growth_factor, insert-grows (`PaceSteps`)
--                                  so that an insert step inserts a period of at most 3 * pitch / speed, cut, times the frames that it uses
--   copy_count-ge, skip_count-le, insert_count-ge, insert_count-le (`StepRules`), copy-le (`CopyCount`)
--                                  a copying step copies from 1 frame to those left; k of a skip is at most the period, k of an insert from 1 to it
-- Assumes nothing.
pub use Rattle.floats.proofs.SamplePeriod.{shortest, longest, period-range}
pub use Rattle.floats.proofs.RateBounds.{new_rate-between}
pub use Rattle.floats.proofs.PlayTime.{ceiling, Calm, zero-calm, grown-calm, left-calm, calm-emptied, calm-finite}
pub use Rattle.floats.proofs.Pace.{PaceReady, Paced, paced-fresh, paced-grown, paced-left}
pub use Rattle.floats.proofs.PaceSteps.{three, growth_factor, insert-grows}
pub use Rattle.floats.proofs.StepRules.{copy_count-ge, skip_count-le, insert_count-ge, insert_count-le}
pub use Rattle.floats.proofs.CopyCount.{copy-le}
use Rattle.std.proofs.Common.{◌≡◌, ℕ, ◌^◌, ◌<◌, ◌≤◌, Bool, true, false, cond, not, T, ℤ, pos, negsuc, nat_abs, refl, arith, lit<}
use lib.Ieee.{Float, fin, binary32, mul, le, is_nan, of_bits}
use lib.Ieee.Positive.{between}
use Rattle.floats.specs.Numbers.{zero}
use Rattle.floats.specs.Settings.{min_pitch, max_pitch, min_volume, max_volume, clamped}
use Rattle.floats.specs.Write.{sample_in, play_time_left}
use Rattle.floats.specs.Scales.{new_rate, gain}
use Rattle.floats.proofs.Signs.{le-self, le-no-nan, sample-range}
use Rattle.floats.proofs.Ranges.{non_neg, non_neg-of-positive, mul-grows, cut-between}
use Rattle.floats.proofs.Bounds.{emptied}

-- ---- settings
pub clamped-in : (value low high : Float) → T (le low high) → T (le low (clamped value low high)) × T (le (clamped value low high) high)
unfolding clamped
clamped-in value low high h = go (le low value) (le value high) (λ t. t) (λ t. t)
  where
    held : Bool → Bool → Float
    held a b = cond a (cond b value high) low

    go : (a b : Bool) → (T a → T (le low value)) → (T b → T (le value high)) → T (le low (held a b)) × T (le (held a b) high)
    go true true p q = (p tt, q tt)
    go true false p q = (h, le-self high (le-no-nan low high h).1)
    go false b p q = (le-self low (le-no-nan low high h).0, h)

pub clamped-no-nan : (value low high : Float) → T (le low high) → T (not (is_nan (clamped value low high)))
clamped-no-nan value low high h = (le-no-nan low (clamped value low high) (clamped-in value low high h).0).1

-- ---- the gain: volume * 256, cut
least-gain : mul binary32 min_volume (fin false 1 (pos 8)) ≡ fin false 5368709 (negsuc 20)
unfolding of_bits mul
least-gain = refl

most-gain : mul binary32 max_volume (fin false 1 (pos 8)) ≡ fin false 25 (pos 10)
unfolding of_bits mul
most-gain = refl

pub gain-range : (volume : Float) → T (le min_volume volume) → T (le volume max_volume) → (2 ≤ gain volume) × (gain volume ≤ 25600)
unfolding gain of_bits
gain-range volume h g =
    let low = non_neg 5368709 (negsuc 28) in
    let high = non_neg 25 (pos 2) in
    let p = (non_neg-of-positive volume (between min_volume volume max_volume tt tt h g)).0 in
    let c = non_neg 1 (pos 8) in
    let same : T (le (fin false 1 (pos 8)) (fin false 1 (pos 8))) = unfold le in tt in
    let least = rw least-gain at (mul-grows binary32 low p c c h same) in
    let most = rw most-gain at (mul-grows binary32 p high c c g same) in
    cut-between (fin false 5368709 (negsuc 20)) (mul binary32 volume (fin false 1 (pos 8))) (fin false 25 (pos 10)) tt tt least most (lit< tt)

-- ---- the new rate
pub new_rate-range : (rate : ℕ) (pitch : Float) → 1000 ≤ rate → rate ≤ 500000 → T (le min_pitch pitch) → T (le pitch max_pitch)
    → (50 ≤ new_rate rate pitch) × (new_rate rate pitch ≤ 10000000)
new_rate-range rate pitch R R' h g = omega (arith, new_rate-between rate pitch R R' h g)

-- ---- a sample in
pub sample_in-range : (x : Float) → nat_abs (sample_in x) ≤ 32767
unfolding sample_in
sample_in-range x = sample-range x

-- ---- play time
pub play_time_left-emptied : (m : ℕ) (e : ℤ) (held : ℕ) → 0 < held → held ≤ 2 ^ 24 → play_time_left (fin false m e) 0 held ≡ zero
unfolding play_time_left
play_time_left-emptied m e held some h = emptied false m e held some h
