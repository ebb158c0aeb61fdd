-- The step that is due is sound: it uses a frame at least and stays within the frames held; and the period record after it is in the range.
-- Assumes nothing.
use mathlib.Core.Path.{◌≡◌, refl, sym, subst}
use mathlib.Core.Bool.{Bool, true, false, cond, ◌&&◌}
use mathlib.Core.List.{List}
use Prim.Native.Nat.{ℕ, ◌+◌, ◌-◌, ◌*◌, ◌≤◌}
use native.Mathlib.Nat.{le_refl, le_trans, zero-mul, add-mul, mul-le-mul_right}
use native.Mathlib.Omega.{arith}
use lib.Dec.{eqb}
use lib.IntN.{ℤ}
use lib.Ieee.{Float, lt}
use lib.ListN.{length, drop, length-append}
use Rattle.floats.specs.Numbers.{one}
use Rattle.floats.specs.Steps.{copying_due, copy_count, skip_count, insert_count}
use Rattle.floats.proofs.CopyCount.{copy-le}
use Rattle.floats.proofs.StepRules.{copy_count-ge, skip_count-le, insert_count-ge, insert_count-le}
use Rattle.period.specs.Rates.{max_required}
use Rattle.period.specs.Pitch.{InRange, PeriodIn}
use Rattle.period.proofs.Record.{find_pitch_period-in, find_pitch_period-record-in}
use Rattle.stretch.specs.declared.StretchCall.{StretchCall}
use Rattle.stretch.specs.declared.Place.{Place}
use Rattle.stretch.specs.declared.Step.{Step}
use Rattle.stretch.specs.declared.Step.TheVariants.{Copied, Skipped, Inserted, Passed}
use Rattle.stretch.specs.Steps.{search_at, next_step, frames_out, frames_used, frames_read, periods_passed, samples_out, prev_after, place_after, after, StretchReady, Sound}
use Rattle.crossfade.specs.Crossfade.{skip_pitch_period, insert_pitch_period}
use Rattle.crossfade.proofs.Crossfading.{overlap_add-length, copy_unmodified_samples-length}
use Rattle.stretch.proofs.DueStep.{next_step-copied, next_step-searched}

-- ---- the step that is due

module _ {u : StretchCall} (x : List ℤ) (h : Place) (r : StretchReady u) (o : PeriodIn u.rate h.prev) where
  pub period_in : InRange u.rate (search_at u x h).period.0
  unfolding search_at
  period_in = find_pitch_period-in u.ties (drop (h.position.0 * u.channels) x) h.prev r.opened o

  found_in : PeriodIn u.rate (search_at u x h).prev
  unfolding search_at
  found_in = find_pitch_period-record-in u.ties (drop (h.position.0 * u.channels) x) h.prev r.opened o

  record-in : (s : Step) → PeriodIn u.rate (prev_after u x h s)
  unfolding prev_after
  record-in (Copied n) = o
  record-in (Skipped period k) = found_in
  record-in (Inserted period k) = found_in
  record-in (Passed period) = found_in

  -- the period record after any step is in the range
  pub after-in : (s : Step) → PeriodIn u.rate (after u x h s).prev
  unfolding after place_after
  after-in s = record-in s

  module _ (room : h.position.0 + max_required u.rate ≤ u.held.0) where
    abbrev Here : Step → Type 0
    Here s = Sound u.held.0 h.position.0 s

    copied-sound : copying_due u.speed h.time_error ≡ true
        → Here (Copied (record { 0 = copy_count h.time_error u.speed u.sample_period (u.held.0 - h.position.0) }))
    copied-sound due =
        let left = u.held.0 - h.position.0 in
        let low = r.opened.rate_low in
        let few = r.few in
        let some : 1 ≤ left = omega arith in
        let one_more = copy_count-ge u.rate h.time_error u.speed left low r.opened.rate_high r.speed_fits due some in
        record {
          some = subst (λ (t : Float). 1 ≤ copy_count h.time_error u.speed t left) (sym r.period_is) one_more;
          within = omega (arith, copy-le h.time_error u.speed u.sample_period left (omega arith));
          short = omega arith;
        }

    period-sound : (s : Float) (t b : Bool) → (let p = (search_at u x h).period in
        Here (cond t (cond b (Passed p) (Skipped p (record { 0 = skip_count s p.0 }))) (Inserted p (record { 0 = insert_count s p.0 }))))
    period-sound s true true =
        let i = period_in in
        let low = r.opened.rate_low in
        let high = r.opened.rate_high in
        record { some = omega (arith, i.low); within = omega (arith, i.high); short = omega arith }
    period-sound s true false =
        let i = period_in in
        let low = r.opened.rate_low in
        let high = r.opened.rate_high in
        let k = skip_count-le s (search_at u x h).period.0 (omega (arith, i.high)) in
        record { some = omega (arith, i.low); within = omega (arith, i.high); short = omega (arith, i.high) }
    period-sound s false b =
        let i = period_in in
        let low = r.opened.rate_low in
        let high = r.opened.rate_high in
        let k = insert_count-le s (search_at u x h).period.0 (omega (arith, i.low)) (omega (arith, i.high)) in
        record { some = insert_count-ge s (search_at u x h).period.0; within = omega (arith, i.high); short = omega (arith, i.high) }

    by-test : (t : Bool) → copying_due u.speed h.time_error ≡ t → Here (next_step u x h)
    by-test true e = subst Here (sym (next_step-copied u x h e)) (copied-sound e)
    by-test false e = subst Here (sym (next_step-searched u x h e))
        (period-sound u.speed (lt one u.speed) (u.step_over && eqb (skip_count u.speed (search_at u x h).period.0) 0))

    pub next_step-sound : Sound u.held.0 h.position.0 (next_step u x h)
    next_step-sound = by-test (copying_due u.speed h.time_error) refl

-- ---- what a sound step gives and uses

frames_used-le : (s : Step) → frames_used s ≤ frames_read s
frames_used-le (Copied n) = le_refl n.0
frames_used-le (Skipped period k) = le_refl (period.0 + k.0)
frames_used-le (Inserted period k) = omega arith
frames_used-le (Passed period) = le_refl period.0

pub frames_out-le : (s : Step) → frames_out s ≤ frames_read s
frames_out-le (Copied n) = le_refl n.0
frames_out-le (Skipped period k) = omega arith
frames_out-le (Inserted period k) = le_refl (period.0 + k.0)
frames_out-le (Passed period) = omega arith

-- a period passed over has a frame at least
pub passed-le : {held at : ℕ} (s : Step) → Sound held at s → periods_passed s ≤ frames_used s
passed-le (Copied n) r = omega arith
passed-le (Skipped period k) r = omega arith
passed-le (Inserted period k) r = omega arith
passed-le (Passed period) r = r.some

-- as many samples as frames out
pub samples_out-length : {held at : ℕ} (s : Step) (channels : ℕ) (x : List ℤ) → Sound held at s → held * channels ≤ length x
    → length (samples_out channels x at s) ≡ frames_out s * channels
unfolding samples_out skip_pitch_period insert_pitch_period
samples_out-length {held} {at} (Copied n) channels x r h = copy_unmodified_samples-length channels x at n.0 (le_trans (mul-le-mul_right channels r.within) h)
samples_out-length {held} {at} (Skipped period k) channels x r h =
    overlap_add-length k.0 channels (drop (at * channels) x) (drop ((at + period.0) * channels) x)
samples_out-length {held} {at} (Inserted period k) channels x r h =
    let fade = overlap_add-length k.0 channels (drop ((at + period.0) * channels) x) (drop (at * channels) x) in
    let low : at + period.0 ≤ held = omega (arith, r.within) in
    let copied = copy_unmodified_samples-length channels x at period.0 (le_trans (mul-le-mul_right channels low) h) in
    rw length-append (omega (arith, copied, fade, add-mul period.0 k.0 channels))
samples_out-length {held} {at} (Passed period) channels x r h = sym (zero-mul channels)

-- the position after it is within the frames held
pub sound-in : {held at : ℕ} {s : Step} → Sound held at s → at + frames_used s ≤ held
sound-in {held} {at} {s} r = omega (arith, r.within, frames_used-le s)
