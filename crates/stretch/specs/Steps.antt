-- docs/RULES.md, "Stretch steps": which step is due at a place, what it gives and uses, and the place after it; with
-- C-16, C-17 and C-18. u is the call, x the held input, h a place. Definitions only.
use Rattle.std.specs.Prelude.{ℕ, ◌+◌, ◌-◌, ◌*◌, ◌^◌, ◌≤◌, ◌≡◌, Bool, false, cond, ◌&&◌, ◌||◌, List, [], T, eqb, ltb, ℤ}
use Rattle.std.specs.Prelude.{Float, drop, Option, None, Some}
use Rattle.std.specs.Float.{binary32}
use Rattle.std.specs.Float.Ieee.{lt, fits}
use Rattle.std.proofs.Math.Seq.{paste}
use Rattle.frames.specs.declared.Frames.{Frames}
use Rattle.floats.specs.Numbers.{one}
use Rattle.floats.specs.Settings.{sample_period}
use Rattle.floats.specs.Steps.{copying_due, copy_count, skip_count, insert_count, error_copied, error_skipped}
use Rattle.floats.specs.Steps.{error_inserted}
use Rattle.period.specs.declared.PeriodRecord.{PeriodRecord}
use Rattle.period.specs.declared.Chosen.{Chosen}
use Rattle.period.specs.Rates.{InLimits}
use Rattle.search.specs.Search.{longest_period}
use Rattle.period.specs.Pitch.{find_pitch_period}
use Rattle.stretch.specs.declared.StretchCall.{StretchCall}
use Rattle.stretch.specs.declared.Place.{Place}
use Rattle.stretch.specs.declared.Step.{Step}
use Rattle.stretch.specs.declared.Step.TheVariants.{Copied, Skipped, Inserted, Passed}
use Rattle.stretch.specs.declared.Went.{Went}
use Rattle.crossfade.specs.Crossfade.{copy_unmodified_samples, skip_pitch_period, insert_pitch_period}

-- the search at a place
unfoldable pub search_at : StretchCall → List ℤ → Place → Chosen
search_at u x h = find_pitch_period u.ties (drop (h.position.0 * u.channels) x) u.channels u.rate h.prev

-- a skip step that gives k frames; stepping over, one that gives no frame passes over its period (C-18)
abbrev pub skip_step : Bool → Frames → Frames → Step
skip_step stepOver period k = cond (stepOver && eqb k.0 0) (Passed period) (Skipped period k)

-- a skip step (s > 1) or an insert step (any other s)
abbrev pub period_step : Float → Bool → Frames → Step
period_step s stepOver period =
    cond (lt one s) (skip_step stepOver period (record { 0 = skip_count s period.0 }))
    (Inserted period (record { 0 = insert_count s period.0 }))

-- the step that is due: a copying step, or one of those
unfoldable pub next_step : StretchCall → List ℤ → Place → Step
next_step u x h =
    cond (copying_due u.speed h.time_error)
    (Copied (record { 0 = copy_count h.time_error u.speed u.sample_period (u.held.0 - h.position.0) }))
    (period_step u.speed u.step_over (search_at u x h).period)

-- the frames that a step gives
abbrev pub frames_out : Step → ℕ
frames_out (Copied n) = n.0
frames_out (Skipped period k) = k.0
frames_out (Inserted period k) = period.0 + k.0
frames_out (Passed period) = 0

-- the frames of the input that it uses
abbrev pub frames_used : Step → ℕ
frames_used (Copied n) = n.0
frames_used (Skipped period k) = period.0 + k.0
frames_used (Inserted period k) = k.0
frames_used (Passed period) = period.0

-- the frames of the period that it skips or passes over, and of the one that it inserts (C-16)
abbrev pub frames_skipped : Step → ℕ
frames_skipped (Copied n) = 0
frames_skipped (Skipped period k) = period.0
frames_skipped (Inserted period k) = 0
frames_skipped (Passed period) = period.0

abbrev pub frames_inserted : Step → ℕ
frames_inserted (Copied n) = 0
frames_inserted (Skipped period k) = 0
frames_inserted (Inserted period k) = period.0
frames_inserted (Passed period) = 0

-- the periods that it passes over (C-18)
abbrev pub periods_passed : Step → ℕ
periods_passed (Copied n) = 0
periods_passed (Skipped period k) = 0
periods_passed (Inserted period k) = 0
periods_passed (Passed period) = 1

-- a skip with k = 0 ends the call as stalled
abbrev pub stalls : Step → Bool
stalls (Copied n) = false
stalls (Skipped period k) = eqb k.0 0
stalls (Inserted period k) = false
stalls (Passed period) = false

-- the samples that a step at frame `at` gives
unfoldable pub samples_out : ℕ → List ℤ → ℕ → Step → List ℤ
samples_out channels x at (Copied n) = copy_unmodified_samples channels x at n.0
samples_out channels x at (Skipped period k) = skip_pitch_period channels x at period.0 k.0
samples_out channels x at (Inserted period k) = insert_pitch_period channels x at period.0 k.0
samples_out channels x at (Passed period) = []

-- the time error after a step
unfoldable pub error_after : StretchCall → Float → Step → Float
error_after u error (Copied n) = error_copied error u.speed u.sample_period n.0
error_after u error (Skipped period k) =
    error_skipped error u.speed u.sample_period u.input_play_time u.held.0 period.0 k.0
error_after u error (Inserted period k) =
    error_inserted error u.speed u.sample_period u.input_play_time u.held.0 period.0 k.0
error_after u error (Passed period) = error

-- the period record after a step: a copying step makes no search
unfoldable pub prev_after : StretchCall → List ℤ → Place → Step → PeriodRecord
prev_after u x h (Copied n) = h.prev
prev_after u x h (Skipped period k) = (search_at u x h).prev
prev_after u x h (Inserted period k) = (search_at u x h).prev
prev_after u x h (Passed period) = (search_at u x h).prev

-- the sum of the last search after a step (C-17)
unfoldable pub sum_after : StretchCall → List ℤ → Place → Step → ℕ
sum_after u x h (Copied n) = h.sum
sum_after u x h (Skipped period k) = (search_at u x h).sum
sum_after u x h (Inserted period k) = (search_at u x h).sum
sum_after u x h (Passed period) = (search_at u x h).sum

-- the place after a step, with the period record and the sum after it
unfoldable pub place_after : StretchCall → Place → Step → PeriodRecord → ℕ → Place
place_after u h s found sum =
    record {
      position = record { 0 = h.position.0 + frames_used s };
      time_error = error_after u h.time_error s;
      prev = found;
      sum = sum;
    }

-- the place after a step at a place
unfoldable pub after : StretchCall → List ℤ → Place → Step → Place
after u x h s = place_after u h s (prev_after u x h s) (sum_after u x h s)

-- ---- one turn, of a call that has made `made` frames and may make `most`; they go to the place `to` of an area, which
-- has room for `room` frames there

-- nothing, if these are too many with the step's frames; the place after it, its frames, the periods passed over, and
-- whether it stalls
unfoldable pub turn_for : StretchCall → List ℤ → Place → ℕ → ℕ → Step → Option Went
turn_for u x h made most s =
    cond (ltb most (made + frames_out s)) None
    (Some (record { place = after u x h s; frames = record { 0 = frames_out s }; passed = periods_passed s; stalled = stalls s }))

-- the area after it: the step's frames behind those made, unless they are too many or there is no room for them
unfoldable pub area_for : StretchCall → List ℤ → Place → ℕ → ℕ → ℕ → List ℤ → ℕ → Step → List ℤ
area_for u x h made room most area to s =
    cond (ltb most (made + frames_out s) || ltb room (made + frames_out s)) area
    (paste area (to + made * u.channels) (samples_out u.channels x h.position.0 s) (frames_out s * u.channels))

-- ---- what calls and steps are handed

-- a call: opened, T that of the rate, a local speed that is an f32, and few frames
pub record StretchReady (u : StretchCall) : Type 0 where
  pub opened : InLimits u.rate u.channels
  pub period_is : u.sample_period ≡ sample_period u.rate
  pub speed_fits : T (fits binary32 u.speed)
  pub few : u.held.0 ≤ 2 ^ 24

-- the frames of the input that a step looks at, and those that it crossfades
abbrev pub frames_read : Step → ℕ
frames_read (Copied n) = n.0
frames_read (Skipped period k) = period.0 + k.0
frames_read (Inserted period k) = period.0 + k.0
frames_read (Passed period) = period.0

abbrev pub crossfaded : Step → ℕ
crossfaded (Copied n) = 0
crossfaded (Skipped period k) = k.0
crossfaded (Inserted period k) = k.0
crossfaded (Passed period) = 0

-- a step at frame `at` uses a frame at least and stays within the frames held
pub record Sound (held at : ℕ) (s : Step) : Type 0 where
  pub some : 1 ≤ frames_used s
  pub within : at + frames_read s ≤ held
  pub short : crossfaded s ≤ longest_period
