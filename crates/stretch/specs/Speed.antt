-- docs/RULES.md, "Stretch steps": `change_speed`. The list of a call's steps, and what is computed from it. u is the
-- call, x the held input, h a place. Definitions only.
use Rattle.std.specs.Prelude.{ℕ, zero, suc, ◌+◌, ◌*◌, ◌≤◌, Bool, false, cond, ◌||◌, List, [], ◌∷◌, ◌++◌, ◌≡◌, leb, ltb}
use Rattle.std.specs.Prelude.{ℤ, Float, take, Option, None, Some}
use Rattle.std.proofs.Math.Seq.{paste}
use Rattle.frames.specs.Framing.{Frame, frames_of}
use Rattle.period.specs.declared.PeriodRecord.{PeriodRecord}
use Rattle.period.specs.Rates.{max_required}
use Rattle.period.specs.Pitch.{PrevInOrder}
use Rattle.stretch.specs.declared.StretchCall.{StretchCall}
use Rattle.stretch.specs.declared.Place.{Place}
use Rattle.stretch.specs.declared.Step.{Step}
use Rattle.stretch.specs.declared.Stretch.{Stretch}
use Rattle.stretch.specs.Steps.{next_step, frames_used, stalls, samples_out, after}
use Rattle.stretch.specs.Tally.{tally}

-- at most n steps, from a place until position + `max_required` exceeds the frames held or a step stalls
unfoldable pub steps_in : ℕ → StretchCall → List ℤ → Place → List Step
steps_in zero u x h = []
steps_in (suc n) u x h =
    cond (leb (h.position.0 + max_required u.rate) u.held.0)
    (next_step u x h ∷ cond (stalls (next_step u x h)) [] (steps_in n u x (after u x h (next_step u x h))))
    []

-- all of them: each uses a frame at least, so that there are no more than frames held (`proofs/Claims.antt`,
-- steps-complete)
unfoldable pub steps : StretchCall → List ℤ → Place → List Step
steps u x h = steps_in u.held.0 u x h

-- the frames that steps give
abbrev pub frames_made : List Step → ℕ
frames_made ss = (tally ss).out

-- their samples; the first of the steps is at frame `at`
unfoldable pub samples_of : ℕ → List ℤ → ℕ → List Step → List ℤ
samples_of channels x at [] = []
samples_of channels x at (s ∷ ss) = samples_out channels x at s ++ samples_of channels x (at + frames_used s) ss

-- the place after the last
unfoldable pub last_place : StretchCall → List ℤ → Place → List Step → Place
last_place u x h [] = h
last_place u x h (s ∷ ss) = last_place u x (after u x h s) ss

-- whether one stalls
unfoldable pub stalled : List Step → Bool
stalled [] = false
stalled (s ∷ ss) = stalls s || stalled ss

-- where a call begins; it has made no search
abbrev pub begun : Float → PeriodRecord → Place
begun error prev = record { position = record { 0 = 0 }; time_error = error; prev = prev; sum = 0 }

-- an answer with the sum, the time error and the period record of a place
abbrev pub answer : ℕ → ℕ → ℕ → Place → Bool → Stretch
answer made used passed h stall =
    record {
      made = record { 0 = made };
      used = record { 0 = used };
      passed = passed;
      sum = h.sum;
      time_error = h.time_error;
      prev = h.prev;
      stalled = stall;
    }

-- the answer for steps ss: a stall removes no input
unfoldable pub answer_for : StretchCall → List ℤ → Place → List Step → Stretch
answer_for u x h ss =
    answer (frames_made ss) (cond (stalled ss) 0 (last_place u x h ss).position.0) (tally ss).passed
    (last_place u x h ss) (stalled ss)

-- `change_speed`, when at most `most` frames may be made: nothing if more are
unfoldable pub change_speed : StretchCall → List ℤ → Place → ℕ → Option Stretch
change_speed u x h most = cond (ltb most (frames_made (steps u x h))) None (Some (answer_for u x h (steps u x h)))

-- the frames that a call makes
abbrev pub stretched_frames : StretchCall → List ℤ → Place → List Frame
stretched_frames u x h =
    frames_of u.channels (frames_made (steps u x h)) (samples_of u.channels x h.position.0 (steps u x h))

-- the area after it: what lies before the place `to` stays; if no more than `most` frames are made, and there is room
-- for them among `room` frames, they stand there, and the period record is in order
pub record AreaAfter (u : StretchCall) (x : List ℤ) (h : Place) (room most : ℕ) (area area' : List ℤ) (to : ℕ)
    : Type 0 where
  pub kept : take to area' ≡ take to area
  pub written : frames_made (steps u x h) ≤ most
      → frames_made (steps u x h) ≤ room
      → area' ≡ paste area to (samples_of u.channels x h.position.0 (steps u x h))
      (frames_made (steps u x h) * u.channels)
  pub in_order : frames_made (steps u x h) ≤ most → PrevInOrder u.rate (last_place u x h (steps u x h)).prev
