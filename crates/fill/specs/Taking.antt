-- docs/RULES.md, "A write" and "Stretch steps": copied or stretched frames, before rate and volume, with no limit of
-- room; what they add to the totals (C-16), the periods passed over (C-18), and the sum of the last search (C-17).
-- Definitions only. Assumes nothing.
use Rattle.std.specs.Prelude.{cond, List, [], ◌∷◌, ℕ, ◌-◌, eqb, ltb, Float, length, drop}
use Rattle.frames.specs.Framing.{Frame, flat}
use Rattle.floats.specs.Settings.{sample_period}
use Rattle.floats.specs.Write.{play_time_left, local_speed, speed_changes}
use Rattle.search.specs.Ties.{ties_of}
use Rattle.period.specs.Rates.{max_required}
use Rattle.stretch.specs.declared.StretchCall.{StretchCall}
use Rattle.stretch.specs.declared.Place.{Place}
use Rattle.stretch.specs.declared.Step.{Step}
use Rattle.stretch.specs.declared.Stretch.{Stretch}
use Rattle.stretch.specs.Tally.{tally}
use Rattle.stretch.specs.Speed as Speed
use Rattle.stretch.specs.Speed.{begun, last_place, stalled, answer_for, stretched_frames}
use Rattle.stream.specs.declared.balance.Balance.{Balance}
use Rattle.stream.specs.Balance.{none}
use Rattle.stream.specs.State.{State, with_input, steps_over}
use Rattle.fill.specs.declared.Told.{Told}
use Rattle.fill.specs.declared.Outcome.{Outcome}
use Rattle.fill.specs.declared.Outcome.TheVariants.{Empty, Copied, Waiting, Stretched, Stalled}

-- the first k frames leave the input, and play time becomes (play time·left)/held
unfoldable pub removed : ℕ → State → State
removed k s =
    with_input s (drop k s.input) s.prev
    (play_time_left s.input_play_time (length s.input - k) (length s.input))
    s.time_error

-- the frames, the steps that gave them, the state after it, and what is told
pub record Taken : Type 0 where
  pub frames : List Frame
  pub steps : List Step
  pub state : State
  pub told : Told

-- no frames
unfoldable pub nothing : Outcome → State → Taken
nothing outcome s =
    record { frames = []; steps = []; state = s; told = record { outcome = outcome; passed = 0; sum = 0 } }

-- all frames of the input, in one copying step
unfoldable pub copied : State → Taken
copied s =
    record {
      frames = s.input;
      steps = Step.Copied (record { 0 = length s.input }) ∷ [];
      state = removed (length s.input) s;
      told = record { outcome = Copied; passed = 0; sum = 0 };
    }

-- the stretch's call at local speed x, the place where it begins, and its steps
abbrev pub call_at : Float → State → StretchCall
call_at x s =
    record {
      channels = s.channels;
      rate = s.rate;
      sample_period = sample_period s.rate;
      speed = x;
      input_play_time = s.input_play_time;
      held = record { 0 = length s.input };
      step_over = steps_over s.step_over;
      ties = ties_of s.ties;
    }

abbrev pub place_of : State → Place
place_of s = begun s.time_error s.prev

abbrev pub steps_at : Float → State → List Step
steps_at x s = Speed.steps (call_at x s) (flat s.input) (place_of s)

-- after steps that gave the answer a: a stall removes no input
unfoldable pub stepped : Stretch → State → State
stepped a s =
    let t : State = with_input s s.input a.prev s.input_play_time a.time_error in cond a.stalled t
    (removed a.used.0 t)

-- the frames of these steps
unfoldable pub stretched : Float → State → Taken
stretched x s =
    record {
      frames = stretched_frames (call_at x s) (flat s.input) (place_of s);
      steps = steps_at x s;
      state = stepped (answer_for (call_at x s) (flat s.input) (place_of s) (steps_at x s)) s;
      told = record {
        outcome = cond (stalled (steps_at x s)) Stalled Stretched;
        passed = (tally (steps_at x s)).passed;
        sum = (last_place (call_at x s) (flat s.input) (place_of s) (steps_at x s)).sum;
      };
    }

-- outside 0.99999..1.00001 the stretch runs, with at least `max_required` frames; else, and for a NaN, all frames are
-- copied
unfoldable pub taken_at : Float → State → Taken
taken_at x s =
    cond (speed_changes x) (cond (ltb (length s.input) (max_required s.rate)) (nothing Waiting s)
    (stretched x s)) (copied s)

abbrev pub speed_at : State → Float
speed_at s = local_speed (length s.input) (sample_period s.rate) s.input_play_time

unfoldable pub taken : State → Taken
taken s = cond (eqb (length s.input) 0) (nothing Empty s) (taken_at (speed_at s) s)

-- what steps add to the totals (C-16); a call that stalls counts none of them
unfoldable pub counted : List Step → Balance
counted ss = cond (stalled ss) none (record { skipped = (tally ss).skipped; inserted = (tally ss).inserted })
