-- docs/RULES.md, "A write" and "Read and flush", with no limit of room: what the calls' definitions and the ledger go
-- by. Definitions only. Assumes nothing.
use Rattle.std.specs.Prelude.{List, [], ◌++◌, map, ℕ, ◌*◌, ◌/◌, pos, Float, length, replicate}
use Rattle.frames.specs.Framing.{Frame, frames_of}
use Rattle.floats.specs.Numbers.{zero}
use Rattle.floats.specs.Settings.{sample_period}
use Rattle.floats.specs.Write.{sample_in, play_time_grown}
use Rattle.floats.specs.Flush.{expected_frames}
use Rattle.volume.specs.Volume.{scaled}
use Rattle.rate.specs.Conversion.{Conversion, adjust_rate}
use Rattle.period.specs.Rates.{max_required}
use Rattle.stretch.specs.declared.Step.{Step}
use Rattle.stream.specs.Balance.{booked}
use Rattle.stream.specs.State.{State, with_input, with_tail, with_balance}
use Rattle.fill.specs.declared.Told.{Told}
use Rattle.fill.specs.Taking.{Taken, taken, counted}

-- ---- a write's frames

-- whole frames only; a partial last frame is dropped
unfoldable pub whole_frames : ℕ → List Float → List (List Float)
whole_frames channels samples = frames_of channels (length samples / channels) samples

-- frames join the input, and play time grows
unfoldable pub joined : List Frame → State → State
joined fs s =
    with_input s (s.input ++ fs) s.prev
    (play_time_grown s.input_play_time (length fs) (sample_period s.rate) s.speed s.pitch) s.time_error

-- ---- one call's work: then rate and volume, and the totals (C-16)

-- the state after it, the frames made, how many were staged for them, the steps, and what is told
pub record Made : Type 0 where
  pub state : State
  pub frames : List Frame
  pub staged : ℕ
  pub steps : List Step
  pub told : Told

-- the totals with what steps add to them
unfoldable pub counting : List Step → State → State
counting ss s = with_balance s (booked s.balance (counted ss))

unfoldable pub finished : Taken → Conversion → Made
finished t c =
    record {
      state = counting t.steps (with_tail t.state c.rest c.at);
      frames = map (map (scaled t.state.volume)) c.made;
      staged = length t.frames;
      steps = t.steps;
      told = t.told;
    }

unfoldable pub process : State → Made
process s =
    let t : Taken = taken s in finished t
    (adjust_rate t.state.rate t.state.pitch t.state.at t.state.tail t.frames)

-- a write of samples
unfoldable pub write_work : List Float → State → Made
write_work samples s = process (joined (map (map sample_in) (whole_frames s.channels samples)) s)

-- ---- a flush

-- e, before its silent frames
unfoldable pub expected : State → ℕ
expected s = expected_frames (length s.input) (length s.tail) s.speed s.pitch

-- 2·`max_required` silent frames are written
unfoldable pub flush_work : State → Made
flush_work s = process (joined (replicate (2 * max_required s.rate) (replicate s.channels (pos 0))) s)

-- input, tail, play time and time error are cleared; p, n, the period record and the totals are not
unfoldable pub cleared : State → State
cleared s = with_tail (with_input s [] s.prev zero zero) [] s.at
