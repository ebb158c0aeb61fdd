-- A stream's value and a state: what a stream and its areas say, and the stream of a state. Definitions only. Assumes
-- nothing.
use Rattle.std.specs.Prelude.{◌≡◌, List, [], ℕ, ℤ, length}
use Rattle.frames.specs.Framing.{frames_of}
use Rattle.floats.specs.Numbers.{zero}
use Rattle.floats.specs.Settings.{sample_period}
use Rattle.stream.specs.declared.SonicStream.{SonicStream}
use Rattle.stream.specs.Balance.{none}
use Rattle.stream.specs.State.{State}

-- the state that a stream says with its input and its stage: the input holds written frames not yet used, the stage
-- the tail
unfoldable pub state_of : SonicStream → List ℤ → List ℤ → State
state_of s input stage =
    record {
      rate = s.rate;
      channels = s.channels;
      speed = s.speed;
      pitch = s.pitch;
      volume = s.volume;
      step_over = s.step_over;
      input = frames_of s.channels s.held.0 input;
      tail = frames_of s.channels s.tail.0 stage;
      at = record { old = s.old_rate_position; new = s.new_rate_position };
      prev = record { period = s.prev_period; min_diff = s.prev_min_diff };
      input_play_time = s.input_play_time;
      time_error = s.time_error;
      balance = s.balance;
      ties = s.ties;
    }

-- the stream of a state, with w frames waiting; its sample period is T, that of the rate
unfoldable pub stream_of : State → ℕ → SonicStream
stream_of s w =
    record {
      rate = s.rate;
      channels = s.channels;
      speed = s.speed;
      pitch = s.pitch;
      volume = s.volume;
      sample_period = sample_period s.rate;
      input_play_time = s.input_play_time;
      time_error = s.time_error;
      old_rate_position = s.at.old;
      new_rate_position = s.at.new;
      prev_period = s.prev.period;
      prev_min_diff = s.prev.min_diff;
      held = record { 0 = length s.input };
      tail = record { 0 = length s.tail };
      waiting = record { 0 = w };
      balance = s.balance;
      step_over = s.step_over;
      ties = s.ties;
    }

-- of a stream whose areas are not lent: as many frames as it holds, with no samples
abbrev pub unlent : SonicStream → State
unlent s = state_of s [] []

-- r is the stream s with its state changed by f, whatever its areas hold, and w frames waiting
abbrev pub ChangedBy : (State → State) → SonicStream → ℕ → SonicStream → Type 0
ChangedBy f s w r = (input stage : List ℤ) → r ≡ stream_of (f (state_of s input stage)) w

-- every field 0: what a refused opening carries
unfoldable pub zero_stream : SonicStream
zero_stream =
    record {
      rate = 0;
      channels = 0;
      speed = zero;
      pitch = zero;
      volume = zero;
      sample_period = zero;
      input_play_time = zero;
      time_error = zero;
      old_rate_position = 0;
      new_rate_position = 0;
      prev_period = 0;
      prev_min_diff = 0;
      held = record { 0 = 0 };
      tail = record { 0 = 0 };
      waiting = record { 0 = 0 };
      balance = none;
      step_over = 0;
      ties = 0;
    }
