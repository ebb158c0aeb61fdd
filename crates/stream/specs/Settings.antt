-- docs/RULES.md, "Opening and settings", with C-17 and C-18: the fresh values, what a setting changes, and what an
-- opening, a setting and `available_frames` answer. Definitions only. Assumes nothing.
use Rattle.std.specs.Prelude.{cond, [], ℕ, Result, Ok, Err}
use Rattle.frames.specs.declared.Frames.{Frames}
use Rattle.floats.specs.Numbers.{zero, one}
use Rattle.floats.specs.Settings.{clamped, min_speed, max_speed, min_pitch, max_pitch, min_volume, max_volume}
use Rattle.rate.specs.Tail.{start}
use Rattle.search.specs.declared.Ties.{Ties}
use Rattle.search.specs.Ties.{ties_number}
use Rattle.stream.specs.declared.SonicStream.{SonicStream}
use Rattle.stream.specs.declared.Setting.{Setting}
use Rattle.stream.specs.declared.Setting.TheVariants.{Speed, Pitch, Volume, StepOver}
use Rattle.stream.specs.declared.refusal.Refusal.TheVariants.{BadRate, BadChannels, BadStream}
use Rattle.stream.specs.declared.refusal.NotOpened.{NotOpened}
use Rattle.stream.specs.declared.refusal.Refused.{Refused}
use Rattle.stream.specs.Balance.{none}
use Rattle.stream.specs.State.{State, with_settings}
use Rattle.stream.specs.Stream.{stream_of, unlent, zero_stream}
use Rattle.stream.specs.Refusals.{rate_bad, channels_bad, is_in_order}

-- settings 1.0, no stepping over, all but rate, channels, the choice of ties and what follows from the rate empty or 0
unfoldable pub fresh : ℕ → ℕ → Ties → State
fresh rate channels ties =
    record {
      rate = rate;
      channels = channels;
      speed = one;
      pitch = one;
      volume = one;
      step_over = 0;
      input = [];
      tail = [];
      at = start;
      prev = record { period = 0; min_diff = 0 };
      input_play_time = zero;
      time_error = zero;
      balance = none;
      ties = ties_number ties;
    }

-- 1 and 2 carry the number given and the stream with every field 0
unfoldable pub open_call : ℕ → ℕ → Ties → Result SonicStream NotOpened
open_call rate channels ties =
    cond (rate_bad rate) (Err (record { refusal = BadRate; given = rate; stream = zero_stream }))
    (cond (channels_bad channels) (Err (record { refusal = BadChannels; given = channels; stream = zero_stream }))
    (Ok (stream_of (fresh rate channels ties) 0)))

-- speed, pitch and volume are held to their ranges, NaN to the lower end; setting a pitch, even the same, puts p and n
-- to 0; stepping over is on or off
unfoldable pub with_setting : Setting → State → State
with_setting (Speed x) s =
    with_settings s (clamped x min_speed max_speed) s.pitch s.volume s.step_over s.at
with_setting (Pitch x) s =
    with_settings s s.speed (clamped x min_pitch max_pitch) s.volume s.step_over start
with_setting (Volume x) s =
    with_settings s s.speed s.pitch (clamped x min_volume max_volume) s.step_over s.at
with_setting (StepOver on) s = with_settings s s.speed s.pitch s.volume (cond on 1 0) s.at

-- 3, of a setting and of `available_frames`
abbrev pub not_in_order : SonicStream → Refused
not_in_order s = record { refusal = BadStream; stream = s }

unfoldable pub set_call : SonicStream → Setting → Result SonicStream Refused
set_call s v = cond (is_in_order s) (Ok (stream_of (with_setting v (unlent s)) s.waiting.0)) (Err (not_in_order s))

unfoldable pub available_call : SonicStream → Result Frames Refused
available_call s = cond (is_in_order s) (Ok s.waiting) (Err (not_in_order s))
