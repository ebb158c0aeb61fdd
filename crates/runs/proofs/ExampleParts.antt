-- Three runs that there are, computed: 8,000 Hz, 1 channel, speed and pitch 0.5, and the same 13 frames, written at once, in two parts, or
-- at once with a flush behind them. `same-frames`, `count` and `ledger-claim` for them. No proof cites this file. Assumes nothing.
use Rattle.std.specs.Prelude.{Result, Ok}
use mathlib.Core.Path.{◌≡◌, refl, ap, ◌∙◌}
use mathlib.Core.List.{List, [], ◌∷◌, ◌++◌}
use Prim.Native.Nat.{ℕ}
use lib.IntN.{ℤ, pos, negsuc}
use lib.Ieee.{Float, of_bits, neg, of_int, to_unsigned, to_signed, round, add, mul, div, lt, le, eq}
use lib.ListN.{length, take, replicate}
use Rattle.frames.specs.Areas.{Areas, areas}
use Rattle.frames.specs.Framing.{Frame, frames_of}
use Rattle.frames.specs.Clamp.{clamp_z}
use Rattle.floats.specs.Numbers.{zero, half, one, narrow}
use Rattle.floats.specs.Scales.{new_rate}
use Rattle.floats.specs.Settings.{clamped, sample_period}
use Rattle.floats.specs.Write.{unit_clamped, sample_in, play_time_grown, local_speed, speed_changes, play_time_left}
use Rattle.floats.specs.Flush.{expected_frames}
use Rattle.sinc.specs.SincTable.{sinc_table}
use Rattle.sinc.specs.Sinc.{table_place, remainder, table_value, sinc_coefficient, tabulate, weighted_sum, tap_sum, held_sample, interpolate}
use Rattle.volume.specs.Volume.{scaled}
use Rattle.rate.specs.declared.Position.{Position}
use Rattle.rate.specs.Halving.{halved, rates_of}
use Rattle.rate.specs.Tail.{start, ceil_div, due, next, steps, interpolate_window, interpolated, emit, scan}
use Rattle.rate.specs.Conversion.{convert, join_tail, adjust_rate}
use Rattle.stretch.specs.Tally.{tally}
use Rattle.stretch.specs.Speed.{stalled}
use Rattle.search.specs.declared.Ties.TheVariants.{Smallest}
use Rattle.stream.specs.declared.refusal.Refused.{Refused}
use Rattle.stream.specs.declared.SonicStream.{SonicStream}
use Rattle.stream.specs.declared.Setting.TheVariants.{Speed, Pitch}
use Rattle.stream.specs.Balance.{booked, past}
use Rattle.stream.specs.State.{with_settings, with_tail}
use Rattle.stream.specs.Stream.{state_of, stream_of}
use Rattle.stream.specs.Refusals.{rate_bad, channels_bad, limits_in_order, period_in_order, settings_in_order, prev_in_order, positions_in_order, is_in_order}
use Rattle.stream.specs.Refusals.{sizes_bad, parts_bad, areas_bad, stage_needed, refusal}
use Rattle.stream.specs.Settings.{fresh, with_setting, open_call, set_call}
use Rattle.fill.specs.declared.Told.{Told}
use Rattle.fill.specs.declared.Outcome.TheVariants.{Copied}
use Rattle.fill.specs.Taking.{removed, nothing, copied, taken_at, taken, counted}
use Rattle.process.specs.Process.{whole_frames, joined, counting, finished, process, write_work, flush_work, expected, cleared}
use Rattle.process.specs.declared.Wrote.{Wrote}
use Rattle.adding.specs.Calls.{refused_call, accepted_call, write_call, flush_call}
use Rattle.runs.specs.Ledger.{setting, write, begun, entry, posted, ledger_from, ledger}
use Rattle.runs.specs.Run.{Event, setting-went, write-went, flush-went, opening, Agree, leave, after_setting, after_call, after, end, values, total, fed}
use Rattle.runs.specs.Demand.{RunOf, last, ledger_of, unless_read, accepted_in, marked, joined_frames, frames_in}
use Rattle.runs.proofs.Claims.{ledger-claim, same-frames, count}

-- at this speed and pitch, with tail frames, positions and so many frames waiting, all else fresh
abbrev stream_for : Float → Float → List Frame → Position → ℕ → SonicStream
stream_for speed pitch tail at waiting = stream_of (with_tail (with_settings (fresh 8000 1 Smallest) speed pitch one 0 at) tail at) waiting

opens : open_call 8000 1 Smallest ≡ Ok (stream_for one one [] start 0)
unfolding open_call rate_bad channels_bad fresh
opens = refl

slower : Event
slower = setting-went (Speed half) (Ok (stream_for half one [] start 0))

-- speed/pitch is 1, so that frames are copied
deeper : Event
deeper = setting-went (Pitch half) (Ok (stream_for half half [] start 0))

-- areas with other samples behind what they hold
lent : List ℤ → List ℤ → Areas
lent stage output =
    areas (replicate 20 (pos 9)) (take 20 (stage ++ replicate 20 (pos 8))) (take 20 (output ++ replicate 20 (pos 7))) (replicate 246 (pos 6))

-- one click at the seventh of 13 frames
early : List Float
early = replicate 6 zero

late : List Float
late = one ∷ replicate 6 zero

-- 12 frames stay in the tail, one is consumed and makes two
click : List ℤ
click = replicate 5 (pos 0) ++ (pos 32767 ∷ replicate 6 (pos 0))

made : List ℤ
made = pos 1 ∷ pos 20505 ∷ []

-- what each write and flush tells
abbrev copying : Told
copying = record { outcome = Copied; passed = 0; sum = 0 }

made-of-all : Result Wrote Refused
made-of-all = Ok (record { told = copying; stream = stream_for half half (replicate 12 []) (record { old = 1; new = 2 }) 2 })

all-at-once : Event
all-at-once = write-went (early ++ late) (lent [] []) made-of-all (lent click made)

first_part : Event
first_part = write-went early (lent [] []) (Ok (record { told = copying; stream = stream_for half half (replicate 6 []) start 0 })) (lent (replicate 6 (pos 0)) [])

second-part : Event
second-part = write-went late (lent (replicate 6 (pos 0)) []) made-of-all (lent click made)

-- of the 984 frames that 492 silent ones make with the tail, 24 are kept
made-by-flush : List ℤ
made-by-flush =
    pos 32765 ∷ pos 20500 ∷ negsuc 1 ∷ negsuc 5934 ∷ pos 0 ∷ pos 2624 ∷ pos 0 ∷ negsuc 1103 ∷ pos 0 ∷ pos 338 ∷ pos 0 ∷ negsuc 31 ∷ replicate 12 (pos 0)

long : List ℤ → List ℤ → Areas
long stage output =
    areas (replicate 492 (pos 5)) (take 504 (stage ++ replicate 504 (pos 4))) (take 986 (output ++ replicate 986 (pos 3))) (replicate 246 (pos 2))

flush-behind : Event
flush-behind =
    flush-went (long click made) (Ok (record { told = copying; stream = stream_for half half [] (record { old = 493; new = 986 }) 26 })) (long [] (made ++ made-by-flush))

at_once : RunOf 8000 1 Smallest
unfolding slower deeper lent early late click made made-of-all all-at-once
    opening after after_setting after_call Agree leave
    set_call with_setting write_call refused_call accepted_call
    stage_needed refusal past is_in_order limits_in_order period_in_order settings_in_order prev_in_order positions_in_order areas_bad sizes_bad parts_bad rate_bad channels_bad
    fresh stream_of state_of frames_of whole_frames
    write_work process counting counted stalled tally booked finished taken taken_at copied nothing joined removed
    sample_in unit_clamped play_time_grown play_time_left local_speed speed_changes scaled clamp_z clamped
    adjust_rate join_tail convert scan steps next due emit interpolated interpolate_window
    interpolate held_sample tap_sum weighted_sum tabulate sinc_coefficient table_value remainder table_place sinc_table
    rates_of halved new_rate ceil_div sample_period narrow of_bits neg div round of_int to_unsigned to_signed le lt eq mul add
at_once = record {
  stream = stream_for one one [] start 0;
  opens = opens;
  events = slower ∷ deeper ∷ all-at-once ∷ [];
  allowed = (
    refl,
    (
      refl,
      (
        (
          record { input = refl; stage = refl; output = refl },
          record { input = refl; stage = refl; output = refl },
          record { answer = refl; input = refl; tail = refl; output = refl },
        ),
        tt,
      ),
    ),
  );
}

in_parts : RunOf 8000 1 Smallest
unfolding slower deeper lent early late click made made-of-all first_part second-part
    opening after after_setting after_call Agree leave
    set_call with_setting write_call refused_call accepted_call
    stage_needed refusal past is_in_order limits_in_order period_in_order settings_in_order prev_in_order positions_in_order areas_bad sizes_bad parts_bad rate_bad channels_bad
    fresh stream_of state_of frames_of whole_frames
    write_work process counting counted stalled tally booked finished taken taken_at copied nothing joined removed
    sample_in unit_clamped play_time_grown play_time_left local_speed speed_changes scaled clamp_z clamped
    adjust_rate join_tail convert scan steps next due emit interpolated interpolate_window
    interpolate held_sample tap_sum weighted_sum tabulate sinc_coefficient table_value remainder table_place sinc_table
    rates_of halved new_rate ceil_div sample_period narrow of_bits neg div round of_int to_unsigned to_signed le lt eq mul add
in_parts = record {
  stream = stream_for one one [] start 0;
  opens = opens;
  events = slower ∷ deeper ∷ first_part ∷ second-part ∷ [];
  allowed = (
    refl,
    (
      refl,
      (
        (
          record { input = refl; stage = refl; output = refl },
          record { input = refl; stage = refl; output = refl },
          record { answer = refl; input = refl; tail = refl; output = refl },
        ),
        (
          (
            record { input = refl; stage = refl; output = refl },
            record { input = refl; stage = refl; output = refl },
            record { answer = refl; input = refl; tail = refl; output = refl },
          ),
          tt,
        ),
      ),
    ),
  );
}

with-flush : RunOf 8000 1 Smallest
unfolding slower deeper lent early late click made made-of-all all-at-once made-by-flush long flush-behind
    opening after after_setting after_call Agree leave
    set_call with_setting write_call flush_call refused_call accepted_call
    stage_needed refusal past is_in_order limits_in_order period_in_order settings_in_order prev_in_order positions_in_order areas_bad sizes_bad parts_bad rate_bad channels_bad
    fresh stream_of state_of frames_of whole_frames
    write_work flush_work process counting counted stalled tally booked finished expected expected_frames cleared taken taken_at copied nothing joined removed
    sample_in unit_clamped play_time_grown play_time_left local_speed speed_changes scaled clamp_z clamped
    adjust_rate join_tail convert scan steps next due emit interpolated interpolate_window
    interpolate held_sample tap_sum weighted_sum tabulate sinc_coefficient table_value remainder table_place sinc_table
    rates_of halved new_rate ceil_div sample_period narrow of_bits neg div round of_int to_unsigned to_signed le lt eq mul add
with-flush = record {
  stream = stream_for one one [] start 0;
  opens = opens;
  events = slower ∷ deeper ∷ all-at-once ∷ flush-behind ∷ [];
  allowed = (
    refl,
    (
      refl,
      (
        (
          record { input = refl; stage = refl; output = refl },
          record { input = refl; stage = refl; output = refl },
          record { answer = refl; input = refl; tail = refl; output = refl },
        ),
        (
          (
            record { input = refl; stage = refl; output = refl },
            record { input = refl; stage = refl; output = refl },
            record { answer = refl; input = refl; tail = refl; output = refl },
          ),
          tt,
        ),
      ),
    ),
  );
}

-- ---- what the claims say of them

same_total : total (last at_once) ≡ total (last in_parts)
unfolding at_once in_parts slower deeper all-at-once first_part second-part made-of-all early late end opening after after_setting after_call
    fed accepted_in unless_read joined_frames marked whole_frames frames_of
same_total = same-frames 8000 1 Smallest at_once in_parts (tt, tt) (tt, (tt, tt)) refl

-- 13 frames make 2
two_made : length (total (last at_once)) ≡ 2
unfolding at_once slower deeper all-at-once made-of-all early late end opening after after_setting after_call
    fed accepted_in unless_read frames_in whole_frames frames_of clamped rates_of halved new_rate ceil_div of_bits neg div round of_int to_unsigned le eq
two_made = count 8000 1 Smallest at_once (tt, tt) (setting (Speed half) ∷ []) (write (early ++ late) ∷ []) half refl (tt, tt) (tt, tt) refl (tt, (tt, (tt, tt)))

ledger-with-flush : (ledger_of with-flush).made ≡ frames_of 1 26 (made ++ made-by-flush)
unfolding with-flush slower deeper all-at-once flush-behind made-of-all early late made made-by-flush
    ledger ledger_from posted begun entry fed fresh with_setting frames_of whole_frames
    write_work flush_work process counting finished expected expected_frames cleared taken taken_at copied nothing joined removed
    sample_in unit_clamped play_time_grown play_time_left local_speed speed_changes scaled clamp_z clamped
    adjust_rate join_tail convert scan steps next due emit interpolated interpolate_window
    interpolate held_sample tap_sum weighted_sum tabulate sinc_coefficient table_value remainder table_place sinc_table
    rates_of halved new_rate ceil_div sample_period narrow of_bits neg div round of_int to_unsigned to_signed le lt eq mul add
ledger-with-flush = refl

total-with-flush : total (last with-flush) ≡ values (frames_of 1 26 (made ++ made-by-flush))
total-with-flush = (ledger-claim 8000 1 Smallest with-flush).0 ∙ ap (λ (fs : List Frame). values fs) ledger-with-flush
