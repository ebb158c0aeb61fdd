-- A run that there is, computed: 1,000 Hz, 1 channel, speed 20, and 30 frames, a pulse in every fifth of them. The period of 5 frames gives no
-- frame: the write stalls. Stepping over is switched on, and an empty write passes over that period; 25 frames are held. `totals` for it. No
-- proof cites this file. Assumes nothing.
use Rattle.std.specs.Prelude.{Ok}
use mathlib.Core.Path.{◌≡◌, refl, sym}
use mathlib.Core.Bool.{true}
use mathlib.Core.List.{List, [], ◌∷◌, ◌++◌}
use Prim.Native.Nat.{ℕ}
use lib.IntN.{ℤ, pos}
use lib.Ieee.{Float, binary32, of_bits, neg, of_int, to_unsigned, to_signed, round, add, sub, mul, div, lt, le, eq}
use lib.ListN.{take, replicate}
use Rattle.frames.specs.Areas.{Areas, areas}
use Rattle.frames.specs.Framing.{frames_of, flat}
use Rattle.floats.specs.Numbers.{zero, one, narrow}
use Rattle.floats.specs.Scales.{new_rate}
use Rattle.floats.specs.Settings.{clamped, sample_period, max_speed}
use Rattle.floats.specs.Write.{unit_clamped, sample_in, play_time_grown, local_speed, speed_changes, play_time_left}
use Rattle.floats.specs.Steps.{copying_due, skip_count, error_skipped}
use Rattle.search.specs.Search.{diffs, better, greater, sweep, find_pitch_period_in_range}
use Rattle.period.specs.Rates.{skip}
use Rattle.period.specs.Pitch.{values_of, coarse, found, prev_period_better, chosen, find_pitch_period}
use Rattle.crossfade.specs.Crossfade.{crossfade_to, overlap_add, skip_pitch_period}
use Rattle.volume.specs.Volume.{scaled}
use Rattle.rate.specs.Halving.{halved, rates_of}
use Rattle.rate.specs.Tail.{start, ceil_div}
use Rattle.rate.specs.Conversion.{adjust_rate}
use Rattle.stretch.specs.Steps.{search_at, next_step, samples_out, prev_after, sum_after, error_after, place_after, after}
use Rattle.stretch.specs.Tally.{tally}
use Rattle.stretch.specs.Speed.{steps_in, steps, samples_of, last_place, stalled, answer_for}
use Rattle.search.specs.declared.Ties.TheVariants.{Smallest}
use Rattle.stream.specs.declared.SonicStream.{SonicStream}
use Rattle.stream.specs.declared.balance.Balance.{Balance}
use Rattle.stream.specs.declared.Setting.TheVariants.{Speed, StepOver}
use Rattle.stream.specs.Balance.{none, booked, past}
use Rattle.stream.specs.State.{State, with_settings, with_input, with_balance}
use Rattle.stream.specs.Stream.{state_of, stream_of}
use Rattle.stream.specs.Refusals.{rate_bad, channels_bad, limits_in_order, period_in_order, settings_in_order, prev_in_order, positions_in_order, is_in_order}
use Rattle.stream.specs.Refusals.{sizes_bad, parts_bad, areas_bad, stage_needed, refusal}
use Rattle.stream.specs.Settings.{fresh, with_setting, open_call, set_call}
use Rattle.fill.specs.declared.Outcome.TheVariants.{Stretched, Stalled}
use Rattle.fill.specs.Taking.{removed, stepped, stretched, taken_at, taken, counted}
use Rattle.process.specs.Process.{whole_frames, joined, counting, finished, process, write_work}
use Rattle.adding.specs.Calls.{refused_call, accepted_call, write_call}
use Rattle.runs.specs.Run.{Event, setting-went, write-went, opening, Agree, leave, after_setting, after_call, end}
use Rattle.runs.specs.Run as Run
use Rattle.runs.specs.Demand.{RunOf, ledger_of}
use Rattle.runs.proofs.Balanced.{totals}

-- at this speed, stepping over or not, with frames held, a period found, the play time of the frames held, and totals, all else fresh
abbrev stream_for : Float → ℕ → ℕ → ℕ → Float → Balance → SonicStream
stream_for speed over held period play totals =
    let set : State = with_settings (fresh 1000 1 Smallest) speed one one over start in
    stream_of (with_balance (with_input set (replicate held []) (record { period = period; min_diff = 0 }) play zero) totals) 0

opens : open_call 1000 1 Smallest ≡ Ok (stream_for one 0 0 0 zero none)
unfolding open_call rate_bad channels_bad fresh
opens = refl

-- areas with other samples behind what the input holds
lent : List ℤ → Areas
lent input = areas (take 40 (input ++ replicate 40 (pos 9))) (replicate 2 (pos 8)) (replicate 2 (pos 7)) (replicate 30 (pos 6))

-- a pulse and four silent frames, as they are written and as they are held
pulse : List Float
pulse = one ∷ replicate 4 zero

six : List Float
six = pulse ++ pulse ++ pulse ++ pulse ++ pulse ++ pulse

abbrev held : List ℤ
held = pos 32767 ∷ replicate 4 (pos 0)

-- the play time of the 30 frames, and of 25 of them
abbrev thirty : Float
thirty = of_bits binary32 0x3ac49ba6

abbrev twenty-five : Float
twenty-five = of_bits binary32 0x3aa3d70b

faster : Event
faster = setting-went (Speed max_speed) (Ok (stream_for max_speed 0 0 0 zero none))

stalls : Event
stalls =
    write-went six (lent []) (Ok (record { told = record { outcome = Stalled; passed = 0; sum = 0 }; stream = stream_for max_speed 0 30 5 thirty none }))
    (lent (held ++ held ++ held ++ held ++ held ++ held))

switched-on : Event
switched-on = setting-went (StepOver true) (Ok (stream_for max_speed 1 30 5 thirty none))

passes : Event
passes =
    write-went [] (lent (held ++ held ++ held ++ held ++ held ++ held))
    (Ok (record { told = record { outcome = Stretched; passed = 1; sum = 0 }; stream = stream_for max_speed 1 25 5 twenty-five (record { skipped = 5; inserted = 0 }) }))
    (lent (held ++ held ++ held ++ held ++ held))

passing : RunOf 1000 1 Smallest
unfolding faster stalls switched-on passes lent pulse six
    opening Run.after after_setting after_call Agree leave
    set_call with_setting write_call refused_call accepted_call
    stage_needed refusal past is_in_order limits_in_order period_in_order settings_in_order prev_in_order positions_in_order areas_bad sizes_bad parts_bad rate_bad channels_bad
    fresh stream_of state_of frames_of flat whole_frames
    write_work process counting counted stalled tally booked finished
    taken taken_at stretched stepped removed answer_for last_place joined
    steps steps_in next_step after place_after prev_after sum_after error_after copying_due skip_count error_skipped
    search_at find_pitch_period chosen prev_period_better found coarse values_of skip find_pitch_period_in_range sweep better greater diffs
    samples_of samples_out skip_pitch_period overlap_add crossfade_to
    sample_in unit_clamped play_time_grown play_time_left local_speed speed_changes adjust_rate scaled clamped
    rates_of halved new_rate ceil_div sample_period narrow of_bits neg div round of_int to_unsigned to_signed le lt eq mul add sub
passing = record {
  stream = stream_for one 0 0 0 zero none;
  opens = opens;
  events = faster ∷ stalls ∷ switched-on ∷ passes ∷ [];
  allowed = (
    refl,
    (
      (
        record { input = refl; stage = refl; output = refl },
        record { input = refl; stage = refl; output = refl },
        record { answer = refl; input = refl; tail = refl; output = refl },
      ),
      (
        refl,
        (
          (
            record { input = refl; stage = refl; output = refl },
            record { input = refl; stage = refl; output = refl },
            record { answer = refl; input = refl; tail = refl; output = refl },
          ),
          tt,
        ),
      ),
    ),
  );
}

-- the ledger has the same totals
passing-totals : (ledger_of passing).state.balance ≡ record { skipped = 5; inserted = 0 }
unfolding passing faster stalls switched-on passes end opening Run.after after_setting after_call stream_of
passing-totals = sym (totals 1000 1 Smallest passing)
