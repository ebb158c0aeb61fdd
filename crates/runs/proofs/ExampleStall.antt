-- Two runs that there are, computed: 1,000 Hz, 1 channel, speed 5, and 36 frames: six pulses, one in every fifth frame, and six silent frames.
-- The first period, of 5 frames, gives 1 frame; the second, of 2, gives none: the write stalls, its frame goes on, and no input is removed. An
-- empty write makes the frame again and stalls again. In one run the first frame is read in between; in the other a write is refused there, as
-- its frames do not fit behind those held. `ledger-claim` and `same-calls` for them. No proof cites this file. Assumes nothing.
use Rattle.std.specs.Prelude.{Ok, Err}
use mathlib.Core.Path.{◌≡◌, refl, ap, ◌∙◌}
use mathlib.Core.List.{List, [], ◌∷◌, ◌++◌}
use Prim.Native.Nat.{ℕ}
use lib.IntN.{ℤ, pos}
use lib.Ieee.{Float, binary32, of_bits, neg, of_int, to_unsigned, to_signed, round, add, sub, mul, div, lt, le, eq}
use lib.ListN.{take, replicate}
use Rattle.frames.specs.Areas.{Areas, areas}
use Rattle.frames.specs.Framing.{Frame, frames_of, flat}
use Rattle.floats.specs.Numbers.{zero, one, narrow}
use Rattle.floats.specs.Scales.{new_rate}
use Rattle.floats.specs.Settings.{clamped, sample_period}
use Rattle.floats.specs.Write.{unit_clamped, sample_in, sample_out, play_time_grown, local_speed, speed_changes}
use Rattle.floats.specs.Steps.{copying_due, skip_count, error_skipped}
use Rattle.search.specs.Search.{diffs, better, greater, sweep, find_pitch_period_in_range}
use Rattle.period.specs.Rates.{skip}
use Rattle.period.specs.Pitch.{values_of, coarse, found, prev_period_better, chosen, find_pitch_period}
use Rattle.crossfade.specs.Crossfade.{crossfade_sample, crossfade_frame, crossfade_to, overlap_add, skip_pitch_period}
use Rattle.volume.specs.Volume.{scaled}
use Rattle.rate.specs.Halving.{halved, rates_of}
use Rattle.rate.specs.Tail.{start, ceil_div}
use Rattle.rate.specs.Conversion.{adjust_rate}
use Rattle.stretch.specs.Steps.{search_at, next_step, samples_out, prev_after, sum_after, error_after, place_after, after}
use Rattle.stretch.specs.Tally.{tally}
use Rattle.stretch.specs.Speed.{steps_in, steps, samples_of, last_place, stalled, answer_for}
use Rattle.search.specs.declared.Ties.TheVariants.{Smallest}
use Rattle.stream.specs.declared.refusal.Refusal.TheVariants.{InputFull}
use Rattle.stream.specs.declared.SonicStream.{SonicStream}
use Rattle.stream.specs.declared.Setting.TheVariants.{Speed}
use Rattle.stream.specs.Balance.{booked, past}
use Rattle.stream.specs.State.{State, with_settings, with_input}
use Rattle.stream.specs.Stream.{state_of, stream_of}
use Rattle.stream.specs.Refusals.{rate_bad, channels_bad, limits_in_order, period_in_order, settings_in_order, prev_in_order, positions_in_order, is_in_order}
use Rattle.stream.specs.Refusals.{sizes_bad, parts_bad, areas_bad, output_bad, stage_needed, refusal, read_refusal}
use Rattle.stream.specs.Settings.{fresh, with_setting, open_call, set_call}
use Rattle.fill.specs.declared.Told.{Told}
use Rattle.fill.specs.declared.Outcome.TheVariants.{Stalled}
use Rattle.fill.specs.Taking.{stepped, stretched, taken_at, taken, counted}
use Rattle.process.specs.Process.{whole_frames, joined, counting, finished, process, write_work}
use Rattle.adding.specs.Calls.{refused_call, accepted_call, write_call}
use Rattle.read.specs.Reading.{read_count, read_call}
use Rattle.runs.specs.Ledger.{begun, entry, posted, ledger_from, ledger}
use Rattle.runs.specs.Run.{Event, setting-went, write-went, read-went, opening, Agree, leave}
use Rattle.runs.specs.Run.{after_setting, after_call, after_read, values, total, fed}
use Rattle.runs.specs.Run as Run
use Rattle.runs.specs.Demand.{RunOf, last, ledger_of, unless_read, accepted_in}
use Rattle.runs.proofs.Claims.{ledger-claim, same-calls}

-- at this speed, with frames held, a period found, the play time of the frames held, and frames waiting, all else fresh
abbrev stream_for : Float → ℕ → ℕ → Float → ℕ → SonicStream
stream_for speed held period play waiting =
    let set : State = with_settings (fresh 1000 1 Smallest) speed one one 0 start in
    stream_of (with_input set (replicate held []) (record { period = period; min_diff = 0 }) play zero) waiting

opens : open_call 1000 1 Smallest ≡ Ok (stream_for one 0 0 zero 0)
unfolding open_call rate_bad channels_bad fresh
opens = refl

-- areas with other samples behind what they hold
lent : List ℤ → List ℤ → Areas
lent input output =
    areas (take 40 (input ++ replicate 40 (pos 9))) (replicate 2 (pos 8)) (take 2 (output ++ replicate 2 (pos 7))) (replicate 30 (pos 6))

-- a pulse and four silent frames, as they are written and as they are held
pulse : List Float
pulse = one ∷ replicate 4 zero

samples : List Float
samples = pulse ++ pulse ++ pulse ++ pulse ++ pulse ++ pulse ++ replicate 6 zero

abbrev held-pulse : List ℤ
held-pulse = pos 32767 ∷ replicate 4 (pos 0)

held : List ℤ
held = held-pulse ++ held-pulse ++ held-pulse ++ held-pulse ++ held-pulse ++ held-pulse ++ replicate 6 (pos 0)

abbrev five : Float
five = of_bits binary32 0x40a00000

-- the play time of the 36 frames
abbrev play : Float
play = of_bits binary32 0x3bebedfb

abbrev stalling : Told
stalling = record { outcome = Stalled; passed = 0; sum = 0 }

faster : Event
faster = setting-went (Speed five) (Ok (stream_for five 0 0 zero 0))

stalls : Event
stalls = write-went samples (lent [] []) (Ok (record { told = stalling; stream = stream_for five 36 2 play 1 })) (lent held (pos 32767 ∷ []))

takes : Event
takes =
    read-went 9 (record { slice = zero ∷ zero ∷ []; output = pos 32767 ∷ [] }) (Ok (record { frames = record { 0 = 1 }; stream = stream_for five 36 2 play 0 }))
    (record { slice = one ∷ zero ∷ []; output = pos 5 ∷ [] })

stalls-again : Event
stalls-again = write-went [] (lent held []) (Ok (record { told = stalling; stream = stream_for five 36 2 play 1 })) (lent held (pos 32767 ∷ []))

no_room : Event
no_room = write-went samples (lent held (pos 32767 ∷ [])) (Err (record { refusal = InputFull; stream = stream_for five 36 2 play 1 })) (lent held (pos 32767 ∷ []))

stalls-unread : Event
stalls-unread =
    write-went [] (lent held (pos 32767 ∷ [])) (Ok (record { told = stalling; stream = stream_for five 36 2 play 2 })) (lent held (pos 32767 ∷ pos 32767 ∷ []))

stalled-run : RunOf 1000 1 Smallest
unfolding faster stalls takes stalls-again lent pulse samples held
    opening Run.after after_setting after_call after_read Agree leave
    set_call with_setting write_call refused_call accepted_call read_call read_count
    stage_needed refusal read_refusal past is_in_order limits_in_order period_in_order settings_in_order prev_in_order positions_in_order rate_bad channels_bad
    areas_bad sizes_bad parts_bad output_bad fresh stream_of state_of frames_of flat whole_frames
    write_work process counting counted stalled tally booked finished
    taken taken_at stretched stepped answer_for last_place joined
    steps steps_in next_step after place_after prev_after sum_after error_after copying_due skip_count error_skipped
    search_at find_pitch_period chosen prev_period_better found coarse values_of skip find_pitch_period_in_range sweep better greater diffs
    samples_of samples_out skip_pitch_period overlap_add crossfade_to crossfade_frame crossfade_sample
    sample_in sample_out unit_clamped play_time_grown local_speed speed_changes adjust_rate scaled clamped
    rates_of halved new_rate ceil_div sample_period narrow of_bits neg div round of_int to_unsigned to_signed le lt eq mul add sub
stalled-run = record {
  stream = stream_for one 0 0 zero 0;
  opens = opens;
  events = faster ∷ stalls ∷ takes ∷ stalls-again ∷ [];
  allowed = (
    refl,
    (
      (
        record { input = refl; stage = refl; output = refl },
        record { input = refl; stage = refl; output = refl },
        record { answer = refl; input = refl; tail = refl; output = refl },
      ),
      (
        (refl, refl, record { answer = refl; given = refl; rest = refl; output = refl }),
        (
          (
            record { input = refl; stage = refl; output = refl },
            record { input = refl; stage = refl; output = refl },
            record { answer = refl; input = refl; tail = refl; output = refl },
          ),
          tt,
        ),
      ),
    ),
  );
}

unread : RunOf 1000 1 Smallest
unfolding faster stalls no_room stalls-unread lent pulse samples held
    opening Run.after after_setting after_call Agree leave
    set_call with_setting write_call refused_call accepted_call
    stage_needed refusal past is_in_order limits_in_order period_in_order settings_in_order prev_in_order positions_in_order rate_bad channels_bad
    areas_bad sizes_bad parts_bad fresh stream_of state_of frames_of flat whole_frames
    write_work process counting counted stalled tally booked finished
    taken taken_at stretched stepped answer_for last_place joined
    steps steps_in next_step after place_after prev_after sum_after error_after copying_due skip_count error_skipped
    search_at find_pitch_period chosen prev_period_better found coarse values_of skip find_pitch_period_in_range sweep better greater diffs
    samples_of samples_out skip_pitch_period overlap_add crossfade_to crossfade_frame crossfade_sample
    sample_in unit_clamped play_time_grown local_speed speed_changes adjust_rate scaled clamped
    rates_of halved new_rate ceil_div sample_period narrow of_bits neg div round of_int to_unsigned to_signed le lt eq mul add sub
unread = record {
  stream = stream_for one 0 0 zero 0;
  opens = opens;
  events = faster ∷ stalls ∷ no_room ∷ stalls-unread ∷ [];
  allowed = (
    refl,
    (
      (
        record { input = refl; stage = refl; output = refl },
        record { input = refl; stage = refl; output = refl },
        record { answer = refl; input = refl; tail = refl; output = refl },
      ),
      (
        (
          record { input = refl; stage = refl; output = refl },
          record { input = refl; stage = refl; output = refl },
          record { answer = refl; input = refl; tail = refl; output = refl },
        ),
        (
          (
            record { input = refl; stage = refl; output = refl },
            record { input = refl; stage = refl; output = refl },
            record { answer = refl; input = refl; tail = refl; output = refl },
          ),
          tt,
        ),
      ),
    ),
  );
}

-- ---- the ledger of the first, and what the claims say

stalled-ledger : ((ledger_of stalled-run).made ≡ (pos 32767 ∷ []) ∷ (pos 32767 ∷ []) ∷ [])
    × ((ledger_of stalled-run).outcomes ≡ Stalled ∷ Stalled ∷ [])
unfolding stalled-run faster stalls takes stalls-again pulse samples
    ledger ledger_from posted begun entry fed fresh with_setting frames_of flat whole_frames
    write_work process counting counted stalled tally booked finished
    taken taken_at stretched stepped answer_for last_place joined
    steps steps_in next_step after place_after prev_after sum_after error_after copying_due skip_count error_skipped
    search_at find_pitch_period chosen prev_period_better found coarse values_of skip find_pitch_period_in_range sweep better greater diffs
    samples_of samples_out skip_pitch_period overlap_add crossfade_to crossfade_frame crossfade_sample
    sample_in unit_clamped play_time_grown local_speed speed_changes adjust_rate scaled clamped
    sample_period narrow of_bits neg div round of_int to_unsigned to_signed le lt eq mul add sub
stalled-ledger = (refl, refl)

stalled-total : (total (last stalled-run) ≡ (one ∷ []) ∷ (one ∷ []) ∷ []) × ((last stalled-run).outcomes ≡ Stalled ∷ Stalled ∷ [])
unfolding sample_out div round of_int
stalled-total = (
  (ledger-claim 1000 1 Smallest stalled-run).0 ∙ ap (λ (fs : List Frame). values fs) stalled-ledger.0,
  (ledger-claim 1000 1 Smallest stalled-run).1 ∙ stalled-ledger.1,
)

-- both have the same accepted settings, writes and flushes
unread-same : (total (last stalled-run) ≡ total (last unread)) × ((last stalled-run).outcomes ≡ (last unread).outcomes)
unfolding stalled-run unread faster stalls takes stalls-again no_room stalls-unread fed accepted_in unless_read
unread-same = same-calls 1000 1 Smallest stalled-run unread refl
