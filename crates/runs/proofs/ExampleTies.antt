-- A run with each choice of ties, computed: 1,000 Hz, 1 channel, speed 2, and a write of 30 frames with a pulse in frames 0, 1 and 5. The
-- periods 5 and 15 have the same least mean, 6,553.4. With the smallest 5 frames come out, and the sum told is 32,767; with the largest 15, and
-- 98,301. `ledger-claim` for both: the calls are the same, and what they give is not, since the choice is not. No proof cites this file.
-- Assumes nothing.
use Rattle.std.specs.Prelude.{Ok}
use mathlib.Core.Path.{◌≡◌, refl, ap, ◌∙◌}
use mathlib.Core.List.{List, [], ◌∷◌, ◌++◌}
use Prim.Native.Nat.{ℕ}
use lib.IntN.{ℤ, pos}
use lib.Ieee.{Float, binary32, of_bits, neg, of_int, to_unsigned, to_signed, round, add, sub, mul, div, lt, le, eq}
use lib.ListN.{take, replicate}
use Rattle.frames.specs.Areas.{Areas, areas}
use Rattle.frames.specs.Framing.{Frame, frames_of, flat}
use Rattle.frames.specs.Clamp.{clamp_z}
use Rattle.floats.specs.Numbers.{zero, one, two, narrow}
use Rattle.floats.specs.Scales.{new_rate}
use Rattle.floats.specs.Settings.{clamped, sample_period}
use Rattle.floats.specs.Write.{unit_clamped, sample_in, play_time_grown, local_speed, speed_changes, play_time_left}
use Rattle.floats.specs.Steps.{copying_due, skip_count, error_skipped}
use Rattle.search.specs.declared.Ties.{Ties}
use Rattle.search.specs.declared.Ties.TheVariants.{Smallest, Largest}
use Rattle.search.specs.Search.{diffs, better, greater, sweep, find_pitch_period_in_range}
use Rattle.period.specs.declared.PeriodRecord.{PeriodRecord}
use Rattle.period.specs.Rates.{skip}
use Rattle.period.specs.Pitch.{values_of, coarse, found, prev_period_better, chosen, find_pitch_period}
use Rattle.crossfade.specs.Crossfade.{crossfade_sample, crossfade_frame, crossfade_to, overlap_add, skip_pitch_period}
use Rattle.volume.specs.Volume.{scaled}
use Rattle.rate.specs.Halving.{halved, rates_of}
use Rattle.rate.specs.Tail.{start, ceil_div}
use Rattle.rate.specs.Conversion.{adjust_rate}
use Rattle.stretch.specs.Steps.{search_at, next_step, samples_out, prev_after, sum_after, error_after, place_after, after}
use Rattle.stretch.specs.Tally.{tally}
use Rattle.stretch.specs.Speed.{steps_in, steps, samples_of, last_place, stalled, answer_for}
use Rattle.stream.specs.declared.SonicStream.{SonicStream}
use Rattle.stream.specs.declared.Setting.TheVariants.{Speed}
use Rattle.stream.specs.Balance.{booked, past}
use Rattle.stream.specs.State.{State, with_settings, with_input, with_balance}
use Rattle.stream.specs.Stream.{state_of, stream_of}
use Rattle.stream.specs.Refusals.{rate_bad, channels_bad, limits_in_order, period_in_order, settings_in_order, prev_in_order, positions_in_order, is_in_order}
use Rattle.stream.specs.Refusals.{sizes_bad, parts_bad, areas_bad, stage_needed, refusal}
use Rattle.stream.specs.Settings.{fresh, with_setting, open_call, set_call}
use Rattle.fill.specs.declared.Outcome.TheVariants.{Stretched}
use Rattle.fill.specs.Taking.{removed, stepped, stretched, taken_at, taken, counted}
use Rattle.process.specs.Process.{whole_frames, joined, counting, finished, process, write_work}
use Rattle.adding.specs.Calls.{refused_call, accepted_call, write_call}
use Rattle.runs.specs.Ledger.{begun, entry, posted, ledger_from, ledger}
use Rattle.runs.specs.Run.{Event, setting-went, write-went, opening, Agree, leave, after_setting, after_call, values, total, fed}
use Rattle.runs.specs.Run as Run
use Rattle.runs.specs.Demand.{RunOf, last, ledger_of, unless_read, accepted_in, accepted_of}
use Rattle.runs.proofs.Claims.{ledger-claim}

-- ---- streams, areas and samples

-- opened with this choice, at this speed, with frames held, a period record, the play time of the frames held, and as many frames skipped as wait
abbrev stream_for : Ties → Float → ℕ → PeriodRecord → Float → ℕ → SonicStream
stream_for ties speed held prev play waiting =
    let set : State = with_settings (fresh 1000 1 ties) speed one one 0 start in
    stream_of (with_balance (with_input set (replicate held []) prev play zero) (record { skipped = waiting; inserted = 0 })) waiting

abbrev before : Ties → Float → SonicStream
before ties speed = stream_for ties speed 0 (record { period = 0; min_diff = 0 }) zero 0

lent : List ℤ → List ℤ → Areas
lent input output = areas (take 30 (input ++ replicate 30 (pos 9))) (replicate 15 (pos 8)) (take 15 (output ++ replicate 15 (pos 7))) (replicate 30 (pos 6))

pulses : List Float
pulses = one ∷ one ∷ replicate 3 zero ++ one ∷ replicate 24 zero

faster : Ties → Event
faster ties = setting-went (Speed two) (Ok (before ties two))

-- ---- the smallest: a period of 5 frames is skipped, and 20 frames stay held

abbrev five : List ℤ
five = pos 32767 ∷ pos 26213 ∷ replicate 3 (pos 0)

skips-five : Event
skips-five =
    write-went pulses (lent [] []) (Ok (record { told = record { outcome = Stretched; passed = 0; sum = 32767 }; stream = stream_for Smallest two 20 (record { period = 5; min_diff = 6553 }) (of_bits binary32 0x3c23d70b) 5 })) (lent (replicate 20 (pos 0)) five)

-- ---- the largest: one of 15 frames, and none stays

abbrev fifteen : List ℤ
fifteen = pos 32767 ∷ pos 30582 ∷ replicate 3 (pos 0) ++ pos 21844 ∷ replicate 9 (pos 0)

skips-fifteen : Event
skips-fifteen =
    write-went pulses (lent [] []) (Ok (record { told = record { outcome = Stretched; passed = 0; sum = 98301 }; stream = stream_for Largest two 0 (record { period = 15; min_diff = 6553 }) zero 15 })) (lent [] fifteen)

-- ---- both are runs

run_of : (ties : Ties) (e : Event) → open_call 1000 1 ties ≡ Ok (before ties one) → Run.Run (opening (before ties one)) (faster ties ∷ e ∷ [])
    → RunOf 1000 1 ties
run_of ties e opens allowed = record { stream = before ties one; opens = opens; events = faster ties ∷ e ∷ []; allowed = allowed }

both : RunOf 1000 1 Smallest × RunOf 1000 1 Largest
unfolding run_of faster skips-five skips-fifteen lent pulses
    open_call opening Run.after after_setting after_call Agree leave
    set_call with_setting write_call refused_call accepted_call
    stage_needed refusal past is_in_order limits_in_order period_in_order settings_in_order prev_in_order positions_in_order areas_bad sizes_bad parts_bad rate_bad channels_bad
    fresh stream_of state_of frames_of flat whole_frames
    write_work process counting counted stalled tally booked finished
    taken taken_at stretched stepped removed answer_for last_place joined
    steps steps_in next_step after place_after prev_after sum_after error_after copying_due skip_count error_skipped
    search_at find_pitch_period chosen prev_period_better found coarse values_of skip find_pitch_period_in_range sweep better greater diffs
    samples_of samples_out skip_pitch_period overlap_add crossfade_to crossfade_frame crossfade_sample
    sample_in unit_clamped play_time_grown play_time_left local_speed speed_changes adjust_rate scaled clamp_z clamped
    rates_of halved new_rate ceil_div sample_period narrow of_bits neg div round of_int to_unsigned to_signed le lt eq mul add sub
both = (
  run_of Smallest skips-five refl (
    refl,
    (
      (
        record { input = refl; stage = refl; output = refl },
        record { input = refl; stage = refl; output = refl },
        record { answer = refl; input = refl; tail = refl; output = refl },
      ),
      tt,
    ),
  ),
  run_of Largest skips-fifteen refl (
    refl,
    (
      (
        record { input = refl; stage = refl; output = refl },
        record { input = refl; stage = refl; output = refl },
        record { answer = refl; input = refl; tail = refl; output = refl },
      ),
      tt,
    ),
  ),
)

abbrev smallest : RunOf 1000 1 Smallest
smallest = both.0

abbrev largest : RunOf 1000 1 Largest
largest = both.1

-- ---- with the same calls, their ledgers made different frames, and so did they

same-accepted : accepted_of smallest ≡ accepted_of largest
unfolding both run_of faster skips-five skips-fifteen fed accepted_in unless_read
same-accepted = refl

ledgers : ((ledger_of smallest).made ≡ frames_of 1 5 five) × ((ledger_of largest).made ≡ frames_of 1 15 fifteen)
unfolding both run_of faster skips-five skips-fifteen pulses
    ledger ledger_from posted begun entry fed fresh with_setting frames_of flat whole_frames
    write_work process counting counted stalled tally booked finished
    taken taken_at stretched stepped removed answer_for last_place joined
    steps steps_in next_step after place_after prev_after sum_after error_after copying_due skip_count error_skipped
    search_at find_pitch_period chosen prev_period_better found coarse values_of skip find_pitch_period_in_range sweep better greater diffs
    samples_of samples_out skip_pitch_period overlap_add crossfade_to crossfade_frame crossfade_sample
    sample_in unit_clamped play_time_grown play_time_left local_speed speed_changes adjust_rate scaled clamp_z clamped
    sample_period narrow of_bits neg div round of_int to_unsigned to_signed le lt eq mul add sub
ledgers = (refl, refl)

totals : (total (last smallest) ≡ values (frames_of 1 5 five)) × (total (last largest) ≡ values (frames_of 1 15 fifteen))
totals = (
  (ledger-claim 1000 1 Smallest smallest).0 ∙ ap (λ (fs : List Frame). values fs) ledgers.0,
  (ledger-claim 1000 1 Largest largest).0 ∙ ap (λ (fs : List Frame). values fs) ledgers.1,
)
