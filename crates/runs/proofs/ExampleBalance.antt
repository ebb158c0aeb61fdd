-- Two runs that there are, computed: 1,000 Hz, 1 channel, and 30 frames, a pulse in every fifth of them. One at speed 2 skips, and its flush skips
-- more; one at speed 0.5 inserts. `ledger-claim`, `balance`, `reconciled` and `totals` for them. No proof cites this file. Assumes nothing.
use Rattle.std.specs.Prelude.{Ok}
use mathlib.Core.Path.{◌≡◌, refl, sym, ap, ◌∙◌}
use mathlib.Core.List.{List, [], ◌∷◌, ◌++◌}
use Prim.Native.Nat.{ℕ, ◌+◌}
use lib.IntN.{ℤ, pos}
use lib.Ieee.{Float, binary32, of_bits, neg, of_int, to_unsigned, to_signed, round, add, sub, mul, div, lt, le, eq}
use lib.ListN.{take, replicate}
use Rattle.frames.specs.Areas.{Areas, areas}
use Rattle.frames.specs.Framing.{Frame, frames_of, flat}
use Rattle.frames.specs.Clamp.{clamp_z}
use Rattle.floats.specs.Numbers.{zero, half, one, two, narrow}
use Rattle.floats.specs.Scales.{new_rate}
use Rattle.floats.specs.Settings.{clamped, sample_period}
use Rattle.floats.specs.Write.{unit_clamped, sample_in, play_time_grown, local_speed, speed_changes, play_time_left}
use Rattle.floats.specs.Steps.{copying_due, skip_count, insert_count, error_skipped, error_inserted}
use Rattle.floats.specs.Flush.{expected_frames}
use Rattle.search.specs.Search.{diffs, better, greater, sweep, find_pitch_period_in_range}
use Rattle.period.specs.Rates.{skip}
use Rattle.period.specs.Pitch.{values_of, coarse, found, prev_period_better, chosen, find_pitch_period}
use Rattle.crossfade.specs.Crossfade.{crossfade_sample, crossfade_frame, crossfade_to, overlap_add}
use Rattle.crossfade.specs.Crossfade.{copy_unmodified_samples, skip_pitch_period, insert_pitch_period}
use Rattle.volume.specs.Volume.{scaled}
use Rattle.rate.specs.Halving.{halved, rates_of}
use Rattle.rate.specs.Tail.{start, ceil_div}
use Rattle.rate.specs.Conversion.{adjust_rate}
use Rattle.stretch.specs.Steps.{search_at, next_step, samples_out, prev_after, sum_after, error_after, place_after, after}
use Rattle.stretch.specs.Tally.{tally}
use Rattle.stretch.specs.Speed.{steps_in, steps, samples_of, last_place, stalled, answer_for}
use Rattle.search.specs.declared.Ties.TheVariants.{Smallest}
use Rattle.stream.specs.declared.SonicStream.{SonicStream}
use Rattle.stream.specs.declared.balance.Balance.{Balance}
use Rattle.stream.specs.declared.Setting.TheVariants.{Speed}
use Rattle.stream.specs.Balance.{none, booked, past}
use Rattle.stream.specs.State.{State, with_settings, with_input, with_balance}
use Rattle.stream.specs.Stream.{state_of, stream_of}
use Rattle.stream.specs.Refusals.{rate_bad, channels_bad, limits_in_order, period_in_order, settings_in_order, prev_in_order, positions_in_order, is_in_order}
use Rattle.stream.specs.Refusals.{sizes_bad, parts_bad, areas_bad, stage_needed, refusal}
use Rattle.stream.specs.Settings.{fresh, with_setting, open_call, set_call}
use Rattle.fill.specs.declared.Told.{Told}
use Rattle.fill.specs.declared.Outcome.TheVariants.{Stretched}
use Rattle.fill.specs.Taking.{removed, stepped, stretched, taken_at, taken, counted}
use Rattle.process.specs.Process.{whole_frames, joined, counting, finished, process, write_work, flush_work, expected, cleared}
use Rattle.adding.specs.Calls.{refused_call, accepted_call, write_call, flush_call}
use Rattle.runs.specs.Ledger.{begun, entry, posted, ledger_from, ledger}
use Rattle.runs.specs.Run.{Event, setting-went, write-went, flush-went, opening, Agree, leave, after_setting, after_call, end, values, total, fed}
use Rattle.runs.specs.Run as Run
use Rattle.runs.specs.Demand.{RunOf, last, ledger_of, unless_read, accepted_in, frames_in}
use Rattle.runs.specs.Balance.{steps_of, steps_from, silent_in, cleared_by, cleared_from, tally_of}
use Rattle.runs.proofs.Claims.{ledger-claim}
use Rattle.runs.proofs.Balanced.{totals, balance, reconciled}

-- ---- streams, areas and samples

-- at this speed, with frames held, a period found, the play time of the frames held, totals and frames waiting, all else fresh
abbrev stream_for : Float → ℕ → ℕ → Float → Balance → ℕ → SonicStream
stream_for speed held period play balance waiting =
    let set : State = with_settings (fresh 1000 1 Smallest) speed one one 0 start in
    stream_of (with_balance (with_input set (replicate held []) (record { period = period; min_diff = 0 }) play zero) balance) waiting

opens : open_call 1000 1 Smallest ≡ Ok (stream_for one 0 0 zero none 0)
unfolding open_call rate_bad channels_bad fresh
opens = refl

-- areas with other samples behind what they hold
lent : List ℤ → List ℤ → Areas
lent input output =
    areas (take 80 (input ++ replicate 80 (pos 9))) (replicate 26 (pos 8)) (take 31 (output ++ replicate 31 (pos 7))) (replicate 30 (pos 6))

-- a pulse and four silent frames, as they are written and as they are held
pulse : List Float
pulse = one ∷ replicate 4 zero

six : List Float
six = pulse ++ pulse ++ pulse ++ pulse ++ pulse ++ pulse

abbrev held : List ℤ
held = pos 32767 ∷ replicate 4 (pos 0)

abbrev stretching : Told
stretching = record { outcome = Stretched; passed = 0; sum = 0 }

-- ---- speed 2: the write skips one period of 5 frames, the flush two of them and eight of 2 frames in the silence

faster : Event
faster = setting-went (Speed two) (Ok (stream_for two 0 0 zero none 0))

skips : Event
skips =
    write-went six (lent [] []) (Ok (record { told = stretching; stream = stream_for two 20 5 (of_bits binary32 0x3c23d70b) (record { skipped = 5; inserted = 0 }) 5 }))
    (lent (held ++ held ++ held ++ held) held)

flushes : Event
flushes =
    flush-went (lent (held ++ held ++ held ++ held) held)
    (Ok (record { told = stretching; stream = stream_for two 0 2 zero (record { skipped = 31; inserted = 0 }) 15 })) (lent [] (held ++ held ++ held))

skipping : RunOf 1000 1 Smallest
unfolding faster skips flushes lent pulse six
    opening Run.after after_setting after_call Agree leave
    set_call with_setting write_call flush_call refused_call accepted_call
    stage_needed refusal past is_in_order limits_in_order period_in_order settings_in_order prev_in_order positions_in_order areas_bad sizes_bad parts_bad rate_bad channels_bad
    fresh stream_of state_of frames_of flat whole_frames
    write_work flush_work process counting counted stalled tally booked finished expected expected_frames cleared
    taken taken_at stretched stepped removed answer_for last_place joined
    steps steps_in next_step after place_after prev_after sum_after error_after copying_due skip_count error_skipped
    search_at find_pitch_period chosen prev_period_better found coarse values_of skip find_pitch_period_in_range sweep better greater diffs
    samples_of samples_out skip_pitch_period overlap_add crossfade_to crossfade_frame crossfade_sample
    sample_in unit_clamped play_time_grown play_time_left local_speed speed_changes adjust_rate scaled clamp_z clamped
    rates_of halved new_rate ceil_div sample_period narrow of_bits neg div round of_int to_unsigned to_signed le lt eq mul add sub
skipping = record {
  stream = stream_for one 0 0 zero none 0;
  opens = opens;
  events = faster ∷ skips ∷ flushes ∷ [];
  allowed = (
    refl,
    (
      (
        record { input = refl; stage = refl; output = refl },
        record { input = refl; stage = refl; output = refl },
        record { answer = refl; input = refl; tail = refl; output = refl },
      ),
      (
        (
          record { input = refl; stage = refl; output = refl },
          record { input = refl; stage = refl; output = refl },
          record { answer = refl; input = refl; tail = refl; output = refl },
        ),
        tt,
      ),
    ),
  );
}

-- its ledger: of the frames that the flush makes the first 10 are kept
skipping-ledger : ((ledger_of skipping).made ≡ frames_of 1 15 (held ++ held ++ held)) × ((ledger_of skipping).outcomes ≡ Stretched ∷ Stretched ∷ [])
unfolding skipping faster skips flushes pulse six
    ledger ledger_from posted begun entry fed fresh with_setting frames_of flat whole_frames
    write_work flush_work process counting counted stalled tally booked finished expected expected_frames cleared
    taken taken_at stretched stepped removed answer_for last_place joined
    steps steps_in next_step after place_after prev_after sum_after error_after copying_due skip_count error_skipped
    search_at find_pitch_period chosen prev_period_better found coarse values_of skip find_pitch_period_in_range sweep better greater diffs
    samples_of samples_out skip_pitch_period overlap_add crossfade_to crossfade_frame crossfade_sample
    sample_in unit_clamped play_time_grown play_time_left local_speed speed_changes adjust_rate scaled clamp_z clamped
    sample_period narrow of_bits neg div round of_int to_unsigned to_signed le lt eq mul add sub
skipping-ledger = (refl, refl)

-- what demand 3 says of it
skipping-total : (total (last skipping) ≡ values (frames_of 1 15 (held ++ held ++ held))) × ((last skipping).outcomes ≡ Stretched ∷ Stretched ∷ [])
skipping-total = (
  (ledger-claim 1000 1 Smallest skipping).0 ∙ ap (λ (fs : List Frame). values fs) skipping-ledger.0,
  (ledger-claim 1000 1 Smallest skipping).1 ∙ skipping-ledger.1,
)

-- its steps, added up
skipping-tally : tally_of skipping ≡ record { out = 31; used = 62; skipped = 31; inserted = 0; passed = 0 }
unfolding skipping faster skips flushes pulse six
    fed accepted_in unless_read steps_from steps_of begun entry with_setting fresh frames_of flat whole_frames
    write_work flush_work process counting counted stalled tally booked finished cleared
    taken taken_at stretched stepped removed answer_for last_place joined
    steps steps_in next_step after place_after prev_after sum_after error_after copying_due skip_count error_skipped
    search_at find_pitch_period chosen prev_period_better found coarse values_of skip find_pitch_period_in_range sweep better greater diffs
    sample_in unit_clamped play_time_grown play_time_left local_speed speed_changes adjust_rate clamped
    sample_period narrow of_bits neg div round of_int to_unsigned to_signed le lt eq mul add sub
skipping-tally = refl

-- the totals of the stream: skipped 31, inserted 0
skipping-balance : (tally_of skipping).out + 31 ≡ (tally_of skipping).used + 0
unfolding skipping faster skips flushes end opening Run.after after_setting after_call stream_of
skipping-balance = balance 1000 1 Smallest skipping (tt, (tt, tt))

-- 30 frames written and 60 silent ones, none held, 28 cleared
skipping-reconciled : 30 + 60 ≡ (tally_of skipping).used + 0 + 28
unfolding skipping faster skips flushes pulse six end opening Run.after after_setting after_call stream_of frames_in silent_in cleared_from cleared_by
    fed accepted_in unless_read steps_from steps_of begun entry with_setting fresh frames_of flat whole_frames
    write_work flush_work process counting counted stalled tally booked finished cleared
    taken taken_at stretched stepped removed answer_for last_place joined
    steps steps_in next_step after place_after prev_after sum_after error_after copying_due skip_count error_skipped
    search_at find_pitch_period chosen prev_period_better found coarse values_of skip find_pitch_period_in_range sweep better greater diffs
    sample_in unit_clamped play_time_grown play_time_left local_speed speed_changes adjust_rate clamped
    sample_period narrow of_bits neg div round of_int to_unsigned to_signed le lt eq mul add sub
skipping-reconciled = reconciled 1000 1 Smallest skipping (tt, (tt, tt))

-- the ledger has the same totals
skipping-totals : (ledger_of skipping).state.balance ≡ record { skipped = 31; inserted = 0 }
unfolding skipping faster skips flushes end opening Run.after after_setting after_call stream_of
skipping-totals = sym (totals 1000 1 Smallest skipping)

-- ---- speed 0.5: the write inserts one period of 5 frames

slower : Event
slower = setting-went (Speed half) (Ok (stream_for half 0 0 zero none 0))

inserts : Event
inserts =
    write-went six (lent [] []) (Ok (record { told = stretching; stream = stream_for half 25 5 (of_bits binary32 0x3d4ccccd) (record { skipped = 0; inserted = 5 }) 10 }))
    (lent (held ++ held ++ held ++ held ++ held) (held ++ held))

inserting : RunOf 1000 1 Smallest
unfolding slower inserts lent pulse six
    opening Run.after after_setting after_call Agree leave
    set_call with_setting write_call refused_call accepted_call
    stage_needed refusal past is_in_order limits_in_order period_in_order settings_in_order prev_in_order positions_in_order areas_bad sizes_bad parts_bad rate_bad channels_bad
    fresh stream_of state_of frames_of flat whole_frames
    write_work process counting counted stalled tally booked finished taken taken_at stretched stepped removed answer_for last_place joined
    steps steps_in next_step after place_after prev_after sum_after error_after copying_due insert_count error_inserted
    search_at find_pitch_period chosen prev_period_better found coarse values_of skip find_pitch_period_in_range sweep better greater diffs
    samples_of samples_out insert_pitch_period copy_unmodified_samples overlap_add crossfade_to crossfade_frame crossfade_sample
    sample_in unit_clamped play_time_grown play_time_left local_speed speed_changes adjust_rate scaled clamp_z clamped
    rates_of halved new_rate ceil_div sample_period narrow of_bits neg div round of_int to_unsigned to_signed le lt eq mul add sub
inserting = record {
  stream = stream_for one 0 0 zero none 0;
  opens = opens;
  events = slower ∷ inserts ∷ [];
  allowed = (
    refl,
    (
      (
        record { input = refl; stage = refl; output = refl },
        record { input = refl; stage = refl; output = refl },
        record { answer = refl; input = refl; tail = refl; output = refl },
      ),
      tt,
    ),
  );
}

inserting-tally : tally_of inserting ≡ record { out = 10; used = 5; skipped = 0; inserted = 5; passed = 0 }
unfolding inserting slower inserts pulse six
    fed accepted_in unless_read steps_from steps_of begun entry with_setting fresh frames_of flat whole_frames
    write_work process tally finished taken taken_at stretched joined
    steps steps_in next_step after place_after copying_due insert_count
    search_at find_pitch_period chosen prev_period_better found coarse values_of skip find_pitch_period_in_range sweep better greater diffs
    sample_in unit_clamped play_time_grown local_speed speed_changes clamped
    sample_period narrow of_bits neg div round of_int to_unsigned to_signed le lt eq mul add sub
inserting-tally = refl

-- the totals of the stream: skipped 0, inserted 5
inserting-balance : (tally_of inserting).out + 0 ≡ (tally_of inserting).used + 5
unfolding inserting slower inserts end opening Run.after after_setting after_call stream_of
inserting-balance = balance 1000 1 Smallest inserting (tt, tt)

-- 30 frames written, 25 of them held, none cleared
inserting-reconciled : 30 + 0 ≡ (tally_of inserting).used + 25 + 0
unfolding inserting slower inserts pulse six end opening Run.after after_setting after_call stream_of
    fed accepted_in unless_read frames_in silent_in cleared_from cleared_by whole_frames frames_of
inserting-reconciled = reconciled 1000 1 Smallest inserting (tt, tt)

inserting-totals : (ledger_of inserting).state.balance ≡ record { skipped = 0; inserted = 5 }
unfolding inserting slower inserts end opening Run.after after_setting after_call stream_of
inserting-totals = sym (totals 1000 1 Smallest inserting)
