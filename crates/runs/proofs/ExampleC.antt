-- Calls of C that there are, computed: 8,000 Hz, 1 channel, a setting, a refused write, a write that is copied, and a read. Their run, and
-- `ledger-claim` for it. No proof cites this file. Assumes nothing.
use mathlib.Core.Path.{◌≡◌, refl, ap, ◌∙◌}
use mathlib.Core.List.{List, [], ◌∷◌}
use Prim.Native.Nat.{ℕ}
use lib.IntN.{ℤ, pos}
use lib.Ieee.{Float, of_bits, neg, of_int, to_unsigned, to_signed, round, add, mul, div, lt, le, eq}
use lib.ListN.{replicate}
use Rattle.frames.specs.Areas.{Areas, areas}
use Rattle.frames.specs.Framing.{frames_of}
use Rattle.frames.specs.Clamp.{clamp_z}
use Rattle.floats.specs.Numbers.{zero, half, one, narrow}
use Rattle.floats.specs.Scales.{gain, new_rate}
use Rattle.floats.specs.Settings.{clamped, sample_period}
use Rattle.floats.specs.Write.{unit_clamped, sample_in, sample_out, play_time_grown, local_speed, speed_changes, play_time_left}
use Rattle.volume.specs.Volume.{amplified, scaled}
use Rattle.rate.specs.Halving.{halved, rates_of}
use Rattle.rate.specs.Tail.{start, ceil_div}
use Rattle.rate.specs.Conversion.{adjust_rate}
use Rattle.stretch.specs.Tally.{tally}
use Rattle.stretch.specs.Speed.{stalled}
use Rattle.search.specs.declared.Ties.TheVariants.{Smallest}
use Rattle.stream.specs.declared.refusal.Refusal.TheVariants.{InputFull}
use Rattle.stream.specs.declared.SonicStream.{SonicStream}
use Rattle.stream.specs.declared.Setting.TheVariants.{Volume}
use Rattle.stream.specs.Balance.{booked, past}
use Rattle.stream.specs.State.{with_settings}
use Rattle.stream.specs.Stream.{state_of, stream_of}
use Rattle.stream.specs.Refusals.{number_of, rate_bad, channels_bad, limits_in_order, period_in_order, settings_in_order, prev_in_order, positions_in_order}
use Rattle.stream.specs.Refusals.{is_in_order, sizes_bad, parts_bad, areas_bad, output_bad, stage_needed, refusal, read_refusal}
use Rattle.stream.specs.Settings.{fresh, with_setting, open_call, set_call}
use Rattle.fill.specs.declared.Outcome.TheVariants.{Copied}
use Rattle.fill.specs.Taking.{removed, nothing, copied, taken_at, taken, counted}
use Rattle.process.specs.Process.{whole_frames, joined, counting, finished, process, write_work}
use Rattle.adding.specs.Calls.{refused_call, accepted_call, write_call}
use Rattle.read.specs.Reading.{read_count, read_call}
use Rattle.sonic_c.specs.Answers.{outcome_number, opened_of, changed_of, told_of, wrote_of, gave_of}
use Rattle.runs.specs.Ledger.{begun, entry, posted, ledger_from, ledger}
use Rattle.runs.specs.Run.{opening, Agree, leave, after_setting, after_call, after_read, after, values, total, fed}
use Rattle.runs.specs.Demand.{last, ledger_of}
use Rattle.runs.specs.CCalls.{CEvent, c-setting-went, c-write-went, c-read-went, CRunOf, outcome_in, refusal_in, changed_in, wrote_in, gave_in, event_in}
use Rattle.runs.proofs.Claims.{ledger-claim}
use Rattle.runs.proofs.CCalls.{in_c}

-- with this volume and so many frames waiting, all else fresh
abbrev stream_for : Float → ℕ → SonicStream
stream_for volume waiting = stream_of (with_settings (fresh 8000 1 Smallest) one one volume 0 start) waiting

-- refusals and outcomes as numbers: 0 accepted, 1 copied
softer : CEvent
softer = c-setting-went (Volume half) (record { refusal = 0; stream = stream_for half 0 })

small : Areas
small = areas [] [] [] (replicate 246 (pos 0))

no_room : CEvent
no_room =
    c-write-went (one ∷ zero ∷ []) small (record { refusal = number_of InputFull; told = record { outcome = 0; passed = 0; sum = 0 }; stream = stream_for half 0 }) small

lent : List ℤ → Areas
lent output = areas (replicate 2 (pos 9)) (replicate 5 (pos 8)) output (replicate 246 (pos 6))

copies : CEvent
copies =
    c-write-went (one ∷ zero ∷ []) (lent (replicate 3 (pos 7))) (record { refusal = 0; told = record { outcome = 1; passed = 0; sum = 0 }; stream = stream_for half 2 })
    (lent (pos 16383 ∷ pos 0 ∷ pos 5 ∷ []))

takes_one : CEvent
takes_one =
    c-read-went 1 (record { slice = half ∷ half ∷ []; output = pos 16383 ∷ pos 0 ∷ [] })
    (record { refusal = 0; frames = record { 0 = 1 }; stream = stream_for half 1 })
    (record { slice = sample_out (pos 16383) ∷ half ∷ []; output = pos 0 ∷ pos 3 ∷ [] })

calls : CRunOf 8000 1 Smallest
unfolding softer no_room small copies lent takes_one opened_of changed_of wrote_of told_of gave_of outcome_number
    event_in changed_in wrote_in gave_in outcome_in refusal_in open_call
    opening after after_setting after_call after_read Agree leave
    set_call with_setting write_call refused_call accepted_call read_call read_count
    stage_needed refusal read_refusal past is_in_order limits_in_order period_in_order settings_in_order prev_in_order positions_in_order rate_bad channels_bad
    areas_bad sizes_bad parts_bad output_bad fresh stream_of state_of frames_of whole_frames
    write_work process counting counted stalled tally booked finished taken taken_at copied nothing joined removed adjust_rate
    sample_in sample_out unit_clamped play_time_grown play_time_left local_speed speed_changes gain scaled amplified clamp_z clamped
    rates_of halved new_rate ceil_div sample_period narrow of_bits neg div round of_int to_unsigned to_signed le lt eq mul add
calls = record {
  opened = record { refusal = 0; given = 0; stream = stream_for one 0 };
  opens = refl;
  accepts = refl;
  events = softer ∷ no_room ∷ copies ∷ takes_one ∷ [];
  allowed = (
    refl,
    (
      (
        record { input = refl; stage = refl; output = refl },
        record { input = refl; stage = refl; output = refl },
        record { answer = refl; input = refl; tail = refl; output = refl },
      ),
      (
        (
          record { input = refl; stage = refl; output = refl },
          record { input = refl; stage = refl; output = refl },
          record { answer = refl; input = refl; tail = refl; output = refl },
        ),
        (
          (refl, refl, record { answer = refl; given = refl; rest = refl; output = refl }),
          tt,
        ),
      ),
    ),
  );
}

-- ---- the ledger of their run, and what the claim says of it

ledger-is : ((ledger_of (in_c 8000 1 Smallest calls)).made ≡ (pos 16383 ∷ []) ∷ (pos 0 ∷ []) ∷ []) × ((ledger_of (in_c 8000 1 Smallest calls)).outcomes ≡ Copied ∷ [])
unfolding in_c calls softer no_room copies takes_one event_in changed_in wrote_in gave_in outcome_in refusal_in
    ledger ledger_from posted begun entry fed fresh with_setting frames_of whole_frames
    write_work process counting counted stalled tally booked finished taken taken_at copied nothing joined removed adjust_rate
    sample_in unit_clamped play_time_grown play_time_left local_speed speed_changes gain scaled amplified clamp_z clamped
    sample_period narrow of_bits neg div round of_int to_unsigned to_signed le lt eq mul add
ledger-is = (refl, refl)

read-and-waiting : (total (last (in_c 8000 1 Smallest calls)) ≡ (sample_out (pos 16383) ∷ []) ∷ (zero ∷ []) ∷ []) × ((last (in_c 8000 1 Smallest calls)).outcomes ≡ Copied ∷ [])
unfolding sample_out div round of_int
read-and-waiting =
    let claim = ledger-claim 8000 1 Smallest (in_c 8000 1 Smallest calls) in
    (claim.0 ∙ ap values ledger-is.0, claim.1 ∙ ledger-is.1)
