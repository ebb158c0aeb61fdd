-- C-12: the editor's run, computed. 8,000 Hz, 1 channel: at speed and pitch 0.5 three frames are written, which stay in the tail; then speed and
-- pitch go back to 1, and four frames are written. The stage has four places: the tail or the frames, not both. In a second run its
-- areas are long, and before the write another is refused with 6, since its stage has three places; its output has none, and 6 comes
-- first. `ledger-claim` and `same-calls` for them. No proof cites this file. Assumes nothing.
use Rattle.std.specs.Prelude.{Ok, Err}
use mathlib.Core.Path.{◌≡◌, refl, ap, ◌∙◌}
use mathlib.Core.List.{List, [], ◌∷◌, ◌++◌}
use Prim.Native.Nat.{ℕ}
use lib.IntN.{ℤ, pos}
use lib.Ieee.{Float, of_bits, neg, of_int, to_unsigned, to_signed, round, add, mul, div, lt, le, eq}
use lib.ListN.{take, replicate}
use Rattle.frames.specs.Areas.{Areas, areas}
use Rattle.frames.specs.Framing.{Frame, frames_of}
use Rattle.frames.specs.Clamp.{clamp_z}
use Rattle.floats.specs.Numbers.{zero, half, one, narrow}
use Rattle.floats.specs.Scales.{new_rate}
use Rattle.floats.specs.Settings.{clamped, sample_period}
use Rattle.floats.specs.Write.{unit_clamped, sample_in, play_time_grown, local_speed, speed_changes, play_time_left}
use Rattle.volume.specs.Volume.{scaled}
use Rattle.rate.specs.Halving.{halved, rates_of}
use Rattle.rate.specs.Tail.{start, ceil_div, steps, scan}
use Rattle.rate.specs.Conversion.{convert, join_tail, adjust_rate}
use Rattle.stretch.specs.Tally.{tally}
use Rattle.stretch.specs.Speed.{stalled}
use Rattle.search.specs.declared.Ties.TheVariants.{Smallest}
use Rattle.stream.specs.declared.refusal.Refusal.TheVariants.{StageFull}
use Rattle.stream.specs.declared.SonicStream.{SonicStream}
use Rattle.stream.specs.declared.Setting.TheVariants.{Speed, Pitch}
use Rattle.stream.specs.Balance.{booked, past}
use Rattle.stream.specs.State.{with_settings, with_tail}
use Rattle.stream.specs.Stream.{state_of, stream_of}
use Rattle.stream.specs.Refusals.{rate_bad, channels_bad, limits_in_order, period_in_order, settings_in_order, prev_in_order, positions_in_order, is_in_order}
use Rattle.stream.specs.Refusals.{sizes_bad, parts_bad, areas_bad, stage_needed, refusal}
use Rattle.stream.specs.Settings.{fresh, with_setting, open_call, set_call}
use Rattle.fill.specs.declared.Told.{Told}
use Rattle.fill.specs.declared.Outcome.TheVariants.{Copied}
use Rattle.fill.specs.Taking.{removed, nothing, copied, taken_at, taken, counted}
use Rattle.process.specs.Process.{whole_frames, joined, counting, finished, process, write_work}
use Rattle.adding.specs.Calls.{refused_call, accepted_call, write_call}
use Rattle.runs.specs.Ledger.{begun, entry, posted, ledger_from, ledger}
use Rattle.runs.specs.Run.{Event, setting-went, write-went, opening, Agree, leave, after_setting, after_call, after, values, total, fed}
use Rattle.runs.specs.Demand.{RunOf, last, ledger_of, unless_read, accepted_in}
use Rattle.runs.proofs.Claims.{ledger-claim, same-calls}

-- at this speed and pitch, with so many frames in the tail and waiting, all else fresh
abbrev stream_for : Float → Float → ℕ → ℕ → SonicStream
stream_for speed pitch tail waiting = stream_of (with_tail (with_settings (fresh 8000 1 Smallest) speed pitch one 0 start) (replicate tail []) start) waiting

opens : open_call 8000 1 Smallest ≡ Ok (stream_for one one 0 0)
unfolding open_call rate_bad channels_bad fresh
opens = refl

-- a stage and an output of so many places, with other samples behind what they hold
lent : ℕ → List ℤ → ℕ → List ℤ → Areas
lent staged stage room output =
    areas (replicate 9 (pos 9)) (take staged (stage ++ replicate 9 (pos 8))) (take room (output ++ replicate 9 (pos 7))) (replicate 246 (pos 6))

abbrev copying : Told
copying = record { outcome = Copied; passed = 0; sum = 0 }

slower : Event
slower = setting-went (Speed half) (Ok (stream_for half one 0 0))

deeper : Event
deeper = setting-went (Pitch half) (Ok (stream_for half half 0 0))

faster : Event
faster = setting-went (Speed one) (Ok (stream_for one half 3 0))

higher : Event
higher = setting-went (Pitch one) (Ok (stream_for one one 3 0))

-- three frames, which stay in the tail: of twelve or fewer none is consumed
tail : List ℤ
tail = pos 32767 ∷ pos 0 ∷ pos 32767 ∷ []

lowered : Event
lowered = write-went (one ∷ zero ∷ one ∷ []) (lent 9 [] 9 []) (Ok (record { told = copying; stream = stream_for half half 3 0 })) (lent 9 tail 9 [])

-- four frames, which go straight out
samples : List Float
samples = zero ∷ one ∷ one ∷ zero ∷ []

made : List ℤ
made = pos 0 ∷ pos 32767 ∷ pos 32767 ∷ pos 0 ∷ []

-- with so many places in the stage
written : ℕ → Event
written staged = write-went samples (lent staged tail 9 []) (Ok (record { told = copying; stream = stream_for one one 3 4 })) (lent staged tail 9 made)

turned_down : Event
turned_down = write-went samples (lent 3 tail 0 []) (Err (record { refusal = StageFull; stream = stream_for one one 3 0 })) (lent 3 tail 0 [])

editor : RunOf 8000 1 Smallest
unfolding slower deeper faster higher lowered written lent tail samples made
    opening after after_setting after_call Agree leave
    set_call with_setting write_call refused_call accepted_call
    stage_needed refusal past is_in_order limits_in_order period_in_order settings_in_order prev_in_order positions_in_order areas_bad sizes_bad parts_bad rate_bad channels_bad
    fresh stream_of state_of frames_of whole_frames
    write_work process counting counted stalled tally booked finished taken taken_at copied nothing joined removed
    sample_in unit_clamped play_time_grown play_time_left local_speed speed_changes scaled clamp_z clamped
    adjust_rate join_tail convert scan steps
    rates_of halved new_rate ceil_div sample_period narrow of_bits neg div round of_int to_unsigned to_signed le lt eq mul add
editor = record {
  stream = stream_for one one 0 0;
  opens = opens;
  events = slower ∷ deeper ∷ lowered ∷ faster ∷ higher ∷ written 4 ∷ [];
  allowed = (
    refl,
    (
      refl,
      (
        (
          record { input = refl; stage = refl; output = refl },
          record { input = refl; stage = refl; output = refl },
          record { answer = refl; input = refl; tail = refl; output = refl },
        ),
        (
          refl,
          (
            refl,
            (
              (
                record { input = refl; stage = refl; output = refl },
                record { input = refl; stage = refl; output = refl },
                record { answer = refl; input = refl; tail = refl; output = refl },
              ),
              tt,
            ),
          ),
        ),
      ),
    ),
  );
}

roomy : RunOf 8000 1 Smallest
unfolding slower deeper faster higher lowered written turned_down lent tail samples made
    opening after after_setting after_call Agree leave
    set_call with_setting write_call refused_call accepted_call
    stage_needed refusal past is_in_order limits_in_order period_in_order settings_in_order prev_in_order positions_in_order areas_bad sizes_bad parts_bad rate_bad channels_bad
    fresh stream_of state_of frames_of whole_frames
    write_work process counting counted stalled tally booked finished taken taken_at copied nothing joined removed
    sample_in unit_clamped play_time_grown play_time_left local_speed speed_changes scaled clamp_z clamped
    adjust_rate join_tail convert scan steps
    rates_of halved new_rate ceil_div sample_period narrow of_bits neg div round of_int to_unsigned to_signed le lt eq mul add
roomy = record {
  stream = stream_for one one 0 0;
  opens = opens;
  events = slower ∷ deeper ∷ lowered ∷ faster ∷ higher ∷ turned_down ∷ written 9 ∷ [];
  allowed = (
    refl,
    (
      refl,
      (
        (
          record { input = refl; stage = refl; output = refl },
          record { input = refl; stage = refl; output = refl },
          record { answer = refl; input = refl; tail = refl; output = refl },
        ),
        (
          refl,
          (
            refl,
            (
              (
                record { input = refl; stage = refl; output = refl },
                record { input = refl; stage = refl; output = refl },
                record { answer = refl; input = refl; tail = refl; output = refl },
              ),
              (
                (
                  record { input = refl; stage = refl; output = refl },
                  record { input = refl; stage = refl; output = refl },
                  record { answer = refl; input = refl; tail = refl; output = refl },
                ),
                tt,
              ),
            ),
          ),
        ),
      ),
    ),
  );
}

-- ---- what the claims say of them

editor-ledger : (ledger_of editor).made ≡ frames_of 1 4 made
unfolding editor slower deeper lowered faster higher written made samples
    ledger ledger_from posted begun entry fed fresh with_setting frames_of whole_frames
    write_work process counting finished taken taken_at copied nothing joined removed
    sample_in unit_clamped play_time_grown play_time_left local_speed speed_changes scaled clamp_z clamped
    adjust_rate join_tail convert scan steps
    rates_of halved new_rate ceil_div sample_period narrow of_bits neg div round of_int to_unsigned to_signed le lt eq mul add
editor-ledger = refl

editor-total : total (last editor) ≡ values (frames_of 1 4 made)
editor-total = (ledger-claim 8000 1 Smallest editor).0 ∙ ap (λ (fs : List Frame). values fs) editor-ledger

roomy-same : (total (last editor) ≡ total (last roomy)) × ((last editor).outcomes ≡ (last roomy).outcomes)
unfolding editor roomy slower deeper lowered faster higher written turned_down fed accepted_in unless_read
roomy-same = same-calls 8000 1 Smallest editor roomy refl
