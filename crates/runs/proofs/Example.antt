-- A run that there is, computed: 8,000 Hz, 1 channel, with a refused write, accepted writes in areas of other lengths with other leftovers,
-- a setting, a flush, and reads, one of them refused. Its ledger, and `ledger-claim` for it. No proof cites this file. Assumes nothing.
use Rattle.std.specs.Prelude.{Ok, Err}
use mathlib.Core.Path.{◌≡◌, refl, ap, ◌∙◌}
use mathlib.Core.List.{List, [], ◌∷◌}
use Prim.Native.Nat.{ℕ}
use lib.IntN.{ℤ, pos}
use lib.Ieee.{Float, of_bits, neg, of_int, to_unsigned, to_signed, round, add, mul, div, lt, le, eq}
use lib.ListN.{replicate}
use Rattle.frames.specs.Areas.{Areas, areas}
use Rattle.frames.specs.Framing.{frames_of}
use Rattle.frames.specs.Clamp.{clamp_z}
use Rattle.floats.specs.Numbers.{zero, half, one, narrow}
use Rattle.floats.specs.Scales.{gain, new_rate}
use Rattle.floats.specs.Settings.{clamped, sample_period}
use Rattle.floats.specs.Write.{unit_clamped, sample_in, sample_out, play_time_grown, local_speed, speed_changes, play_time_left}
use Rattle.floats.specs.Flush.{expected_frames}
use Rattle.volume.specs.Volume.{amplified, scaled}
use Rattle.rate.specs.Halving.{halved, rates_of}
use Rattle.rate.specs.Tail.{start, ceil_div}
use Rattle.rate.specs.Conversion.{adjust_rate}
use Rattle.stretch.specs.Tally.{tally}
use Rattle.stretch.specs.Speed.{stalled}
use Rattle.search.specs.declared.Ties.TheVariants.{Smallest}
use Rattle.stream.specs.declared.refusal.Refusal.TheVariants.{BadAreas, InputFull}
use Rattle.stream.specs.declared.SonicStream.{SonicStream}
use Rattle.stream.specs.declared.Setting.TheVariants.{Volume}
use Rattle.stream.specs.Balance.{none, booked, past}
use Rattle.stream.specs.State.{with_settings}
use Rattle.stream.specs.Stream.{state_of, stream_of}
use Rattle.stream.specs.Refusals.{rate_bad, channels_bad, limits_in_order, period_in_order, settings_in_order, prev_in_order, positions_in_order}
use Rattle.stream.specs.Refusals.{is_in_order, sizes_bad, parts_bad, areas_bad, output_bad, stage_needed, refusal, read_refusal}
use Rattle.stream.specs.Settings.{fresh, with_setting, open_call, set_call}
use Rattle.fill.specs.declared.Told.{Told}
use Rattle.fill.specs.declared.Outcome.TheVariants.{Copied}
use Rattle.fill.specs.Taking.{removed, nothing, copied, taken_at, taken, counted}
use Rattle.process.specs.Process.{whole_frames, joined, counting, finished, process, write_work, flush_work, expected, cleared}
use Rattle.adding.specs.Calls.{refused_call, accepted_call, write_call, flush_call}
use Rattle.read.specs.Reading.{read_count, read_call}
use Rattle.runs.specs.Ledger.{Ledger, begun, entry, posted, ledger_from, ledger}
use Rattle.runs.specs.Run.{ReadAreas, Event, setting-went, write-went, flush-went, read-went, opening, Agree, leave}
use Rattle.runs.specs.Run.{after_setting, after_call, after_read, after, values, total, fed}
use Rattle.runs.specs.Demand.{RunOf, last, ledger_of}
use Rattle.runs.proofs.Claims.{ledger-claim}

-- ---- streams

-- with this volume and so many frames waiting, all else fresh
abbrev stream_for : Float → ℕ → SonicStream
stream_for volume waiting = stream_of (with_settings (fresh 8000 1 Smallest) one one volume 0 start) waiting

opens : open_call 8000 1 Smallest ≡ Ok (stream_for one 0)
unfolding open_call rate_bad channels_bad fresh
opens = refl

-- ---- calls

-- what each of its accepted writes and flushes tells
abbrev copying : Told
copying = record { outcome = Copied; passed = 0; sum = 0 }

samples : List Float
samples = one ∷ zero ∷ []

-- no room: refused with 5
small : Areas
small = areas [] [] [] (replicate 246 (pos 0))

no_room : Event
no_room = write-went samples small (Err (record { refusal = InputFull; stream = stream_for one 0 })) small

-- with something in them already
fair : Areas
fair = areas (replicate 2 (pos 9)) (replicate 5 (pos 8)) (replicate 6 (pos 7)) (replicate 300 (pos 6))

fair-left : Areas
fair-left = areas (replicate 2 (pos 1)) (replicate 5 (pos 2)) (pos 32767 ∷ pos 0 ∷ replicate 4 (pos 3)) (replicate 300 (pos 4))

copies : Event
copies = write-went samples fair (Ok (record { told = copying; stream = stream_for one 2 })) fair-left

softer : Event
softer = setting-went (Volume half) (Ok (stream_for half 2))

-- an output area that does not reach over the frames waiting: refused with 4
short : ReadAreas
short = record { slice = zero ∷ []; output = pos 32767 ∷ [] }

too_short : Event
too_short = read-went 1 short (Err (record { refusal = BadAreas; stream = stream_for half 2 })) short

-- one frame read, the other waits; the rest of the slice is unchanged
takes_one : Event
takes_one =
    read-went 1 (record { slice = half ∷ half ∷ []; output = pos 32767 ∷ pos 0 ∷ pos 5 ∷ [] }) (Ok (record { frames = record { 0 = 1 }; stream = stream_for half 1 }))
    (record { slice = one ∷ half ∷ []; output = pos 0 ∷ pos 77 ∷ pos 78 ∷ [] })

-- at half the volume, in areas long enough for a flush
large : List ℤ → Areas
large output = areas (replicate 492 (pos 11)) (replicate 500 (pos 12)) output (replicate 246 (pos 13))

copies-softer : Event
copies-softer =
    write-went (one ∷ []) (large (pos 0 ∷ replicate 600 (pos 14))) (Ok (record { told = copying; stream = stream_for half 2 }))
    (large (pos 0 ∷ pos 16383 ∷ replicate 599 (pos 15)))

-- its 492 silent frames are copied, and none is kept: nothing was held, and nothing was in the tail
flushes : Event
flushes =
    flush-went (large (pos 0 ∷ pos 16383 ∷ replicate 599 (pos 15))) (Ok (record { told = copying; stream = stream_for half 2 }))
    (large (pos 0 ∷ pos 16383 ∷ replicate 599 (pos 16)))

takes-rest : Event
takes-rest =
    read-went 9 (record { slice = one ∷ one ∷ one ∷ []; output = pos 0 ∷ pos 16383 ∷ [] }) (Ok (record { frames = record { 0 = 2 }; stream = stream_for half 0 }))
    (record { slice = zero ∷ sample_out (pos 16383) ∷ one ∷ []; output = pos 1 ∷ pos 2 ∷ [] })

-- ---- the run

example : RunOf 8000 1 Smallest
unfolding no_room small copies fair fair-left softer too_short short takes_one copies-softer large flushes takes-rest samples
    opening after after_setting after_call after_read Agree leave
    set_call with_setting write_call flush_call refused_call accepted_call read_call read_count
    stage_needed refusal read_refusal past is_in_order limits_in_order period_in_order settings_in_order prev_in_order positions_in_order rate_bad channels_bad
    areas_bad sizes_bad parts_bad output_bad fresh stream_of state_of frames_of whole_frames
    write_work flush_work process counting counted stalled tally booked finished taken taken_at copied nothing joined removed expected cleared adjust_rate
    sample_in sample_out unit_clamped play_time_grown play_time_left local_speed speed_changes expected_frames gain scaled amplified clamp_z clamped
    rates_of halved new_rate ceil_div sample_period narrow of_bits neg div round of_int to_unsigned to_signed le lt eq mul add
example = record {
  stream = stream_for one 0;
  opens = opens;
  events = no_room ∷ copies ∷ softer ∷ too_short ∷ takes_one ∷ copies-softer ∷ flushes ∷ takes-rest ∷ [];
  allowed = (
    (
      record { input = refl; stage = refl; output = refl },
      record { input = refl; stage = refl; output = refl },
      record { answer = refl; input = refl; tail = refl; output = refl },
    ),
    (
      (
        record { input = refl; stage = refl; output = refl },
        record { input = refl; stage = refl; output = refl },
        record { answer = refl; input = refl; tail = refl; output = refl },
      ),
      (
        refl,
        (
          (refl, refl, record { answer = refl; given = refl; rest = refl; output = refl }),
          (
            (refl, refl, record { answer = refl; given = refl; rest = refl; output = refl }),
            (
              (
                record { input = refl; stage = refl; output = refl },
                record { input = refl; stage = refl; output = refl },
                record { answer = refl; input = refl; tail = refl; output = refl },
              ),
              (
                (
                  record { input = refl; stage = refl; output = refl },
                  record { input = refl; stage = refl; output = refl },
                  record { answer = refl; input = refl; tail = refl; output = refl },
                ),
                (
                  (refl, refl, record { answer = refl; given = refl; rest = refl; output = refl }),
                  tt,
                ),
              ),
            ),
          ),
        ),
      ),
    ),
  );
}

-- ---- its ledger, and what the claim says of it

ledger-is :
    ledger_of example
    ≡ record {
      state = record {
        rate = 8000;
        channels = 1;
        speed = one;
        pitch = one;
        volume = half;
        step_over = 0;
        input = [];
        tail = [];
        at = record { old = 0; new = 0 };
        prev = record { period = 0; min_diff = 0 };
        input_play_time = zero;
        time_error = zero;
        balance = none;
        ties = 0;
      };
      made = (pos 32767 ∷ []) ∷ (pos 0 ∷ []) ∷ (pos 16383 ∷ []) ∷ [];
      outcomes = Copied ∷ Copied ∷ Copied ∷ [];
    }
unfolding example no_room copies softer too_short takes_one copies-softer flushes takes-rest samples
    ledger ledger_from posted begun entry fed fresh with_setting frames_of whole_frames
    write_work flush_work process counting counted stalled tally booked finished taken taken_at copied nothing joined removed expected cleared adjust_rate
    sample_in unit_clamped play_time_grown play_time_left local_speed speed_changes expected_frames gain scaled amplified clamp_z clamped
    sample_period narrow of_bits neg div round of_int to_unsigned to_signed le lt eq mul add
ledger-is = refl

read-and-waiting : (total (last example) ≡ (one ∷ []) ∷ (zero ∷ []) ∷ (sample_out (pos 16383) ∷ []) ∷ [])
    × ((last example).outcomes ≡ Copied ∷ Copied ∷ Copied ∷ [])
unfolding sample_out div round of_int
read-and-waiting = (
  (ledger-claim 8000 1 Smallest example).0 ∙ ap (λ (l : Ledger). values l.made) ledger-is,
  (ledger-claim 8000 1 Smallest example).1 ∙ ap (λ (l : Ledger). l.outcomes) ledger-is,
)
