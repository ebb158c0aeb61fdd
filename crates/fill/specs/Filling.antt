-- What the functions of `fill` require and ensure of a stream s; its areas go from a to b. Definitions only. Assumes
-- nothing.
use Rattle.std.specs.Prelude.{◌≡◌, Bool, true, false, cond, List, ℕ, ◌-◌, ◌*◌, ◌/◌, ◌^◌, ◌≤◌, ◌<◌, ℤ, Float, length}
use Rattle.std.specs.Prelude.{take, drop, Option, Result, Ok, Err}
use Rattle.std.specs.Float.Ieee.{eq}
use Rattle.std.proofs.Math.Seq.{paste}
use Rattle.frames.specs.Areas.{Areas}
use Rattle.frames.specs.Framing.{frames_of, Behind, NoRoom}
use Rattle.floats.specs.Numbers.{one}
use Rattle.floats.specs.Settings.{sample_period}
use Rattle.floats.specs.Write.{local_speed}
use Rattle.period.specs.Rates.{max_required}
use Rattle.period.specs.Pitch.{PrevInOrder}
use Rattle.stretch.specs.declared.StretchCall.{StretchCall}
use Rattle.stretch.specs.declared.Place.{Place}
use Rattle.stretch.specs.declared.Stretch.{Stretch}
use Rattle.stretch.specs.Speed.{begun, change_speed, AreaAfter}
use Rattle.stream.specs.declared.SonicStream.{SonicStream}
use Rattle.stream.specs.declared.balance.Balance.{Balance}
use Rattle.stream.specs.declared.refusal.Refusal.{Refusal}
use Rattle.stream.specs.declared.refusal.Refusal.TheVariants.{StageFull, OutputFull}
use Rattle.stream.specs.Balance.{none}
use Rattle.stream.specs.Stream.{state_of, stream_of, ChangedBy}
use Rattle.fill.specs.declared.Outcome.{Outcome}
use Rattle.fill.specs.declared.Outcome.TheVariants as Outcomes
use Rattle.fill.specs.declared.Filled.{Filled}
use Rattle.fill.specs.declared.destination.Destination.{Destination}
use Rattle.fill.specs.Taking.{Taken, taken, stepped, counted}

-- the local speed
abbrev pub speed_of : SonicStream → Float
speed_of s = local_speed s.held.0 (sample_period s.rate) s.input_play_time

-- ---- where a call's frames go

abbrev pub straight : SonicStream → Bool
straight s = eq s.pitch one

-- at pitch 1.0 straight into the output, behind the frames waiting, as many as the stage holds at the most (C-12); at
-- another into the stage, behind the tail, as many as there is room for
abbrev pub destination_by : Bool → SonicStream → ℕ → ℕ → Destination
destination_by true s stage output =
    record {
      kept = s.waiting;
      room = record { 0 = output / s.channels - s.waiting.0 };
      most = record { 0 = stage / s.channels };
    }
destination_by false s stage output =
    record {
      kept = s.tail;
      room = record { 0 = stage / s.channels - s.tail.0 };
      most = record { 0 = stage / s.channels - s.tail.0 };
    }

-- by the lengths of stage and output
abbrev pub destination_of : SonicStream → ℕ → ℕ → Destination
destination_of s stage output = destination_by (straight s) s stage output

abbrev pub destination_in : SonicStream → Areas → Destination
destination_in s a = destination_of s (length a.stage) (length a.output)

-- that area, and the other of the two
abbrev pub filled_area : SonicStream → Areas → List ℤ
filled_area s a = cond (straight s) a.output a.stage

abbrev pub other_area : SonicStream → Areas → List ℤ
other_area s a = cond (straight s) a.stage a.output

-- where a stretch begins
abbrev pub place_for : SonicStream → Place
place_for s = begun s.time_error (record { period = s.prev_period; min_diff = s.prev_min_diff })

-- ---- required

-- what the stream holds lies in its areas
pub record AreasFit (s : SonicStream) (a : Areas) : Type 0 where
  pub held : s.held.0 * s.channels ≤ length a.input
  pub tail : s.tail.0 * s.channels ≤ length a.stage
  pub waiting : s.waiting.0 * s.channels ≤ length a.output
  pub input_short : length a.input ≤ 2 ^ 24
  pub stage_short : length a.stage ≤ 2 ^ 24
  pub output_short : length a.output ≤ 2 ^ 24

-- and the scratch is long enough for a search
pub record FillReady (s : SonicStream) (a : Areas) : Type 0 where
  pub fit : AreasFit s a
  pub scratch_fits : max_required s.rate ≤ length a.scratch

-- ---- ensured

-- what a call skips or inserts, by its frames out and used; `-` ends at 0
abbrev pub surplus : ℕ → ℕ → Balance
surplus made used = record { skipped = used - made; inserted = made - used }

-- after the steps of a stretch
pub record SteppedAs (s : SonicStream) (a : Stretch) (d : Filled) : Type 0 where
  pub frames : d.frames ≡ a.made
  pub used : d.used.0 ≡ cond a.stalled 0 a.used.0
  pub balance : d.balance ≡ cond a.stalled none (surplus a.made.0 a.used.0)
  pub stream : ChangedBy (stepped a) s s.waiting.0 d.stream
  pub told : d.told
      ≡ record { outcome = cond a.stalled Outcomes.Stalled Outcomes.Stretched; passed = a.passed; sum = a.sum }

-- no frames
abbrev pub nothing_filled : SonicStream → Outcome → Filled
nothing_filled s outcome =
    record {
      frames = record { 0 = 0 };
      used = record { 0 = 0 };
      balance = none;
      stream = s;
      told = record { outcome = outcome; passed = 0; sum = 0 };
    }

-- an area was filled behind its first `kept` frames as t says, with at most `most` frames; it goes from `entry` to
-- `exit`
pub record FilledAs (s : SonicStream) (kept most : ℕ) (t : Taken) (input entry exit : List ℤ) (d : Filled)
    : Type 0 where
  pub told : d.told ≡ t.told
  pub balance : d.balance ≡ counted t.steps
  pub behind : Behind s.channels kept d.frames.0 entry exit t.frames
  pub within : length t.frames ≤ most
  pub used : d.used.0 ≤ s.held.0
  pub rest : drop d.used.0 (frames_of s.channels s.held.0 input) ≡ t.state.input
  pub stream : d.stream ≡ stream_of t.state s.waiting.0
  pub prev_in : PrevInOrder s.rate t.state.prev

-- or there are more, or the frames do not fit; there is no other refusal
abbrev pub FilledBy : SonicStream → ℕ → ℕ → Taken → List ℤ → List ℤ → List ℤ → Result Filled Refusal → Type 0
FilledBy s kept most t input entry exit (Ok d) = FilledAs s kept most t input entry exit d
FilledBy s kept most t input entry exit (Err StageFull) =
    (take (kept * s.channels) exit ≡ take (kept * s.channels) entry) × (most < length t.frames)
FilledBy s kept most t input entry exit (Err OutputFull) =
    NoRoom s.channels kept entry exit t.frames × (length t.frames ≤ most)
FilledBy s kept most t input entry exit (Err _) = ⊥

-- the area of the call, and the other stays
abbrev pub FillEnsures : SonicStream → Areas → Areas → Result Filled Refusal → Type 0
FillEnsures s a b r =
    let to : Destination = destination_in s a in
    FilledBy s to.kept.0 to.most.0 (taken (state_of s a.input a.stage)) a.input (filled_area s a)
    (filled_area s b) r
    × (other_area s b ≡ other_area s a)

-- the frames of the input were copied there
abbrev pub CopyEnsures : SonicStream → Areas → Areas → Type 0
CopyEnsures s a b =
    (filled_area s b ≡ paste (filled_area s a) ((destination_in s a).kept.0 * s.channels) (drop 0 a.input)
    (s.held.0 * s.channels))
    × (other_area s b ≡ other_area s a)

-- the frames of a stretch u were put there, if there was room
abbrev pub StretchEnsures : SonicStream → StretchCall → Areas → Areas → Option Stretch → Type 0
StretchEnsures s u a b r =
    let to : Destination = destination_in s a in
    (r ≡ change_speed u a.input (place_for s) to.most.0)
    × AreaAfter u a.input (place_for s) to.room.0 to.most.0 (filled_area s a) (filled_area s b)
    (to.kept.0 * s.channels)
    × (other_area s b ≡ other_area s a)
