-- What the functions of `finish` require and ensure. s is the stream at the call's start, d what filled the stage or
-- the output; the areas go from a to b. Definitions only. Assumes nothing.
use Rattle.std.specs.Prelude.{◌≡◌, true, false, cond, List, map, ℕ, ◌+◌, ◌-◌, ◌*◌, ◌^◌, ◌≤◌, ℤ, length, take, drop}
use Rattle.std.specs.Prelude.{Option, Result, Ok, Err}
use Rattle.frames.specs.Areas.{Areas}
use Rattle.frames.specs.Framing.{frames_of, Behind, NoRoom}
use Rattle.floats.specs.Settings.{sample_period}
use Rattle.volume.specs.Volume.{scaled}
use Rattle.rate.specs.declared.Adjusted.{Adjusted}
use Rattle.rate.specs.Conversion.{Conversion, adjust_rate}
use Rattle.rate.specs.Adjusting.{AdjustedBy, new_frames}
use Rattle.stream.specs.declared.SonicStream.{SonicStream}
use Rattle.stream.specs.declared.balance.Balance.{Balance}
use Rattle.stream.specs.declared.refusal.Refusal.{Refusal}
use Rattle.stream.specs.declared.refusal.Refusal.TheVariants.{OutputFull, TotalFull}
use Rattle.stream.specs.Balance.{booked, past}
use Rattle.stream.specs.State.{State, with_tail, with_balance}
use Rattle.stream.specs.Stream.{ChangedBy}
use Rattle.stream.specs.Order.{StreamReady}
use Rattle.fill.specs.declared.Filled.{Filled}
use Rattle.fill.specs.Filling.{straight, destination_in, filled_area}
use Rattle.process.specs.declared.Wrote.{Wrote}

-- ---- required

-- the frames of the call are made, and d has the stream without the frames used
pub record UsedReady (s : SonicStream) (d : Filled) (a : Areas) : Type 0 where
  pub ready : StreamReady s
  pub held : d.stream.held.0 ≡ s.held.0 - d.used.0
  pub period_is : d.stream.sample_period ≡ sample_period d.stream.rate
  pub used : d.used.0 ≤ s.held.0
  pub held_fits : s.held.0 * s.channels ≤ length a.input
  pub input_short : length a.input ≤ 2 ^ 24
  pub stage_short : length a.stage ≤ 2 ^ 24
  pub output_short : length a.output ≤ 2 ^ 24

-- `new` frames stand where a call's frames go
pub record ConvertReady (s : SonicStream) (new : ℕ) (a : Areas) : Type 0 where
  pub ready : StreamReady s
  pub placed : ((destination_in s a).kept.0 + new) * s.channels ≤ length (filled_area s a)
  pub tail_fits : s.tail.0 * s.channels ≤ length a.stage
  pub waiting_fits : s.waiting.0 * s.channels ≤ length a.output

-- both
pub record FinishReady (s : SonicStream) (d : Filled) (a : Areas) : Type 0 where
  pub used : UsedReady s d a
  pub convert : ConvertReady s d.frames.0 a

-- the conversion c is done: what it left of the tail lies in the stage, what it made in the output
pub record CommitReady (s : SonicStream) (d : Filled) (c : Adjusted) (a : Areas) : Type 0 where
  pub used : UsedReady s d a
  pub within : (c.from.0 + c.left.0) * s.channels ≤ length a.stage
  pub fits : (s.waiting.0 + c.made.0) * s.channels ≤ length a.output

-- ---- ensured

-- the totals with those of the call
abbrev pub totals : Filled → Balance
totals d = booked d.stream.balance d.balance

-- the state with the tail and the positions of the conversion c, and the totals of d
abbrev pub finished_state : Filled → Conversion → State → State
finished_state d c x = with_balance (with_tail x c.rest c.at) (totals d)

-- done as the conversion c says: the frames used have left the input, and the tail frames consumed the stage; the
-- frames made are scaled
pub record FinishedAs (s : SonicStream) (d : Filled) (c : Conversion) (a b : Areas) (w : Wrote) : Type 0 where
  pub told : w.told ≡ d.told
  pub within : past (totals d) ≡ false
  pub stream : ChangedBy (finished_state d c) d.stream (s.waiting.0 + length c.made) w.stream
  pub rest : frames_of s.channels (s.held.0 - d.used.0) b.input
      ≡ drop d.used.0 (frames_of s.channels s.held.0 a.input)
  pub tail : frames_of s.channels (length c.rest) b.stage ≡ c.rest
  pub behind : Behind s.channels s.waiting.0 (length c.made) a.output b.output
      (map (map (scaled s.volume)) c.made)

-- its frames fit the output, but a total passes 64 bits
pub record TotalPassed (s : SonicStream) (d : Filled) (c : Conversion) (a b : Areas) : Type 0 where
  pub input : b.input ≡ a.input
  pub stage : b.stage ≡ a.stage
  pub kept : take (s.waiting.0 * s.channels) b.output ≡ take (s.waiting.0 * s.channels) a.output
  pub fits : (s.waiting.0 + length c.made) * s.channels ≤ length a.output
  pub passed : past (totals d) ≡ true

-- or its frames do not fit the output; there is no other refusal
abbrev pub FinishedBy : SonicStream → Filled → Conversion → Areas → Areas → Result Wrote Refusal → Type 0
FinishedBy s d c a b (Ok w) = FinishedAs s d c a b w
FinishedBy s d c a b (Err OutputFull) =
    (b.input ≡ a.input) × (b.stage ≡ a.stage)
    × NoRoom s.channels s.waiting.0 a.output b.output c.made
FinishedBy s d c a b (Err TotalFull) = TotalPassed s d c a b
FinishedBy s d c a b (Err _) = ⊥

-- the conversion of `new` frames that stand where a call's frames go
abbrev pub conversion_of : SonicStream → ℕ → Areas → Conversion
conversion_of s new a =
    adjust_rate s.rate s.pitch (record { old = s.old_rate_position; new = s.new_rate_position })
    (frames_of s.channels s.tail.0 a.stage)
    (new_frames s.channels (destination_in s a).kept.0 new (filled_area s a))

-- it is done; what it leaves of the tail lies in the stage, within the tail and, at another pitch than 1.0, the new
-- frames behind it
abbrev pub ConvertEnsures : SonicStream → ℕ → Areas → List ℤ → Option Adjusted → Type 0
ConvertEnsures s new a exit r =
    AdjustedBy s.channels s.waiting.0 (cond (straight s) s.tail.0 (s.tail.0 + new)) (conversion_of s new a)
    a.stage a.output exit r

abbrev pub FinishEnsures : SonicStream → Filled → Areas → Areas → Result Wrote Refusal → Type 0
FinishEnsures s d a b r = FinishedBy s d (conversion_of s d.frames.0 a) a b r

-- the conversion that lies in stage and output: the frames made, the frames left of the tail, the positions
abbrev pub adjusted_as : SonicStream → Adjusted → Areas → Conversion
adjusted_as s c a =
    record {
      made = new_frames s.channels s.waiting.0 c.made.0 a.output;
      rest = frames_of s.channels c.left.0 (drop (c.from.0 * s.channels) a.stage);
      at = c.at;
    }

abbrev pub CommitEnsures : SonicStream → Filled → Adjusted → Areas → Areas → Result Wrote Refusal → Type 0
CommitEnsures s d c a b r = FinishedBy s d (adjusted_as s c a) a b r
