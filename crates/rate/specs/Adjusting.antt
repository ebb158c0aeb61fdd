-- What the functions require and ensure of their areas: ch channels, w frames waiting in the output. Definitions only.
use Rattle.std.specs.Prelude.{◌≡◌, false, Option, None, Some, List, ℕ, ◌+◌, ◌*◌, ◌^◌, ◌≤◌, ℤ, Float, length, drop}
use Rattle.std.specs.Float.Ieee.{eq}
use Rattle.floats.specs.Numbers.{one}
use Rattle.frames.specs.Framing.{Frame, frames_of, Behind, NoRoom}
use Rattle.rate.specs.declared.Rates.{Rates}
use Rattle.rate.specs.declared.Position.{Position}
use Rattle.rate.specs.declared.Adjusted.{Adjusted}
use Rattle.rate.specs.Halving.{max_halved_rate, rates_of}
use Rattle.rate.specs.Tail.{PositionInOrder}
use Rattle.rate.specs.Conversion.{Conversion, convert, adjust_rate}

-- ---- required

-- the areas hold what they are said to hold: `staged` frames, and the frames waiting
pub record AreasHold (ch staged w : ℕ) (stage output : List ℤ) : Type 0 where
  pub some : 1 ≤ ch
  pub holds : staged * ch ≤ length stage
  pub waits : w * ch ≤ length output

-- rates that were halved, and positions in order
pub record Placed (r : Rates) (s : Position) : Type 0 where
  pub new_most : r.new ≤ max_halved_rate
  pub old_most : r.old ≤ max_halved_rate
  pub order : PositionInOrder r s

-- a call of `adjust_rate`: an f32 holds the rate exactly, the pitch is another than 1.0, the positions are in order,
-- and `new` frames stand behind the tail
pub record AdjustReady (ch rate : ℕ) (pitch : Float) (at : Position) (tail new w : ℕ) (stage output : List ℤ)
    : Type 0 where
  pub exact : rate ≤ 2 ^ 24
  pub other : eq pitch one ≡ false
  pub order : PositionInOrder (rates_of rate pitch) at
  pub lent : AreasHold ch (tail + new) w stage output

-- ---- ensured

-- a conversion was done: its frames stand behind those that wait, and what is left of the tail lies within the stage's
-- first frames
pub record AdjustedAs (ch w staged : ℕ) (c : Conversion) (stage entry exit : List ℤ) (a : Adjusted) : Type 0 where
  pub behind : Behind ch w a.made.0 entry exit c.made
  pub rest : frames_of ch a.left.0 (drop (a.from.0 * ch) stage) ≡ c.rest
  pub at : a.at ≡ c.at
  pub within : a.from.0 + a.left.0 ≤ staged

-- done, or none: its frames do not fit
abbrev pub AdjustedBy : ℕ → ℕ → ℕ → Conversion → List ℤ → List ℤ → List ℤ → Option Adjusted → Type 0
AdjustedBy ch w staged c stage entry exit None = NoRoom ch w entry exit c.made
AdjustedBy ch w staged c stage entry exit (Some a) = AdjustedAs ch w staged c stage entry exit a

-- the new frames, which stand behind the tail
abbrev pub new_frames : ℕ → ℕ → ℕ → List ℤ → List Frame
new_frames ch tail new stage = frames_of ch new (drop (tail * ch) stage)

-- what each function ensures: the tail was scanned, or, if there are no new frames, nothing was done
abbrev pub ScanEnsures : ℕ → Rates → ℕ → ℕ → Position → List ℤ → List ℤ → List ℤ → Option Adjusted → Type 0
ScanEnsures ch r tail w at stage entry exit a =
    AdjustedBy ch w tail (convert r at (frames_of ch tail stage)) stage entry exit a

abbrev pub AdjustEnsures : ℕ → ℕ → Float → Position → ℕ → ℕ → ℕ → List ℤ → List ℤ → List ℤ → Option Adjusted → Type 0
AdjustEnsures ch rate pitch at tail new w stage entry exit a =
    AdjustedBy ch w (tail + new) (adjust_rate rate pitch at (frames_of ch tail stage) (new_frames ch tail new stage))
    stage entry exit a
