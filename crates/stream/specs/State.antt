-- What a stream and its areas hold, the frames waiting apart (docs/RULES.md, "What a stream is"), with its
-- totals (C-16), whether it steps over (C-18), and its choice of ties (C-17). Definitions only. Assumes nothing.
use Rattle.std.specs.Prelude.{Bool, List, ℕ, ltb, Float}
use Rattle.frames.specs.Framing.{Frame}
use Rattle.period.specs.declared.PeriodRecord.{PeriodRecord}
use Rattle.rate.specs.declared.Position.{Position}
use Rattle.stream.specs.declared.balance.Balance.{Balance}

-- rate and channels, the settings, input, tail, positions p and n, period record, play time, time error, the totals of
-- frames skipped and inserted, and the number of the choice of ties
pub record State : Type 0 where
  pub rate : ℕ
  pub channels : ℕ
  pub speed : Float
  pub pitch : Float
  pub volume : Float
  pub step_over : ℕ
  pub input : List Frame
  pub tail : List Frame
  pub at : Position
  pub prev : PeriodRecord
  pub input_play_time : Float
  pub time_error : Float
  pub balance : Balance
  pub ties : ℕ

-- whether a period that gives no frame is stepped over (C-18): a field of 0 is off, any other on
abbrev pub steps_over : ℕ → Bool
steps_over field = ltb 0 field

-- the state with other settings and positions
abbrev pub with_settings : State → Float → Float → Float → ℕ → Position → State
with_settings s speed pitch volume step_over at =
    record s { speed = speed; pitch = pitch; volume = volume; step_over = step_over; at = at }

-- the state with another input, period record, play time and time error
abbrev pub with_input : State → List Frame → PeriodRecord → Float → Float → State
with_input s input prev play error =
    record s { input = input; prev = prev; input_play_time = play; time_error = error }

-- the state with another tail and other positions
abbrev pub with_tail : State → List Frame → Position → State
with_tail s tail at = record s { tail = tail; at = at }

-- the state with other totals
abbrev pub with_balance : State → Balance → State
with_balance s balance = record s { balance = balance }
