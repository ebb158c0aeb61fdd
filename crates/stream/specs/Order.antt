-- What `ordered` answers: with T, the sample period that the rate gives; and what the work
-- on a stream in order goes by. Definitions only. Assumes nothing.
use Rattle.std.specs.Prelude.{◌≡◌, cond, T, Float, Option, Some, None}
use Rattle.std.specs.Float.Ieee.{le}
use Rattle.floats.specs.Settings.{sample_period, min_volume, max_volume}
use Rattle.period.specs.Rates.{InLimits}
use Rattle.period.specs.Pitch.{PrevInOrder}
use Rattle.rate.specs.Halving.{rates_of}
use Rattle.rate.specs.Tail.{PositionInOrder}
use Rattle.stream.specs.declared.SonicStream.{SonicStream}
use Rattle.stream.specs.State.{State}
use Rattle.stream.specs.Stream.{unlent}
use Rattle.stream.specs.Refusals.{is_in_order}

unfoldable pub order_of : SonicStream → Option Float
order_of s = cond (is_in_order s) (Some (sample_period s.rate)) None

-- a state in order, by facts on its numbers
pub record StateReady (s : State) : Type 0 where
  pub limits : InLimits s.rate s.channels
  pub volume_low : T (le min_volume s.volume)
  pub volume_high : T (le s.volume max_volume)
  pub position : PositionInOrder (rates_of s.rate s.pitch) s.at
  pub prev : PrevInOrder s.rate s.prev

-- a stream in order whose sample period is that of its rate
pub record StreamReady (s : SonicStream) : Type 0 where
  pub state : StateReady (unlent s)
  pub period_is : s.sample_period ≡ sample_period s.rate
