-- What the inner functions of a write and a flush require and ensure: the work of a call that adds n frames to the
-- stream s. Definitions only. Assumes nothing.
use Rattle.std.specs.Prelude.{◌≡◌, true, false, ℕ, ◌+◌, ◌*◌, ◌≤◌, Float, length, Result}
use Rattle.frames.specs.Areas.{Areas}
use Rattle.floats.specs.Settings.{sample_period}
use Rattle.stream.specs.declared.SonicStream.{SonicStream}
use Rattle.stream.specs.Refusals.{is_in_order, areas_bad}
use Rattle.stream.specs.declared.refusal.Refusal.{Refusal}
use Rattle.process.specs.declared.Wrote.{Wrote}
use Rattle.process.specs.Streams.{joined_stream}
use Rattle.process.specs.Working.{WorkEnsures}

-- refusals 3, 4 and 5 are not met
pub record Accepted (s : SonicStream) (a : Areas) (n : ℕ) : Type 0 where
  pub in_order : is_in_order s ≡ true
  pub areas_good : areas_bad s a ≡ false
  pub fits : (s.held.0 + n) * s.channels ≤ length a.input

-- and the period is that of the rate
pub record AddReady (s : SonicStream) (period : Float) (a : Areas) (n : ℕ) : Type 0 where
  pub accepted : Accepted s a n
  pub period_is : period ≡ sample_period s.rate

-- the work on the stream with these frames, and on the areas a, which hold them, left the areas as b
abbrev pub AddEnsures : SonicStream → ℕ → Areas → Areas → Result Wrote Refusal → Type 0
AddEnsures s n a b r = WorkEnsures (joined_stream n s) a b r
