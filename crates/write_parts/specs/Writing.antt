-- A write or a flush by its parts: the tests before its samples are stored, and its answer by the work on them.
-- Definitions only. Assumes nothing.
use Rattle.std.specs.Prelude.{◌≡◌, true, false, ℕ, ◌/◌, Float, Result, Ok, Err}
use Rattle.frames.specs.declared.Frames.{Frames}
use Rattle.frames.specs.Areas.{Areas}
use Rattle.floats.specs.Settings.{sample_period}
use Rattle.stream.specs.declared.SonicStream.{SonicStream}
use Rattle.stream.specs.declared.refusal.Refused.{Refused}
use Rattle.stream.specs.Refusals.{is_in_order, areas_bad}
use Rattle.process.specs.declared.Wrote.{Wrote}
use Rattle.process.specs.Process.{Made}
use Rattle.adding.specs.Calls.{CallResult, call_by, refusal_of, CallEnsures}
use Rattle.adding.specs.Adding.{AddReady, AddEnsures}

-- a call that adds so many frames is refused with e before its work, whatever that would be, m, and its answer c to it
abbrev pub RefusedEarly : SonicStream → ℕ → Areas → Refused → Type 0
RefusedEarly s added a e = (m : Made) (c : CallResult) → CallEnsures s.channels (call_by (refusal_of s a added m) s a c) (Err e) a

-- refusals 3 and 4 are not met, and the period is that of the rate; or one is, whatever the call adds
abbrev pub EnteredAs : SonicStream → Areas → Result Float Refused → Type 0
EnteredAs s a (Ok period) = (is_in_order s ≡ true) × (areas_bad s a ≡ false) × (period ≡ sample_period s.rate)
EnteredAs s a (Err e) = (added : ℕ) → RefusedEarly s added a e

-- of a write of so many samples refusals 3 to 5 are not met, and it adds n frames; or one is
abbrev pub BegunAs : SonicStream → ℕ → Areas → Result (Float × Frames) Refused → Type 0
BegunAs s count a (Ok (period, n)) = AddReady s period a n.0 × (n.0 ≡ count / s.channels)
BegunAs s count a (Err e) = RefusedEarly s (count / s.channels) a e

-- what the work on n frames more gives, which left the areas a as b; refused, with the entering stream
abbrev pub WorkAnswered : SonicStream → ℕ → Areas → Areas → Result Wrote Refused → Type 0
WorkAnswered s n a b (Ok w) = AddEnsures s n a b (Ok w)
WorkAnswered s n a b (Err e) = AddEnsures s n a b (Err e.refusal) × (e.stream ≡ s)
