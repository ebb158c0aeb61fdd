-- What holds of a served job's stream between its calls, and of the answer of a call. Definitions only.
-- Assumes nothing.
use Rattle.std.specs.Prelude.{◌≡◌, Bool, true, ◌⊎◌, ℕ, ◌+◌, ◌*◌, ◌≤◌, ◌<◌, length, Result, Ok, Err}
use Rattle.frames.specs.Areas.{Areas}
use Rattle.floats.specs.Numbers.{zero}
use Rattle.period.specs.Rates.{max_required}
use Rattle.stream.specs.declared.SonicStream.{SonicStream}
use Rattle.stream.specs.declared.refusal.Refusal.TheVariants.{TotalFull}
use Rattle.stream.specs.declared.refusal.Refused.{Refused}
use Rattle.stream.specs.Refusals.{is_in_order}
use Rattle.fill.specs.declared.Told.{Told}
use Rattle.fill.specs.declared.Outcome.TheVariants.{Stalled}
use Rattle.read.specs.declared.Gave.{Gave}
use Rattle.process.specs.declared.Wrote.{Wrote}
use Rattle.plans.specs.Plans.{input_area, stage_area, output_area, scratch_area, tail_frames}
use Rattle.plans.specs.Plans.{is_small, held_most, limit_of}
use Rattle.plans.specs.Plans.{served}
use Rattle.floats.proofs.Pace.{Paced}

-- ---- the stream

-- `Paced`: play time is at most that of a few frames more than those held
pub record Steady (s : SonicStream) : Type 0 where
  pub in_order : is_in_order s ≡ true
  pub is_served : served s ≡ true
  pub tail_few : s.tail.0 ≤ tail_frames
  pub held_few : s.held.0 ≤ limit_of s
  pub waiting_fits : s.waiting.0 * s.channels ≤ output_area (is_small s)
  pub paced : Paced s.rate s.speed s.pitch (max_required s.rate) (held_most s) s.held.0
      s.input_play_time

-- nothing is held
pub record Unheld (s : SonicStream) : Type 0 where
  pub in_order : is_in_order s ≡ true
  pub held : s.held.0 ≡ 0
  pub tail : s.tail.0 ≡ 0
  pub play : s.input_play_time ≡ zero

-- as it is opened and set: and no frame waits
pub record Fresh (s : SonicStream) : Type 0 where
  pub unheld : Unheld s
  pub waiting : s.waiting.0 ≡ 0

-- the tool's areas for a job, small or not
pub record AreasSized (small : Bool) (a : Areas) : Type 0 where
  pub input : length a.input ≡ input_area
  pub stage : length a.stage ≡ stage_area small
  pub output : length a.output ≡ output_area small
  pub scratch : length a.scratch ≡ scratch_area

-- ---- an answer

-- t has the rate, the channels, the speed and the pitch of s
pub record SameJob (s t : SonicStream) : Type 0 where
  pub rate : t.rate ≡ s.rate
  pub channels : t.channels ≡ s.channels
  pub speed : t.speed ≡ s.speed
  pub pitch : t.pitch ≡ s.pitch

-- after a write of n frames to s: all frames are held as before, if it stalled, or fewer than a search looks at
pub record WriteWent (s : SonicStream) (n : ℕ) (o : Told) (t : SonicStream) : Type 0 where
  pub steady : Steady t
  pub same : SameJob s t
  pub left : ((o.outcome ≡ Stalled) × (t.held.0 ≡ s.held.0 + n)) ⊎ (t.held.0 < max_required s.rate)

-- after a flush of s: nothing is held
pub record FlushWent (s : SonicStream) (o : Told) (t : SonicStream) : Type 0 where
  pub steady : Steady t
  pub same : SameJob s t
  pub none : t.held.0 ≡ 0

-- the call on s is refused for a total past 64 bits, or done as P says
abbrev pub NeverRefused : SonicStream → (Told → SonicStream → Type 0) → Result Wrote Refused → Type 0
NeverRefused s P (Err e) = (e.refusal ≡ TotalFull) × (e.stream ≡ s)
NeverRefused s P (Ok w) = P w.told w.stream

-- after a read of s, which is never refused: as many frames are held
abbrev pub ReadWent : SonicStream → Result Gave Refused → Type 0
ReadWent s (Err e) = ⊥
ReadWent s (Ok g) = Steady g.stream × SameJob s g.stream × (g.stream.held.0 ≡ s.held.0)
