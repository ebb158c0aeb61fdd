-- What the steps of a call's work leave alone in a state:
--   joined_keeps, removed-keeps, stepped-keeps     all but the input, the period record and the times
--   cleared-settings, tail-settings, counting-settings     rate, channels and settings
-- The layers above cite it. Assumes nothing.
use mathlib.Core.Path.{◌≡◌, refl, ◌∙◌}
use mathlib.Core.Bool.{Bool, true, false, cond}
use mathlib.Core.List.{List, []}
use Prim.Native.Nat.{ℕ}
use lib.Ieee.{Float}
use Rattle.frames.specs.Framing.{Frame}
use Rattle.floats.specs.Numbers.{zero}
use Rattle.period.specs.declared.PeriodRecord.{PeriodRecord}
use Rattle.rate.specs.declared.Position.{Position}
use Rattle.stretch.specs.declared.Step.{Step}
use Rattle.stretch.specs.declared.Stretch.{Stretch}
use Rattle.stream.specs.State.{State, with_input, with_tail}
use Rattle.fill.specs.Taking.{removed, stepped}
use Rattle.process.specs.Process.{joined, counting, cleared}

-- t has the rate, the channels and the settings of s
pub record SameSettings (s t : State) : Type 0 where
  pub rate : t.rate ≡ s.rate
  pub channels : t.channels ≡ s.channels
  pub speed : t.speed ≡ s.speed
  pub pitch : t.pitch ≡ s.pitch
  pub volume : t.volume ≡ s.volume
  pub step_over : t.step_over ≡ s.step_over

-- and its tail and positions
pub record Keeps (s t : State) : Type 0 where
  pub settings : SameSettings s t
  pub tail : t.tail ≡ s.tail
  pub at : t.at ≡ s.at

pub settings-trans : {s t r : State} → SameSettings s t → SameSettings t r → SameSettings s r
settings-trans p q =
    record {
      rate = q.rate ∙ p.rate;
      channels = q.channels ∙ p.channels;
      speed = q.speed ∙ p.speed;
      pitch = q.pitch ∙ p.pitch;
      volume = q.volume ∙ p.volume;
      step_over = q.step_over ∙ p.step_over;
    }

-- by a test, where a state is read off x or y
pub keeps-cases : {A : Type 0} {s : State} (state : A → State) (b : Bool) {x y : A} → Keeps s (state x) → Keeps s (state y)
    → Keeps s (state (cond b x y))
keeps-cases state true p q = p
keeps-cases state false p q = q

-- all but the input, the period record and the times; and rate, channels and settings

input-keeps : (s : State) (input : List Frame) (prev : PeriodRecord) (play error : Float) → Keeps s (with_input s input prev play error)
input-keeps s input prev play error =
    record { settings = record { rate = refl; channels = refl; speed = refl; pitch = refl; volume = refl; step_over = refl }; tail = refl; at = refl }

pub tail-settings : (s : State) (tail : List Frame) (at : Position) → SameSettings s (with_tail s tail at)
tail-settings s tail at = record { rate = refl; channels = refl; speed = refl; pitch = refl; volume = refl; step_over = refl }

pub counting-settings : (ss : List Step) (s : State) → SameSettings s (counting ss s)
unfolding counting
counting-settings ss s = record { rate = refl; channels = refl; speed = refl; pitch = refl; volume = refl; step_over = refl }

module _ (s : State) where
  pub own-keeps : Keeps s s
  own-keeps = input-keeps s s.input s.prev s.input_play_time s.time_error

  pub joined_keeps : (fs : List Frame) → Keeps s (joined fs s)
  unfolding joined
  joined_keeps fs = input-keeps s _ _ _ _

  pub removed-keeps : (k : ℕ) → Keeps s (removed k s)
  unfolding removed
  removed-keeps k = input-keeps s _ _ _ _

  pub stepped-keeps : (a : Stretch) → Keeps s (stepped a s)
  unfolding stepped removed
  stepped-keeps a = keeps-cases (λ (t : State). t) a.stalled (input-keeps s _ _ _ _) (input-keeps s _ _ _ _)

  pub cleared-settings : SameSettings s (cleared s)
  unfolding cleared
  cleared-settings = settings-trans (input-keeps s [] s.prev zero zero).settings (tail-settings _ [] s.at)
