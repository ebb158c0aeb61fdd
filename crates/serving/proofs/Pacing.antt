-- A state whose play time is paced, in a call's work: staged-most bounds the frames staged, left-paced says that what is left is paced again.
-- Assumes nothing.
use mathlib.Core.Logic.{◌⊎◌, ⊎_elim}
use mathlib.Core.List.{List}
use Prim.Native.Nat.{ℕ, ◌*◌, ◌≤◌}
use native.Mathlib.Omega.{arith}
use lib.Ieee.{Float, binary32, div, to_unsigned}
use lib.ListN.{length}
use Rattle.frames.specs.Framing.{Frame, flat}
use Rattle.floats.proofs.Pace.{PaceReady, Paced, paced-left}
use Rattle.floats.proofs.PaceSteps.{growth_factor, insert-grows}
use Rattle.period.specs.Rates.{max_period, max_required}
use Rattle.stretch.proofs.Growth.{made_held}
use Rattle.stream.specs.State.{State}
use Rattle.fill.specs.declared.Outcome.{Outcome}
use Rattle.fill.specs.Taking.{taken, speed_at, place_of, steps_at}
use Rattle.stretch.specs.Speed.{frames_made}
use Rattle.process.proofs.Claims.{Held, held-ready}
use Rattle.process.proofs.Amounts.{taken-most, Kept, Used, Left}
use Rattle.plans.specs.Plans.{growth_of}

-- with at most `most` frames held
abbrev pub PacedWith : State → ℕ → ℕ → Float → Type 0
PacedWith x most held play = Paced x.rate x.speed x.pitch (max_required x.rate) most held play

pub record PacedState (x : State) (most : ℕ) : Type 0 where
  pub ready : PaceReady x.rate x.speed x.pitch (max_required x.rate) most
  pub held : Held x
  pub few : length x.input ≤ most
  pub regime : (most ≤ 3 * max_required x.rate) ⊎ (2 ≤ to_unsigned 64 (div binary32 x.speed x.pitch))
  pub paced : PacedWith x most (length x.input) x.input_play_time

module _ (x : State) (most : ℕ) (p : PacedState x most) where
  grows : max_required x.rate ≤ length x.input
      → frames_made (steps_at (speed_at x) x) ≤ growth_of x.speed x.pitch (max_period x.rate) * length x.input
  unfolding growth_of
  grows enough =
      let high = p.ready.rate_high in
      made_held (flat x.input) (held-ready x p.held) (growth_factor x.speed x.pitch (max_period x.rate))
      (λ q some within. insert-grows p.ready p.paced enough p.few p.regime q (max_period x.rate) some within (omega arith))
      (place_of x) p.held.prev (omega arith)

  pub staged-most : length (taken x).frames ≤ growth_of x.speed x.pitch (max_period x.rate) * length x.input
  unfolding growth_of
  staged-most = taken-most x (growth_of x.speed x.pitch (max_period x.rate)) (omega arith) (λ _ enough. grows enough)

  pub left-paced : (o : Outcome) (input : List Frame) (play : Float) → Left x o input play → PacedWith x most (length input) play
  left-paced o input play = ⊎_elim kept used
    where
      kept : Kept x o input play → PacedWith x most (length input) play
      kept k = rw (k.input_is, k.play_is) p.paced

      used : Used x input play → PacedWith x most (length input) play
      used u = rw u.play_is (paced-left p.ready p.paced (length input) u.some (omega (arith, u.few)) p.few)
