-- What every call's work tells. Here:
--   told-exactly          it answers stalled exactly when stepping over is off and one of its steps gives no frame, tells as many periods
--                         as its steps pass over, and the sum 0 if none of them searches
--   passed-alone          of few frames, it takes one step where it passes over a period
-- Assumes nothing.
use mathlib.Core.Path.{◌≡◌, refl}
use mathlib.Core.Bool.{Bool, true, false, cond}
use mathlib.Core.List.{List, [], ◌∷◌}
use Prim.Native.Nat.{ℕ, ◌+◌, ◌≤◌, ◌<◌}
use native.Mathlib.Omega.{arith}
use lib.Dec.{eqb, ltb}
use lib.Ieee.{Float}
use lib.ListN.{length}
use Rattle.frames.specs.declared.Frames.{Frames}
use Rattle.frames.specs.Framing.{flat}
use Rattle.floats.specs.Write.{speed_changes}
use Rattle.period.specs.Rates.{min_period, max_required}
use Rattle.stretch.specs.declared.Step.{Step}
use Rattle.stretch.specs.Tally.{tally}
use Rattle.stretch.specs.Speed as Speed
use Rattle.stretch.proofs.OneStep as OneStep
use Rattle.stretch.proofs.Taken.{none-some}
use Rattle.stretch.proofs.StepOver.{over-never-stalls, off-passes-none}
use Rattle.stretch.proofs.Sums.{searched, sum_kept}
use Rattle.stream.specs.State.{State, steps_over}
use Rattle.fill.specs.declared.Told.{Told}
use Rattle.fill.specs.declared.Outcome.{Outcome}
use Rattle.fill.specs.declared.Outcome.TheVariants.{Empty, Waiting, Stretched, Stalled}
use Rattle.fill.specs.Taking.{Taken, nothing, copied, stretched, taken_at, taken, speed_at, call_at, place_of, steps_at}
use Rattle.process.specs.Process.{finished, process}
use Rattle.process.proofs.Claims.{Held, StallsExactly, held-ready, stalled-exactly}

-- ---- periods passed over

-- as many are told as the steps pass over; none if stepping over is off; where one is told, the outcome is stretched
abbrev PassesExactly : Bool → Taken → Type 0
PassesExactly over t =
    (t.told.passed ≡ (tally t.steps).passed) × (over ≡ false → t.told.passed ≡ 0) × (1 ≤ t.told.passed → t.told.outcome ≡ Stretched)

none_passed : {n : ℕ} {o : Outcome} → n ≡ 0 → 1 ≤ n → o ≡ Stretched
none_passed e some = absurd (none-some e some)

-- no sum is told without a search
abbrev SumsExactly : Taken → Type 0
SumsExactly t = searched t.steps ≡ false → t.told.sum ≡ 0

-- what is told of a call, by its steps and by whether it steps over
pub record ToldExactly (over : Bool) (o : Told) (steps : List Step) : Type 0 where
  pub stalled : StallsExactly over o.outcome steps
  pub passed : o.passed ≡ (tally steps).passed
  pub off : over ≡ false → o.passed ≡ 0
  pub stretched : 1 ≤ o.passed → o.outcome ≡ Stretched
  pub no_search : searched steps ≡ false → o.sum ≡ 0

module _ (s : State) (h : Held s) where
  abbrev y : Float
  y = speed_at s

  abbrev on : Bool
  on = steps_over s.step_over

  -- what holds of each kind of work holds of the call's
  by_kind : (P : Taken → Type 0) → ((o : Outcome) → P (nothing o s)) → P (stretched y s) → P (copied s) → P (taken s)
  unfolding taken taken_at
  by_kind P none some all = go (eqb (length s.input) 0) (speed_changes y) (ltb (length s.input) (max_required s.rate))
    where
      go : (empty changes few : Bool) → P (cond empty (nothing Empty s) (cond changes (cond few (nothing Waiting s) (stretched y s)) (copied s)))
      go true changes few = none Empty
      go false true true = none Waiting
      go false true false = some
      go false false few = all

  nothing-passed : (o : Outcome) → PassesExactly on (nothing o s)
  unfolding nothing tally
  nothing-passed o = (refl, λ _. refl, none_passed refl)

  copied-passed : PassesExactly on (copied s)
  unfolding copied tally
  copied-passed = (refl, λ _. refl, none_passed refl)

  off-none : on ≡ false → (tally (steps_at y s)).passed ≡ 0
  off-none = off-passes-none (call_at y s) (flat s.input) (place_of s) (held-ready s h) h.prev

  stretched-passed : PassesExactly on (stretched y s)
  unfolding stretched
  stretched-passed = (refl, off-none, by on refl)
    where
      by : (b : Bool) → on ≡ b → 1 ≤ (tally (steps_at y s)).passed
          → cond (Speed.stalled (steps_at y s)) Stalled Stretched ≡ Stretched
      by true e some = rw (over-never-stalls (call_at y s) (flat s.input) (place_of s) (held-ready s h) h.prev e)
      by false e some = none_passed (off-none e) some

  taken-passed : PassesExactly on (taken s)
  taken-passed = by_kind (PassesExactly on) nothing-passed stretched-passed copied-passed

  taken-sum : SumsExactly (taken s)
  unfolding nothing copied stretched
  taken-sum = by_kind SumsExactly (λ o e. refl) (sum_kept (call_at y s) (flat s.input) (steps_at y s) (place_of s)) (λ e. refl)

  pub told-exactly : ToldExactly on (process s).told (process s).steps
  unfolding process finished
  told-exactly =
      record { stalled = stalled-exactly s h; passed = taken-passed.0; off = taken-passed.1; stretched = taken-passed.2; no_search = taken-sum }

  -- ---- with fewer frames than a search looks at and the shortest period more

  module _ (few : length s.input < max_required s.rate + min_period s.rate) where
    abbrev Alone : Taken → Type 0
    Alone t = 1 ≤ t.told.passed → (period : Frames) × (t.steps ≡ Step.Passed period ∷ [])

    nothing-alone : (o : Outcome) → Alone (nothing o s)
    unfolding nothing
    nothing-alone o some = absurd (none-some refl some)

    copied-alone : Alone (copied s)
    unfolding copied
    copied-alone some = absurd (none-some refl some)

    stretched-alone : Alone (stretched y s)
    unfolding stretched
    stretched-alone some = (_, OneStep.passed-alone (flat s.input) (held-ready s h) (place_of s) h.prev (omega (arith, few)) some)

    pub passed-alone : 1 ≤ (process s).told.passed → (period : Frames) × ((process s).steps ≡ Step.Passed period ∷ [])
    unfolding process finished
    passed-alone = by_kind Alone nothing-alone stretched-alone copied-alone
