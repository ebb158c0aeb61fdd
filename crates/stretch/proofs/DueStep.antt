-- The step that is due, by the tests of the code, and the period record and the sum after it. Assumes nothing.
use mathlib.Core.Path.{◌≡◌, refl}
use mathlib.Core.Bool.{Bool, true, false, cond, ◌&&◌}
use mathlib.Core.List.{List}
use Prim.Native.Nat.{◌-◌}
use lib.Dec.{eqb}
use lib.IntN.{ℤ}
use lib.Ieee.{Float, lt}
use Rattle.frames.specs.declared.Frames.{Frames}
use Rattle.floats.specs.Numbers.{one}
use Rattle.floats.specs.Steps.{copying_due, copy_count, skip_count, insert_count}
use Rattle.stretch.specs.declared.StretchCall.{StretchCall}
use Rattle.stretch.specs.declared.Place.{Place}
use Rattle.stretch.specs.declared.Step.{Step}
use Rattle.stretch.specs.declared.Step.TheVariants.{Copied, Skipped, Inserted, Passed}
use Rattle.stretch.specs.Steps.{search_at, period_step, next_step, prev_after, sum_after}

-- what is the same for every kind of step of a period
of-period : {A : Type 0} (f : Step → A) {a : A} → ((p k : Frames) → f (Skipped p k) ≡ a) → ((p k : Frames) → f (Inserted p k) ≡ a)
    → ((p : Frames) → f (Passed p) ≡ a) → (s : Float) (over : Bool) (period : Frames) → f (period_step s over period) ≡ a
of-period f {a} skipped inserted passed s over period = go (lt one s) (over && eqb (skip_count s period.0) 0)
  where
    go : (t b : Bool)
        → f
        (cond t (cond b (Passed period) (Skipped period (record { 0 = skip_count s period.0 })))
        (Inserted period (record { 0 = insert_count s period.0 })))
        ≡ a
    go true true = passed period
    go true false = skipped period _
    go false b = inserted period _

module _ (u : StretchCall) (x : List ℤ) (h : Place) where
  pub next_step-copied : copying_due u.speed h.time_error ≡ true
      → next_step u x h ≡ Copied (record { 0 = copy_count h.time_error u.speed u.sample_period (u.held.0 - h.position.0) })
  unfolding next_step
  next_step-copied e = rw e

  pub next_step-searched : copying_due u.speed h.time_error ≡ false → next_step u x h ≡ period_step u.speed u.step_over (search_at u x h).period
  unfolding next_step
  next_step-searched e = rw e

  -- every step of a period takes the record and the sum of the search
  pub prev_after-period : (s : Float) (over : Bool) (period : Frames) → prev_after u x h (period_step s over period) ≡ (search_at u x h).prev
  unfolding prev_after
  prev_after-period s over period = of-period (prev_after u x h) (λ p k. refl) (λ p k. refl) (λ p. refl) s over period

  pub sum_after-period : (s : Float) (over : Bool) (period : Frames) → sum_after u x h (period_step s over period) ≡ (search_at u x h).sum
  unfolding sum_after
  sum_after-period s over period = of-period (sum_after u x h) (λ p k. refl) (λ p k. refl) (λ p. refl) s over period
