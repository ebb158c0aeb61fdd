-- How many frames a call's steps make of those that they use, where a step that inserts a period uses at least a `factor`th of its frames: no more than
-- factor + 1 of each (`made-used`), so at most (factor + 1) * held in a call (`made_held`). In a paced run the factor is that of the settings
-- (`paced-grows`). Assumes nothing.
use mathlib.Core.Path.{◌≡◌, sym}
use mathlib.Core.Bool.{Bool, true, false, cond, ◌&&◌}
use mathlib.Core.Logic.{◌⊎◌, ⊎_elim}
use mathlib.Core.List.{List, [], append-nil}
use Prim.Native.Nat.{ℕ, ◌+◌, ◌*◌, ◌≤◌}
use native.Mathlib.Nat.{le_trans, mul-le-mul_left}
use native.Mathlib.Omega.{arith}
use lib.Dec.{T, eqb}
use lib.IntN.{ℤ}
use lib.Ieee.{Float, binary32, div, lt, to_unsigned}
use Rattle.frames.specs.declared.Frames.{Frames}
use Rattle.floats.specs.Numbers.{one}
use Rattle.floats.specs.Steps.{copying_due, skip_count, insert_count}
use Rattle.floats.specs.Settings.{sample_period}
use Rattle.floats.specs.Write.{local_speed}
use Rattle.floats.proofs.Pace.{PaceReady, Paced}
use Rattle.floats.proofs.PaceSteps.{growth_factor, insert-grows}
use Rattle.period.specs.Rates.{max_period, max_required}
use Rattle.period.specs.Pitch.{PeriodIn}
use Rattle.stretch.specs.declared.StretchCall.{StretchCall}
use Rattle.stretch.specs.declared.Place.{Place}
use Rattle.stretch.specs.declared.Step.{Step}
use Rattle.stretch.specs.declared.Step.TheVariants.{Copied, Skipped, Inserted, Passed}
use Rattle.stretch.specs.Steps.{frames_out, frames_used, search_at, next_step, StretchReady}
use Rattle.stretch.specs.Tally.{tally}
use Rattle.stretch.specs.Speed.{steps, frames_made}
use Rattle.stretch.proofs.Soundness.{period_in}
use Rattle.stretch.proofs.Progress.{steps-induct}
use Rattle.stretch.proofs.Balance.{position-used}
use Rattle.stretch.proofs.Claims.{position-held}

-- at the local speed s a period is skipped, or one is inserted that is at most `factor` times the frames used
abbrev pub InsertsFew : ℕ → Float → ℕ → Type 0
InsertsFew factor s p = T (lt one s) ⊎ (p ≤ factor * insert_count s p)

-- for every period of the rate
abbrev pub GrowsFew : ℕ → StretchCall → Type 0
GrowsFew factor u = (p : ℕ) → 1 ≤ p → p ≤ max_period u.rate → InsertsFew factor u.speed p

-- ---- one step

abbrev Few : ℕ → Step → Type 0
Few factor s = frames_out s ≤ (factor + 1) * frames_used s

due-few : (factor : ℕ) (copying above none : Bool) (n period k l : Frames) → T above ⊎ (period.0 ≤ factor * l.0)
    → Few factor (cond copying (Copied n) (cond above (cond none (Passed period) (Skipped period k)) (Inserted period l)))
due-few factor true above none n period k l g = omega arith
due-few factor false true true n period k l g = omega arith
due-few factor false true false n period k l g = omega arith
due-few factor false false none n period k l g = ⊎_elim (λ t. absurd t) (λ m. omega (arith, m)) g

module _ {u : StretchCall} (x : List ℤ) (r : StretchReady u) (factor : ℕ) (g : GrowsFew factor u) where
  next-few : (h : Place) → PeriodIn u.rate h.prev → Few factor (next_step u x h)
  unfolding next_step
  next-few h o =
      let i = period_in x h r o in
      let low = r.opened.rate_low in
      due-few factor (copying_due u.speed h.time_error) (lt one u.speed)
      (u.step_over && eqb (skip_count u.speed (search_at u x h).period.0) 0) _ _ _ _ (g (search_at u x h).period.0 (omega (arith, i.low)) i.high)

  -- ---- all steps of a call

  module _ (h : Place) (o : PeriodIn u.rate h.prev) where
    pub made-used : frames_made (steps u x h) ≤ (factor + 1) * (tally (steps u x h)).used
    unfolding tally
    made-used =
        steps-induct x r (λ _ ss. frames_made ss ≤ (factor + 1) * (tally ss).used) (λ _ _. omega arith) (λ p q _ _. omega (arith, next-few p q))
        (λ p ss q _ _ k. omega (arith, next-few p q, k)) h o

    pub made_held : h.position.0 ≤ u.held.0 → frames_made (steps u x h) ≤ (factor + 1) * u.held.0
    made_held k =
        let last = position-held x h r o (steps u x h) [] (sym (append-nil (steps u x h))) k in
        let used : (tally (steps u x h)).used ≤ u.held.0 = omega (arith, last, position-used u x h (steps u x h)) in
        le_trans made-used (mul-le-mul_left (factor + 1) used)

-- ---- a call of a paced run

pub paced-grows : (u : StretchCall) {speed pitch : Float} {most : ℕ} → (let r = max_required u.rate in
    PaceReady u.rate speed pitch r most → Paced u.rate speed pitch r most u.held.0 u.input_play_time
    → u.speed ≡ local_speed u.held.0 (sample_period u.rate) u.input_play_time → r ≤ u.held.0 → u.held.0 ≤ most
    → (most ≤ 3 * r) ⊎ (2 ≤ to_unsigned 64 (div binary32 speed pitch)) → GrowsFew (growth_factor speed pitch (max_period u.rate)) u)
paced-grows u w paced is low high regime p some within =
    let top = w.rate_high in
    rw is (insert-grows w paced low high regime p (max_period u.rate) some within (omega (arith, top)))
