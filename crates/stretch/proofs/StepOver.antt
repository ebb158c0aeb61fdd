-- docs/RULES.md, "Stepping over a stall": stepping over, no step stalls; not stepping over, none passes over a period. Assumes nothing.
use mathlib.Core.Path.{◌≡◌, refl, sym, ap, ◌∙◌}
use mathlib.Core.Bool.{Bool, true, false, cond, ◌&&◌, ◌||◌, false≢true}
use mathlib.Core.List.{List}
use native.Mathlib.Omega.{arith}
use lib.Dec.{eqb}
use lib.IntN.{ℤ}
use lib.Ieee.{lt}
use Rattle.frames.specs.declared.Frames.{Frames}
use Rattle.floats.specs.Numbers.{one}
use Rattle.floats.specs.Steps.{copying_due, skip_count}
use Rattle.period.specs.Pitch.{PeriodIn}
use Rattle.stretch.specs.declared.StretchCall.{StretchCall}
use Rattle.stretch.specs.declared.Place.{Place}
use Rattle.stretch.specs.declared.Step.TheVariants.{Copied, Skipped, Inserted, Passed}
use Rattle.stretch.specs.Steps.{search_at, next_step, periods_passed, stalls, StretchReady}
use Rattle.stretch.specs.Tally.{tally}
use Rattle.stretch.specs.Speed.{steps, stalled}
use Rattle.stretch.proofs.Progress.{steps-induct}

-- ---- one step

over-goes : (over copying above b : Bool) (n period k l : Frames) → over ≡ true → (over && eqb k.0 0) ≡ b
    → stalls (cond copying (Copied n) (cond above (cond b (Passed period) (Skipped period k)) (Inserted period l))) ≡ false
over-goes false copying above b n period k l o e = absurd (false≢true o)
over-goes true true above b n period k l o e = refl
over-goes true false true true n period k l o e = refl
over-goes true false true false n period k l o e = e
over-goes true false false b n period k l o e = refl

none-due : (copying above b : Bool) (n period k l : Frames) → (above && b) ≡ false
    → periods_passed (cond copying (Copied n) (cond above (cond b (Passed period) (Skipped period k)) (Inserted period l))) ≡ 0
none-due true above b n period k l e = refl
none-due false false b n period k l e = refl
none-due false true b n period k l e = rw e refl

off-due : (above over none : Bool) → over ≡ false → (above && (over && none)) ≡ false
off-due above true none o = absurd (false≢true (sym o))
off-due true false none o = refl
off-due false false none o = refl

module _ (u : StretchCall) (x : List ℤ) where
  next-goes : (h : Place) → u.step_over ≡ true → stalls (next_step u x h) ≡ false
  unfolding next_step
  next-goes h e =
      let period = (search_at u x h).period in
      let k : Frames = record { 0 = skip_count u.speed period.0 } in
      over-goes u.step_over (copying_due u.speed h.time_error) (lt one u.speed) _ _ period k _ e refl

  -- whether a skip at a place is passed over
  abbrev pub passes_at : Place → Bool
  passes_at h = u.step_over && eqb (skip_count u.speed (search_at u x h).period.0) 0

  next-none : (h : Place) → (lt one u.speed && passes_at h) ≡ false → periods_passed (next_step u x h) ≡ 0
  unfolding next_step
  next-none h e =
      let period = (search_at u x h).period in
      let k : Frames = record { 0 = skip_count u.speed period.0 } in
      none-due (copying_due u.speed h.time_error) (lt one u.speed) (passes_at h) _ period k _ e

  -- ---- all steps of a call

  module _ (h : Place) (r : StretchReady u) (o : PeriodIn u.rate h.prev) where
    pub over-never-stalls : u.step_over ≡ true → stalled (steps u x h) ≡ false
    unfolding stalled
    over-never-stalls e =
        steps-induct x r (λ p ss. stalled ss ≡ false) (λ _ _. refl) (λ p _ _ f. absurd (false≢true (sym (next-goes p e) ∙ f)))
        (λ _ ss _ _ f k. ap (λ (t : Bool). t || stalled ss) f ∙ k) h o

    -- where no skip is, none is counted
    pub passes_none : ((p : Place) → PeriodIn u.rate p.prev → (lt one u.speed && passes_at p) ≡ false) → (tally (steps u x h)).passed ≡ 0
    unfolding tally
    passes_none none =
        steps-induct x r (λ p ss. (tally ss).passed ≡ 0) (λ _ _. refl) (λ p q _ _. omega (arith, next-none p (none p q)))
        (λ p ss q _ _ k. omega (arith, next-none p (none p q), k)) h o

    pub off-passes-none : u.step_over ≡ false → (tally (steps u x h)).passed ≡ 0
    off-passes-none e = passes_none (λ p q. off-due (lt one u.speed) u.step_over _ e)
