-- A call with fewer frames than a search looks at and the shortest period more: where it passes over a period, that is its one step
-- (`passed-alone`), so that the frames which it uses are that period. The skim tool writes so few at a time. Assumes nothing.
use mathlib.Core.Path.{◌≡◌, refl, sym, ap, ◌∙◌, subst}
use mathlib.Core.Bool.{Bool, true, false, cond, ◌&&◌, true≢false}
use mathlib.Core.List.{List, [], ◌∷◌}
use Prim.Native.Nat.{◌+◌, ◌≤◌, ◌<◌}
use native.Mathlib.Omega.{arith}
use borrow.Author.Tests.{leb-true, leb-false, ne_eqb}
use lib.Dec.{T, eqb, leb}
use lib.IntN.{ℤ}
use lib.Ieee.{lt, le}
use Rattle.frames.specs.declared.Frames.{Frames}
use Rattle.floats.specs.Numbers.{one, two}
use Rattle.floats.specs.Steps.{skip_count}
use Rattle.floats.proofs.FastSpeeds.{fast-copies-none, slow-skips-all}
use Rattle.period.specs.Rates.{min_period, max_required}
use Rattle.period.specs.Pitch.{PeriodIn}
use Rattle.stretch.specs.declared.StretchCall.{StretchCall}
use Rattle.stretch.specs.declared.Place.{Place}
use Rattle.stretch.specs.declared.Step.{Step}
use Rattle.stretch.specs.declared.Step.TheVariants.{Skipped, Passed}
use Rattle.stretch.specs.Steps.{search_at, skip_step, next_step, frames_used, stalls, StretchReady}
use Rattle.stretch.specs.Tally.{tally}
use Rattle.stretch.specs.Speed.{steps}
use Rattle.stretch.proofs.DueStep.{next_step-searched}
use Rattle.stretch.proofs.Soundness.{period_in}
use Rattle.stretch.proofs.StepOver.{passes_none}
use Rattle.stretch.proofs.Taken.{none-some}
use Rattle.stretch.proofs.Progress.{next, steps_on, steps-end, after-position}

-- ---- at a local speed of less than 2, and of 1 or less, no period is passed over

not-zero : (above over none : Bool) → (above && none) ≡ false → (above && (over && none)) ≡ false
not-zero false over none e = refl
not-zero true true none e = e
not-zero true false none e = refl

module _ {u : StretchCall} (x : List ℤ) (r : StretchReady u) where
  abbrev zero_at : Place → Bool
  zero_at h = eqb (skip_count u.speed (search_at u x h).period.0) 0

  -- the test by which none is
  slow : (above fast : Bool) → lt one u.speed ≡ above → le two u.speed ≡ fast → (above && fast) ≡ false
      → (h : Place) → PeriodIn u.rate h.prev → (lt one u.speed && zero_at h) ≡ false
  slow false fast a f e h o = rw a refl
  slow true true a f e h o = absurd (true≢false e)
  slow true false a f e h o =
      let low = r.opened.rate_low in
      let i = period_in x h r o in
      let some : (search_at u x h).period.0 ≡ 0 → ⊥ = λ z. none-some z (omega (arith, i.low)) in
      rw (a, slow-skips-all u.speed (search_at u x h).period.0 f, ne_eqb (search_at u x h).period.0 0 some) refl

  slow-none : (h : Place) → PeriodIn u.rate h.prev → (lt one u.speed && le two u.speed) ≡ false → (tally (steps u x h)).passed ≡ 0
  slow-none h o e =
      passes_none u x h r o
      (λ p q. not-zero (lt one u.speed) u.step_over (zero_at p) (slow (lt one u.speed) (le two u.speed) refl refl e p q))

  -- ---- above that every step uses a period, and few frames allow one step

  module _ (h : Place) (o : PeriodIn u.rate h.prev) (above : lt one u.speed ≡ true) (fast : T (le two u.speed)) where
    abbrev period : Frames
    period = (search_at u x h).period

    abbrev k : Frames
    k = record { 0 = skip_count u.speed period.0 }

    due-is : next_step u x h ≡ skip_step u.step_over period k
    due-is = next_step-searched u x h (fast-copies-none u.speed h.time_error fast) ∙ rw above refl

    used-least : (b : Bool) → min_period u.rate ≤ frames_used (cond b (Passed period) (Skipped period k))
    used-least true = (period_in x h r o).low
    used-least false = omega (arith, (period_in x h r o).low)

    further : h.position.0 + min_period u.rate ≤ (next u x h).position.0
    further =
        let least = used-least (u.step_over && eqb k.0 0) in
        omega (arith, after-position u x h (next_step u x h), ap frames_used due-is, least)

    no_more : (t : Bool) {ss : List Step} → ss ≡ [] → cond t [] ss ≡ []
    no_more true e = refl
    no_more false e = e

    one_only : u.held.0 < h.position.0 + max_required u.rate + min_period u.rate → h.position.0 + max_required u.rate ≤ u.held.0
        → steps u x h ≡ skip_step u.step_over period k ∷ []
    one_only few due =
        let ends : steps u x (next u x h) ≡ [] = steps-end u x (next u x h) (omega (arith, further)) in
        steps_on x r h o due ∙ (λ i. due-is i ∷ no_more (stalls (next_step u x h)) ends i)

    passes-it : (b : Bool) → 1 ≤ (tally (cond b (Passed period) (Skipped period k) ∷ [])).passed
        → cond b (Passed period) (Skipped period k) ∷ [] ≡ Passed period ∷ []
    unfolding tally
    passes-it true some = refl
    passes-it false some = absurd (none-some refl some)

    alone : u.held.0 < h.position.0 + max_required u.rate + min_period u.rate → (due : Bool)
        → leb (h.position.0 + max_required u.rate) u.held.0 ≡ due → 1 ≤ (tally (steps u x h)).passed
        → steps u x h ≡ Passed period ∷ []
    unfolding tally
    alone few true e some =
        let is = one_only few (leb-true (h.position.0 + max_required u.rate) u.held.0 e) in
        is ∙ passes-it (u.step_over && eqb k.0 0) (subst (λ (ss : List Step). 1 ≤ (tally ss).passed) is some)
    alone few false e some =
        let none = steps-end u x h (leb-false (h.position.0 + max_required u.rate) u.held.0 e) in
        absurd (none-some refl (subst (λ (ss : List Step). 1 ≤ (tally ss).passed) none some))

  pub passed-alone : (h : Place) → PeriodIn u.rate h.prev → u.held.0 < h.position.0 + max_required u.rate + min_period u.rate
      → 1 ≤ (tally (steps u x h)).passed → steps u x h ≡ Passed (search_at u x h).period ∷ []
  passed-alone h o few some = by (lt one u.speed) (le two u.speed) refl refl
    where
      by : (above fast : Bool) → lt one u.speed ≡ above → le two u.speed ≡ fast → steps u x h ≡ Passed (search_at u x h).period ∷ []
      by true true a f =
          alone h o a (subst T (sym f) tt) few (leb (h.position.0 + max_required u.rate) u.held.0) refl some
      by true false a f = absurd (none-some (slow-none h o (rw (a, f) refl)) some)
      by false fast a f = absurd (none-some (slow-none h o (rw a refl)) some)
