-- What holds of every call's work. Here:
--   held-ready            its stretch is ready for its steps
--   stalled-exactly       it answers stalled exactly when stepping over is off and one of its steps gives no frame
-- Assumes nothing.
use mathlib.Core.Path.{◌≡◌, refl, sym, ap, ◌∙◌}
use mathlib.Core.Bool.{Bool, true, false, cond, false≢true}
use mathlib.Core.Logic.{◌⊎◌, inl, inr}
use mathlib.Core.List.Memᴰ
use mathlib.Core.List.{List, [], ◌∷◌, Memᴰ}
use Prim.Native.Nat.{ℕ, ◌^◌, ◌≤◌}
use native.Mathlib.Omega.{arith}
use borrow.Author.Tests.{eqb-false}
use lib.Dec.{eqb, ltb}
use lib.Ieee.{Float}
use lib.ListN.{length}
use Rattle.frames.specs.declared.Frames.{Frames}
use Rattle.frames.specs.Framing.{flat}
use Rattle.floats.specs.Settings.{sample_period}
use Rattle.floats.specs.Write.{speed_changes}
use Rattle.period.specs.Rates.{InLimits, max_required}
use Rattle.period.specs.Pitch.{PeriodIn}
use Rattle.stretch.specs.declared.Step.{Step}
use Rattle.stretch.specs.Steps.{frames_out, StretchReady}
use Rattle.stretch.specs.Speed as Speed
use Rattle.stretch.proofs.Claims as Stretch
use Rattle.stream.specs.State.{State, steps_over}
use Rattle.fill.specs.declared.Outcome.{Outcome}
use Rattle.fill.specs.declared.Outcome.TheVariants.{Empty, Copied, Waiting, Stretched, Stalled}
use Rattle.fill.specs.Taking.{Taken, nothing, copied, stretched, taken_at, taken, speed_at, call_at, place_of, steps_at}
use Rattle.process.specs.Process.{finished, process}
use Rattle.fill.proofs.Branches.{speed_fits}

-- what the claim asks of a state: rate and channels in range, few frames, a period record in the range
pub record Held (s : State) : Type 0 where
  pub limits : InLimits s.rate s.channels
  pub few : length s.input ≤ 2 ^ 24
  pub prev : PeriodIn s.rate s.prev

-- the outcome o is stalled exactly when stepping over is off and one of the steps gives no frame
abbrev pub StallsExactly : Bool → Outcome → List Step → Type 0
StallsExactly over o steps =
    (o ≡ Stalled → (over ≡ false) × ((t : Step) × Memᴰ t steps × (frames_out t ≡ 0)))
    × (over ≡ false → (t : Step) → Memᴰ t steps → frames_out t ≡ 0 → o ≡ Stalled)

abbrev is_stalled : Outcome → Bool
is_stalled Empty = false
is_stalled Copied = false
is_stalled Waiting = false
is_stalled Stretched = false
is_stalled Stalled = true

-- without steps, and with another outcome
no_steps : (over : Bool) (o : Outcome) → is_stalled o ≡ false → StallsExactly over o []
no_steps over o e = (λ f. absurd (false≢true (sym e ∙ ap is_stalled f)), λ off t m z. absurd (Memᴰ.not-nil m))

-- with one copying step, of some frames
one-copied : (over : Bool) (n : Frames) → 1 ≤ n.0 → StallsExactly over Copied (Step.Copied n ∷ [])
one-copied over n some = (λ e. absurd (false≢true (ap is_stalled e)), λ off t m z. absurd (gives-some t (Memᴰ.cases_cons m) z))
  where
    gives-some : (t : Step) → (t ≡ Step.Copied n) ⊎ Memᴰ t [] → frames_out t ≡ 0 → ⊥
    gives-some t (inl e) z = let none : n.0 ≡ 0 = sym (ap frames_out e) ∙ z in omega arith
    gives-some t (inr m) z = Memᴰ.not-nil m

-- by whether one of the steps stalls
stretch-cases : (over b : Bool) (steps : List Step) → (b ≡ true → (over ≡ false) × ((t : Step) × Memᴰ t steps × (frames_out t ≡ 0)))
    → (over ≡ false → (t : Step) → Memᴰ t steps → frames_out t ≡ 0 → b ≡ true) → StallsExactly over (cond b Stalled Stretched) steps
stretch-cases over true steps some stalls = (λ e. some refl, λ off t m z. refl)
stretch-cases over false steps some stalls = (λ e. absurd (false≢true (ap is_stalled e)), λ off t m z. absurd (false≢true (stalls off t m z)))

module _ (s : State) (h : Held s) where
  abbrev x : Float
  x = speed_at s

  abbrev over : Bool
  over = steps_over s.step_over

  pub held-ready : StretchReady (call_at (speed_at s) s)
  held-ready = record {
    opened = h.limits;
    period_is = refl;
    speed_fits = speed_fits (length s.input) (sample_period s.rate) s.input_play_time;
    few = h.few;
  }

  stretched-exactly : StallsExactly over (stretched x s).told.outcome (stretched x s).steps
  unfolding stretched
  stretched-exactly =
      let exactly = Stretch.stalled-exactly (flat s.input) (place_of s) held-ready h.prev in
      stretch-cases over (Speed.stalled (steps_at x s)) (steps_at x s) exactly.0 exactly.1

  at-exactly : (changes few : Bool) → 1 ≤ length s.input → (t : Taken)
      → t ≡ cond changes (cond few (nothing Waiting s) (stretched x s)) (copied s) → StallsExactly over t.told.outcome t.steps
  unfolding nothing copied
  at-exactly true true some t e = rw e (no_steps over Waiting refl)
  at-exactly true false some t e = rw e stretched-exactly
  at-exactly false few some t e = rw e (one-copied over _ some)

  taken-exactly : (none : Bool) → eqb (length s.input) 0 ≡ none → (t : Taken) → t ≡ cond none (nothing Empty s) (taken_at x s)
      → StallsExactly over t.told.outcome t.steps
  unfolding nothing taken_at
  taken-exactly true e t is = rw is (no_steps over Empty refl)
  taken-exactly false e t is =
      at-exactly (speed_changes x) (ltb (length s.input) (max_required s.rate)) (positive (eqb-false (length s.input) 0 e)) t is
    where
      positive : {n : ℕ} → (n ≡ 0 → ⊥) → 1 ≤ n
      positive {n} f = omega (arith, f)

  pub stalled-exactly : StallsExactly over (process s).told.outcome (process s).steps
  unfolding process finished taken
  stalled-exactly = taken-exactly (eqb (length s.input) 0) refl (taken s) refl
