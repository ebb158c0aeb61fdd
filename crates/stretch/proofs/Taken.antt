-- What holds of each step of a call where it is taken, and what follows of the list: which of its steps stalls, how far it comes, how many
-- samples it gives. Assumes nothing.
use mathlib.Core.Path.{◌≡◌, refl, sym, ap, ◌∙◌, subst}
use mathlib.Core.Bool.{Bool, true, false, ◌||◌, or-true, false≢true}
use mathlib.Core.Logic.{◌⊎◌, inl, inr, ⊎_elim}
use mathlib.Core.List.Memᴰ
use mathlib.Core.List.{List, [], ◌∷◌, ◌++◌, Memᴰ}
use Prim.Native.Nat.{ℕ, ◌+◌, ◌*◌, ◌≤◌, ◌<◌}
use native.Mathlib.Nat.{zero-mul, add-mul}
use native.Mathlib.Omega.{arith}
use borrow.Author.Tests.{eqb-true, eq-eqb}
use lib.IntN.{ℤ}
use lib.ListN.{length, length-append}
use Rattle.period.specs.Rates.{max_required}
use Rattle.period.specs.Pitch.{PeriodIn}
use Rattle.stretch.specs.declared.StretchCall.{StretchCall}
use Rattle.stretch.specs.declared.Place.{Place}
use Rattle.stretch.specs.declared.Step.{Step}
use Rattle.stretch.specs.declared.Step.TheVariants.{Copied, Skipped, Inserted, Passed}
use Rattle.stretch.specs.Steps.{frames_out, frames_used, periods_passed, stalls, samples_out, after, place_after, StretchReady, Sound}
use Rattle.stretch.specs.Tally.{tally}
use Rattle.stretch.specs.Speed.{steps, frames_made, samples_of, last_place, stalled}
use Rattle.stretch.proofs.Soundness.{next_step-sound, samples_out-length, sound-in}
use Rattle.stretch.proofs.Progress.{steps-induct, after-position}

-- ---- each step of a list is sound where it is taken

abbrev pub AllSound : StretchCall → List ℤ → Place → List Step → Type 0
AllSound u x h [] = Unit {0}
AllSound u x h (s ∷ ss) = Sound u.held.0 h.position.0 s × AllSound u x (after u x h s) ss

pub steps-sound : {u : StretchCall} (x : List ℤ) (h : Place) → StretchReady u → PeriodIn u.rate h.prev → AllSound u x h (steps u x h)
steps-sound {u} x h r o =
    steps-induct x r (AllSound u x) (λ _ _. tt) (λ p q d _. (next_step-sound x p r q d, tt)) (λ p ss q d _ k. (next_step-sound x p r q d, k)) h o

module _ (u : StretchCall) (x : List ℤ) where
  -- a step of the list is sound somewhere
  pub member-sound : (h : Place) (ss : List Step) {s : Step} → AllSound u x h ss → Memᴰ s ss → (at : ℕ) × Sound u.held.0 at s
  member-sound h [] a m = absurd (Memᴰ.not-nil m)
  member-sound h (t ∷ ss) {s} a m =
      ⊎_elim (λ e. (h.position.0, subst (Sound u.held.0 h.position.0) (sym e) a.0)) (λ n. member-sound (after u x h t) ss a.1 n)
      (Memᴰ.cases_cons m)

  -- after the first of them the position is within the frames held
  pub front-in : (h : Place) (front back : List Step) → AllSound u x h (front ++ back) → h.position.0 ≤ u.held.0
      → (last_place u x h front).position.0 ≤ u.held.0
  unfolding last_place
  front-in h [] back a k = k
  front-in h (s ∷ ss) back a k =
      front-in (after u x h s) ss back a.1 (subst (λ (n : ℕ). n ≤ u.held.0) (sym (after-position u x h s)) (sound-in a.0))

  -- as many samples as frames
  pub sound-length : (h : Place) (ss : List Step) → AllSound u x h ss → u.held.0 * u.channels ≤ length x
      → length (samples_of u.channels x h.position.0 ss) ≡ frames_made ss * u.channels
  unfolding samples_of tally after place_after
  sound-length h [] a k = sym (zero-mul u.channels)
  sound-length h (s ∷ ss) a k =
      let rest = samples_of u.channels x (h.position.0 + frames_used s) ss in
      length-append (samples_out u.channels x h.position.0 s) rest
      ∙ (λ i. samples_out-length s u.channels x a.0 k i + sound-length (after u x h s) ss a.1 k i)
      ∙ sym (add-mul (frames_out s) (frames_made ss) u.channels)

-- ---- a step that gives no frame is a skip with k = 0, and that is a stall unless it is passed over

stalls-none : (s : Step) → stalls s ≡ true → frames_out s ≡ 0
stalls-none (Copied n) e = absurd (false≢true e)
stalls-none (Skipped period k) e = eqb-true k.0 0 e
stalls-none (Inserted period k) e = absurd (false≢true e)
stalls-none (Passed period) e = absurd (false≢true e)

pub none-some : {n : ℕ} → n ≡ 0 → 1 ≤ n → ⊥
none-some e h = omega arith

sum-zero : (a b : ℕ) → 1 ≤ b → a + b ≡ 0 → ⊥
sum-zero a b h e = omega arith

none-stalls : {held at : ℕ} (s : Step) → Sound held at s → periods_passed s ≡ 0 → frames_out s ≡ 0 → stalls s ≡ true
none-stalls (Copied n) r p e = absurd (none-some e r.some)
none-stalls (Skipped period k) r p e = eq-eqb k.0 0 e
none-stalls (Inserted period k) r p e = absurd (sum-zero period.0 k.0 r.some e)
none-stalls (Passed period) r p e = absurd (none-some p (omega arith))

or_cases : (a b : Bool) → (a || b) ≡ true → (a ≡ true) ⊎ (b ≡ true)
or_cases true b e = inl refl
or_cases false b e = inr e

pub stalled-member : (ss : List Step) → stalled ss ≡ true → (s : Step) × Memᴰ s ss × (frames_out s ≡ 0)
unfolding stalled
stalled-member [] e = absurd (false≢true e)
stalled-member (s ∷ ss) e =
    ⊎_elim (λ f. (s, Memᴰ.head refl, stalls-none s f)) (λ f. let m = stalled-member ss f in (m.0, Memᴰ.tail m.1, m.2))
    (or_cases (stalls s) (stalled ss) e)

pub member-stalled : {held : ℕ} (ss : List Step) {s : Step} → Memᴰ s ss → (at : ℕ) × Sound held at s → (tally ss).passed ≡ 0 → frames_out s ≡ 0
    → stalled ss ≡ true
unfolding stalled tally
member-stalled [] m r p e = absurd (Memᴰ.not-nil m)
member-stalled (t ∷ ss) {s} m r p e =
    let none : periods_passed t ≡ 0 = omega arith in
    let none-later : (tally ss).passed ≡ 0 = omega arith in
    ⊎_elim (λ f. let here : stalls t ≡ true = ap stalls (sym f) ∙ none-stalls s r.1 (ap periods_passed f ∙ none) e in rw here)
    (λ n. let later = member-stalled ss n r none-later e in rw later (or-true (stalls t))) (Memᴰ.cases_cons m)

-- ---- where no step stalls, the list ends because too few frames are left

pub steps-ends : {u : StretchCall} (x : List ℤ) (h : Place) → StretchReady u → PeriodIn u.rate h.prev
    → stalled (steps u x h) ≡ false → u.held.0 < (last_place u x h (steps u x h)).position.0 + max_required u.rate
unfolding stalled last_place
steps-ends {u} x h r o =
    steps-induct x r (λ p ss. stalled ss ≡ false → u.held.0 < (last_place u x p ss).position.0 + max_required u.rate)
    (λ _ d _. d)
    (λ _ _ _ e f. absurd (false≢true (sym f ∙ ap (λ (t : Bool). t || false) e)))
    (λ _ ss _ _ e k f. k (sym (ap (λ (t : Bool). t || stalled ss) e) ∙ f))
    h o
