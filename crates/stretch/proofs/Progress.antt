-- Each step uses a frame at least, so that a call has no more steps than frames held, and `steps_in` does not run out. Assumes nothing.
use mathlib.Core.Path.{◌≡◌, refl, sym, ap, subst}
use mathlib.Core.Bool.{Bool, true, false, cond}
use mathlib.Core.List.{List, [], ◌∷◌}
use Prim.Native.Nat.{ℕ, zero, suc, ◌+◌, ◌≤◌, ◌<◌}
use native.Mathlib.Omega.{arith}
use borrow.Author.Tests.{leb-true, leb-false, le-leb, lt-leb}
use lib.Dec.{leb}
use lib.IntN.{ℤ}
use Rattle.period.specs.Rates.{max_required}
use Rattle.period.specs.Pitch.{PeriodIn}
use Rattle.stretch.specs.declared.StretchCall.{StretchCall}
use Rattle.stretch.specs.declared.Place.{Place}
use Rattle.stretch.specs.declared.Step.{Step}
use Rattle.stretch.specs.Steps.{next_step, frames_used, stalls, place_after, after, StretchReady}
use Rattle.stretch.specs.Speed.{steps_in, steps}
use Rattle.stretch.proofs.Soundness.{next_step-sound, after-in}

-- the place after the step that is due
abbrev pub next : StretchCall → List ℤ → Place → Place
next u x h = after u x h (next_step u x h)

pub after-position : (u : StretchCall) (x : List ℤ) (h : Place) (s : Step) → (after u x h s).position.0 ≡ h.position.0 + frames_used s
unfolding after place_after
after-position u x h s = refl

pub required_some : {u : StretchCall} → StretchReady u → 1 ≤ max_required u.rate
required_some r = omega (arith, r.opened.rate_low)

-- the next place is further on
pub further : {u : StretchCall} (x : List ℤ) (h : Place) → StretchReady u → PeriodIn u.rate h.prev → h.position.0 + max_required u.rate ≤ u.held.0
    → h.position.0 < (next u x h).position.0
further {u} x h r o due = omega (arith, after-position u x h (next_step u x h), (next_step-sound x h r o due).some)

-- ---- the number of steps

abbrev goes_on : StretchCall → Place → Bool
goes_on u h = leb (h.position.0 + max_required u.rate) u.held.0

not-due : (n : ℕ) (u : StretchCall) (x : List ℤ) (h : Place) → u.held.0 < h.position.0 + max_required u.rate → steps_in n u x h ≡ []
unfolding steps_in
not-due zero u x h p = refl
not-due (suc n) u x h p = rw (lt-leb (h.position.0 + max_required u.rate) u.held.0 p)

due-cases : (t : Bool) (m n : ℕ) (u : StretchCall) (x : List ℤ) (h : Place) → goes_on u h ≡ t
    → (h.position.0 + max_required u.rate ≤ u.held.0 → steps_in m u x (next u x h) ≡ steps_in n u x (next u x h))
    → cond t (next_step u x h ∷ cond (stalls (next_step u x h)) [] (steps_in m u x (next u x h))) []
    ≡ cond t (next_step u x h ∷ cond (stalls (next_step u x h)) [] (steps_in n u x (next u x h))) []
due-cases false m n u x h e f = refl
due-cases true m n u x h e f =
    ap (λ (l : List Step). next_step u x h ∷ cond (stalls (next_step u x h)) [] l) (f (leb-true (h.position.0 + max_required u.rate) u.held.0 e))

module _ {u : StretchCall} (x : List ℤ) (r : StretchReady u) where
  -- two counts that both reach the frames held give the same steps
  enough : (m n : ℕ) (h : Place) → PeriodIn u.rate h.prev → u.held.0 ≤ h.position.0 + m → u.held.0 ≤ h.position.0 + n
      → steps_in m u x h ≡ steps_in n u x h
  unfolding steps_in
  enough zero n h o p q = sym (not-due n u x h (omega (arith, required_some r)))
  enough (suc m) zero h o p q = not-due (suc m) u x h (omega (arith, required_some r))
  enough (suc m) (suc n) h o p q =
      due-cases (goes_on u h) m n u x h refl
      (λ d. let v = further x h r o d in enough m n (next u x h) (after-in x h r o (next_step u x h)) (omega arith) (omega arith))

  one_more : (n : ℕ) (h : Place) → u.held.0 ≡ n → PeriodIn u.rate h.prev → h.position.0 + max_required u.rate ≤ u.held.0
      → steps_in n u x h ≡ next_step u x h ∷ cond (stalls (next_step u x h)) [] (steps_in n u x (next u x h))
  unfolding steps_in
  one_more zero h e o d = absurd (none h.position.0 (max_required u.rate) u.held.0 e (required_some r) d)
    where
      none : (a b c : ℕ) → c ≡ 0 → 1 ≤ b → a + b ≤ c → ⊥
      none a b c e f g = omega arith
  one_more (suc n) h e o d =
      let v = further x h r o d in
      let t : goes_on u h ≡ true = le-leb (h.position.0 + max_required u.rate) u.held.0 d in
      let same = enough n (suc n) (next u x h) (after-in x h r o (next_step u x h)) (omega arith) (omega arith) in
      rw t (ap (λ (l : List Step). next_step u x h ∷ cond (stalls (next_step u x h)) [] l) same)

  -- where a step is due, it and the steps from the place after it on
  pub steps_on : (h : Place) → PeriodIn u.rate h.prev → h.position.0 + max_required u.rate ≤ u.held.0
      → steps u x h ≡ next_step u x h ∷ cond (stalls (next_step u x h)) [] (steps u x (next u x h))
  unfolding steps
  steps_on h o d = one_more u.held.0 h refl o d

-- where none is due, none
pub steps-end : (u : StretchCall) (x : List ℤ) (h : Place) → u.held.0 < h.position.0 + max_required u.rate → steps u x h ≡ []
unfolding steps
steps-end u x h p = not-due u.held.0 u x h p

-- ---- what holds where a call ends, where it stalls, and of one step more, holds of all steps from a place on

module _ {u : StretchCall} (x : List ℤ) (r : StretchReady u) (P : Place → List Step → Type 0)
    (ends : (h : Place) → u.held.0 < h.position.0 + max_required u.rate → P h [])
    (stops : (h : Place) → PeriodIn u.rate h.prev → h.position.0 + max_required u.rate ≤ u.held.0 → stalls (next_step u x h) ≡ true
    → P h (next_step u x h ∷ []))
    (goes : (h : Place) (ss : List Step) → PeriodIn u.rate h.prev → h.position.0 + max_required u.rate ≤ u.held.0
    → stalls (next_step u x h) ≡ false → P (next u x h) ss → P h (next_step u x h ∷ ss)) where
  by-stall : (t : Bool) (h : Place) → PeriodIn u.rate h.prev → h.position.0 + max_required u.rate ≤ u.held.0
      → stalls (next_step u x h) ≡ t → P (next u x h) (steps u x (next u x h)) → P h (next_step u x h ∷ cond t [] (steps u x (next u x h)))
  by-stall true h o d e k = stops h o d e
  by-stall false h o d e k = goes h (steps u x (next u x h)) o d e k

  by-due : (t : Bool) (h : Place) → PeriodIn u.rate h.prev → goes_on u h ≡ t
      → (h.position.0 + max_required u.rate ≤ u.held.0 → P (next u x h) (steps u x (next u x h))) → P h (steps u x h)
  by-due false h o e k =
      let d = leb-false (h.position.0 + max_required u.rate) u.held.0 e in
      subst (P h) (sym (steps-end u x h d)) (ends h d)
  by-due true h o e k =
      let d = leb-true (h.position.0 + max_required u.rate) u.held.0 e in
      subst (P h) (sym (steps_on x r h o d)) (by-stall (stalls (next_step u x h)) h o d refl (k d))

  by_count : (n : ℕ) (h : Place) → PeriodIn u.rate h.prev → u.held.0 ≤ h.position.0 + n → P h (steps u x h)
  by_count zero h o k =
      let d : u.held.0 < h.position.0 + max_required u.rate = omega (arith, required_some r) in
      subst (P h) (sym (steps-end u x h d)) (ends h d)
  by_count (suc n) h o k =
      by-due (goes_on u h) h o refl (λ d. let v = further x h r o d in by_count n (next u x h) (after-in x h r o (next_step u x h)) (omega arith))

  pub steps-induct : (h : Place) → PeriodIn u.rate h.prev → P h (steps u x h)
  steps-induct h o = by_count u.held.0 h o (omega arith)
