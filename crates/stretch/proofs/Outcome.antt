-- The answer of a call that has ended, and of one that gives too many frames. Assumes nothing.
use mathlib.Core.Path.{◌≡◌, sym, ap, ◌∙◌, subst}
use mathlib.Core.Bool.{Bool, cond}
use mathlib.Core.List.{List}
use Rattle.std.specs.Prelude.{None, Some}
use Prim.Native.Nat.{ℕ, ◌*◌, ◌≤◌, ◌<◌}
use native.Mathlib.Nat.{not-le_of_lt}
use native.Mathlib.Omega.{arith}
use borrow.Author.Tests.{lt-ltb, le-ltb}
use lib.IntN.{ℤ}
use lib.ListN.{take}
use lib.Seq.{paste}
use Rattle.period.specs.Pitch.{PrevInOrder}
use Rattle.stretch.specs.declared.StretchCall.{StretchCall}
use Rattle.stretch.specs.declared.Place.{Place}
use Rattle.stretch.specs.Speed.{steps, frames_made, samples_of, answer, answer_for, change_speed, AreaAfter}
use Rattle.stretch.proofs.Between.{Ended}

module _ {u : StretchCall} {x : List ℤ} {h₀ : Place} {area₀ area : List ℤ} {to room most : ℕ} {h : Place} {made passed : ℕ} {t : Bool}
    (e : Ended u x h₀ area₀ area to room most h made passed t) where
  pub ended-made : Some (answer made (cond t 0 h.position.0) passed h t) ≡ change_speed u x h₀ most
  unfolding change_speed answer_for
  ended-made =
      let fits : frames_made (steps u x h₀) ≤ most = omega (arith, e.frames, e.fits) in
      sym (rw (le-ltb most (frames_made (steps u x h₀)) fits)
      (λ i. Some (answer (e.frames i) (cond (e.stall i) 0 (e.place i).position.0) (e.periods i) (e.place i) (e.stall i))))

  pub ended-area : AreaAfter u x h₀ room most area₀ area to
  ended-area =
      let samples = samples_of u.channels x h₀.position.0 (steps u x h₀) in
      record {
        kept = e.kept;
        written = λ _ k. e.samples (omega (arith, e.frames)) ∙ ap (λ (n : ℕ). paste area₀ to samples (n * u.channels)) (sym e.frames);
        in_order = λ _. subst (λ (p : Place). PrevInOrder u.rate p.prev) (sym e.place) e.in_order;
      }

module _ (u : StretchCall) (x : List ℤ) (h₀ : Place) (room most : ℕ) (over : most < frames_made (steps u x h₀)) where
  pub over-made : None ≡ change_speed u x h₀ most
  unfolding change_speed
  over-made = sym (rw (lt-ltb most (frames_made (steps u x h₀)) over))

  pub over-area : {area₀ area : List ℤ} {to : ℕ} → take to area ≡ take to area₀ → AreaAfter u x h₀ room most area₀ area to
  over-area k = record { kept = k; written = λ f _. absurd (not-le_of_lt over f); in_order = λ f. absurd (not-le_of_lt over f) }
