-- What a turn tells: that a step gives too many frames, or where the call has come to; and what it leaves in the area. Assumes nothing.
use mathlib.Core.Path.{◌≡◌, refl, sym, ap, ◌∙◌, subst}
use mathlib.Core.Bool.{Bool, true, false, cond, ◌||◌, false≢true}
use mathlib.Core.List.{List}
use Rattle.std.specs.Prelude.{None, Some}
use Prim.Native.Nat.{ℕ, ◌+◌, ◌*◌, ◌≤◌, ◌<◌}
use native.Mathlib.Nat.{mul-le-mul_right}
use native.Mathlib.Omega.{arith}
use borrow.Author.Tests.{ltb-true, ltb-false, le-ltb}
use lib.Dec.{ltb}
use lib.IntN.{ℤ}
use lib.ListN.{length, take}
use lib.Seq.{paste, take-take}
use Rattle.frames.proofs.Pasted.{paste-front}
use Rattle.stretch.specs.declared.StretchCall.{StretchCall}
use Rattle.stretch.specs.declared.Place.{Place}
use Rattle.stretch.specs.declared.Step.{Step}
use Rattle.stretch.specs.declared.Went.{Went}
use Rattle.stretch.specs.Steps.{frames_out, periods_passed, stalls, samples_out, after, turn_for, area_for}

or_right : (a b : Bool) → (a || b) ≡ false → b ≡ false
or_right true b e = absurd (false≢true (sym e))
or_right false b e = e

-- a turn that went on: the step gives no more frames than it may, the place after it, its frames, the periods passed over, and whether it
-- stalls
pub record Gone (u : StretchCall) (x : List ℤ) (h : Place) (made most : ℕ) (s : Step) (w : Went) : Type 0 where
  pub fits : made + frames_out s ≤ most
  pub place : w.place ≡ after u x h s
  pub frames : w.frames.0 ≡ frames_out s
  pub passed : w.passed ≡ periods_passed s
  pub stall : w.stalled ≡ stalls s

module _ (u : StretchCall) (x : List ℤ) (h : Place) (made most : ℕ) (s : Step) where
  abbrev stepped : Went
  stepped = record { place = after u x h s; frames = record { 0 = frames_out s }; passed = periods_passed s; stalled = stalls s }

  pub too_many : turn_for u x h made most s ≡ None → most < made + frames_out s
  unfolding turn_for
  too_many = go (ltb most (made + frames_out s)) refl
    where
      go : (b : Bool) → ltb most (made + frames_out s) ≡ b → cond b None (Some stepped) ≡ None → most < made + frames_out s
      go true e f = ltb-true most (made + frames_out s) e
      go false e f = cc

  pub gone : {w : Went} → turn_for u x h made most s ≡ Some w → Gone u x h made most s w
  unfolding turn_for
  gone {w} = go (ltb most (made + frames_out s)) refl
    where
      go : (b : Bool) → ltb most (made + frames_out s) ≡ b → cond b None (Some stepped) ≡ Some w → Gone u x h made most s w
      go true e f = cc
      go false e f =
          let same : stepped ≡ w = cc in
          subst (Gone u x h made most s) same (record { fits = ltb-false most (made + frames_out s) e; place = refl; frames = refl; passed = refl; stall = refl })

module _ (u : StretchCall) (x : List ℤ) (h : Place) (made room most : ℕ) (s : Step) where
  pub area-written : (area : List ℤ) (to : ℕ) → made + frames_out s ≤ most → made + frames_out s ≤ room
      → area_for u x h made room most area to s
      ≡ paste area (to + made * u.channels) (samples_out u.channels x h.position.0 s) (frames_out s * u.channels)
  unfolding area_for
  area-written area to k f = rw (le-ltb most (made + frames_out s) k, le-ltb room (made + frames_out s) f)

  -- what lies before the place `to` stays
  pub area-kept : (area : List ℤ) (to : ℕ) → to + room * u.channels ≤ length area → take to (area_for u x h made room most area to s) ≡ take to area
  unfolding area_for
  area-kept area to fits = go (ltb most (made + frames_out s) || ltb room (made + frames_out s)) refl
    where
      samples : List ℤ
      samples = samples_out u.channels x h.position.0 s

      place : ℕ
      place = to + made * u.channels

      written : List ℤ
      written = paste area place samples (frames_out s * u.channels)

      go : (b : Bool) → (ltb most (made + frames_out s) || ltb room (made + frames_out s)) ≡ b → take to (cond b area written) ≡ take to area
      go true e = refl
      go false e =
          let roomy : made + frames_out s ≤ room = ltb-false room (made + frames_out s) (or_right (ltb most (made + frames_out s)) _ e) in
          let within : made * u.channels ≤ room * u.channels = mul-le-mul_right u.channels (omega arith) in
          sym (take-take to place written (omega arith)) ∙ ap (take to) (paste-front area samples place (frames_out s * u.channels) (omega arith))
          ∙ take-take to place area (omega arith)
