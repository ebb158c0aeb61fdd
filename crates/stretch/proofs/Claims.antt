-- What holds of every call's list of steps, for a call that is ready and a period record in the range. Assumes nothing.
use mathlib.Core.Path.{◌≡◌, refl, sym, subst, ◌∙◌}
use mathlib.Core.Bool.{Bool, true, false, cond, false≢true}
use mathlib.Core.List.{List, [], ◌++◌, Memᴰ, append-nil}
use Prim.Native.Nat.{◌+◌, ◌*◌, ◌≤◌, ◌<◌, zero-le}
use native.Mathlib.Omega.{arith}
use lib.IntN.{ℤ}
use lib.ListN.{length}
use Rattle.frames.specs.declared.Frames.{Frames}
use Rattle.period.specs.Rates.{max_required}
use Rattle.period.specs.Pitch.{PeriodIn}
use Rattle.stretch.specs.declared.StretchCall.{StretchCall}
use Rattle.stretch.specs.declared.Place.{Place}
use Rattle.stretch.specs.declared.Step.{Step}
use Rattle.stretch.specs.declared.Step.TheVariants.{Copied, Inserted}
use Rattle.stretch.specs.Steps.{frames_out, frames_used, StretchReady}
use Rattle.stretch.specs.Speed.{steps, frames_made, samples_of, last_place, stalled, answer_for}
use Rattle.stretch.proofs.StepOver.{over-never-stalls, off-passes-none}
use Rattle.stretch.proofs.Taken.{AllSound, steps-sound, member-sound, front-in, sound-length, stalled-member, member-stalled, steps-ends}

module _ {u : StretchCall} (x : List ℤ) (h : Place) (r : StretchReady u) (o : PeriodIn u.rate h.prev) where
  sound : AllSound u x h (steps u x h)
  sound = steps-sound x h r o

  -- a call stalls exactly when it does not step over and one of its steps gives no frame
  pub stalled-exactly : (stalled (steps u x h) ≡ true → (u.step_over ≡ false) × ((s : Step) × Memᴰ s (steps u x h) × (frames_out s ≡ 0)))
      × (u.step_over ≡ false → (s : Step) → Memᴰ s (steps u x h) → frames_out s ≡ 0 → stalled (steps u x h) ≡ true)
  stalled-exactly = (
    λ e. (off u.step_over refl e, stalled-member (steps u x h) e),
    λ f s m e. member-stalled (steps u x h) m (member-sound u x h (steps u x h) sound m) (off-passes-none u x h r o f) e,
  )
    where
      off : (t : Bool) → u.step_over ≡ t → stalled (steps u x h) ≡ true → t ≡ false
      off true f e = absurd (false≢true (sym (over-never-stalls u x h r o f) ∙ e))
      off false f e = refl

  -- every step gives a frame at least, but a skip and a period passed over
  pub frames-some : ((n : Frames) → Memᴰ (Copied n) (steps u x h) → 1 ≤ frames_out (Copied n))
      × ((period k : Frames) → Memᴰ (Inserted period k) (steps u x h) → 1 ≤ frames_out (Inserted period k))
  frames-some = (
    λ n m. (member-sound u x h (steps u x h) sound m).1.some,
    λ period k m. let s = (member-sound u x h (steps u x h) sound m).1.some in omega arith,
  )

  -- every step uses a frame at least
  pub used-some : (s : Step) → Memᴰ s (steps u x h) → 1 ≤ frames_used s
  used-some s m = (member-sound u x h (steps u x h) sound m).1.some

  -- so that the list is complete: if no step stalls, position + `max_required` exceeds the frames held after the last
  pub steps-complete : stalled (steps u x h) ≡ false → u.held.0 < (last_place u x h (steps u x h)).position.0 + max_required u.rate
  steps-complete = steps-ends x h r o

  -- the position never passes the frames held
  pub position-held : (front back : List Step) → steps u x h ≡ front ++ back → h.position.0 ≤ u.held.0
      → (last_place u x h front).position.0 ≤ u.held.0
  position-held front back e k = front-in u x h front back (subst (AllSound u x h) e sound) k

  -- nor do the frames used
  pub used-held : h.position.0 ≤ u.held.0 → (answer_for u x h (steps u x h)).used.0 ≤ u.held.0
  unfolding answer_for
  used-held k = go (stalled (steps u x h)) (position-held (steps u x h) [] (sym (append-nil (steps u x h))) k)
    where
      go : (t : Bool) → (last_place u x h (steps u x h)).position.0 ≤ u.held.0 → cond t 0 (last_place u x h (steps u x h)).position.0 ≤ u.held.0
      go true n = zero-le
      go false n = n

  -- the samples that the steps give are those of the frames made
  pub samples_of-length : u.held.0 * u.channels ≤ length x
      → length (samples_of u.channels x h.position.0 (steps u x h)) ≡ frames_made (steps u x h) * u.channels
  samples_of-length k = sound-length u x h (steps u x h) sound k
