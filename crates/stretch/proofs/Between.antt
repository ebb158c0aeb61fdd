-- A call between two of its steps: what is made so far and what the steps from here on give make up the whole. Assumes nothing.
use mathlib.Core.Path.{◌≡◌, refl, sym, ap, ◌∙◌, subst}
use mathlib.Core.Bool.{Bool, true, false, cond, ◌||◌}
use mathlib.Core.List.{List, [], ◌∷◌, ◌++◌, append_assoc, append-nil}
use Rattle.std.specs.Prelude.{None, Some}
use Prim.Native.Nat.{ℕ, ◌+◌, ◌*◌, ◌^◌, ◌≤◌, ◌<◌}
use native.Mathlib.Nat.{zero-mul, zero-add, add-zero, add-mul, mul-le-mul_right}
use native.Mathlib.Omega.{arith}
use lib.IntN.{ℤ}
use lib.ListN.{length, take, length-append}
use lib.Seq.{paste, paste-zero}
use Rattle.period.specs.Rates.{max_required}
use Rattle.period.specs.Pitch.{PrevInOrder}
use Rattle.stretch.specs.declared.StretchCall.{StretchCall}
use Rattle.stretch.specs.declared.Place.{Place}
use Rattle.stretch.specs.declared.Step.{Step}
use Rattle.stretch.specs.declared.Went.{Went}
use Rattle.stretch.specs.Steps.{next_step, frames_out, periods_passed, stalls, samples_out, prev_after, place_after, after, turn_for, area_for, StretchReady, Sound}
use Rattle.stretch.specs.Tally.{tally}
use Rattle.stretch.specs.Speed.{steps, frames_made, samples_of, last_place, stalled}
use Rattle.frames.proofs.Pasted.{paste-append}
use Rattle.stretch.proofs.Soundness.{next_step-sound, passed-le, samples_out-length, sound-in}
use Rattle.stretch.proofs.Progress.{next, further, steps_on, steps-end}
use Rattle.stretch.proofs.Turning.{Gone, gone, too_many, area-written, area-kept}

-- what a call is lent: the frames held, and room for `room` frames at the place `to` of the area; it may make `most`
pub record StretchLent (u : StretchCall) (x area : List ℤ) (to room most : ℕ) : Type 0 where
  pub ready : StretchReady u
  pub whole : u.held.0 * u.channels ≤ length x
  pub lent_area : to + room * u.channels ≤ length area
  pub few : most ≤ 2 ^ 24

-- the call that began at h₀ has made `made` frames, which stand at the place `to` of the area if there is room for them; h is the place
-- that it has come to
pub record Going (u : StretchCall) (x : List ℤ) (h₀ : Place) (area₀ area : List ℤ) (to room most : ℕ) (h : Place) (made passed : ℕ) : Type 0 where
  pub front : List ℤ
  pub front_length : length front ≡ made * u.channels
  pub area_is : made ≤ room → area ≡ paste area₀ to front (made * u.channels)
  pub kept : take to area ≡ take to area₀
  pub samples : samples_of u.channels x h₀.position.0 (steps u x h₀) ≡ front ++ samples_of u.channels x h.position.0 (steps u x h)
  pub frames : frames_made (steps u x h₀) ≡ made + frames_made (steps u x h)
  pub periods : (tally (steps u x h₀)).passed ≡ passed + (tally (steps u x h)).passed
  pub few_periods : passed ≤ h.position.0
  pub place : last_place u x h₀ (steps u x h₀) ≡ last_place u x h (steps u x h)
  pub stall : stalled (steps u x h₀) ≡ stalled (steps u x h)
  pub fits : made ≤ most
  pub in_order : PrevInOrder u.rate h.prev
  pub within : h.position.0 ≤ u.held.0

-- the call has ended at h: all its frames are made, and stand in the area if there is room for them
pub record Ended (u : StretchCall) (x : List ℤ) (h₀ : Place) (area₀ area : List ℤ) (to room most : ℕ) (h : Place) (made passed : ℕ) (t : Bool) : Type 0 where
  pub frames : frames_made (steps u x h₀) ≡ made
  pub periods : (tally (steps u x h₀)).passed ≡ passed
  pub samples : made ≤ room → area ≡ paste area₀ to (samples_of u.channels x h₀.position.0 (steps u x h₀)) (made * u.channels)
  pub place : last_place u x h₀ (steps u x h₀) ≡ h
  pub stall : stalled (steps u x h₀) ≡ t
  pub fits : made ≤ most
  pub in_order : PrevInOrder u.rate h.prev
  pub kept : take to area ≡ take to area₀

pub going_start : (u : StretchCall) (x : List ℤ) (h : Place) (area : List ℤ) (to room most : ℕ) → PrevInOrder u.rate h.prev → h.position.0 ≤ u.held.0
    → Going u x h area area to room most h 0 0
going_start u x h area to room most o w =
    record {
      front = [];
      front_length = sym (zero-mul u.channels);
      area_is = λ _. paste-zero area to [] ∙ ap (paste area to []) (sym (zero-mul u.channels));
      kept = refl;
      samples = refl;
      frames = sym (zero-add (frames_made (steps u x h)));
      periods = sym (zero-add (tally (steps u x h)).passed);
      few_periods = omega arith;
      place = refl;
      stall = refl;
      fits = omega arith;
      in_order = o;
      within = w;
    }

module _ {u : StretchCall} {x : List ℤ} {h₀ : Place} {area₀ area : List ℤ} {to room most : ℕ} {h : Place} {made passed : ℕ}
    (l : StretchLent u x area₀ to room most) (g : Going u x h₀ area₀ area to room most h made passed) where
  -- no step is due
  pub going_end : u.held.0 < h.position.0 + max_required u.rate → Ended u x h₀ area₀ area to room most h made passed false
  unfolding samples_of tally last_place stalled
  going_end d =
      let e = steps-end u x h d in
      let all = g.samples ∙ ap (λ (ss : List Step). g.front ++ samples_of u.channels x h.position.0 ss) e ∙ append-nil g.front in
      record {
        frames = g.frames ∙ ap (λ (ss : List Step). made + frames_made ss) e ∙ add-zero made;
        periods = g.periods ∙ ap (λ (ss : List Step). passed + (tally ss).passed) e ∙ add-zero passed;
        samples = λ k. g.area_is k ∙ ap (λ (s : List ℤ). paste area₀ to s (made * u.channels)) (sym all);
        place = g.place ∙ ap (last_place u x h) e;
        stall = g.stall ∙ ap stalled e;
        fits = g.fits;
        in_order = g.in_order;
        kept = g.kept;
      }

  module _ (d : h.position.0 + max_required u.rate ≤ u.held.0) where
    sound : Sound u.held.0 h.position.0 (next_step u x h)
    sound = next_step-sound x h l.ready g.in_order.period_in d

    on : {t : Bool} → stalls (next_step u x h) ≡ t → steps u x h ≡ next_step u x h ∷ cond t [] (steps u x (next u x h))
    on e = steps_on x l.ready h g.in_order.period_in d ∙ ap (λ (t : Bool). next_step u x h ∷ cond t [] (steps u x (next u x h))) e

    -- what lies before the place `to` is as it was, whatever the step writes
    pub going-kept : {area' : List ℤ} → length area ≡ length area₀ → area' ≡ area_for u x h made room most area to (next_step u x h)
        → take to area' ≡ take to area₀
    going-kept long wrote =
        ap (take to) wrote ∙ area-kept u x h made room most (next_step u x h) area to (omega (arith, l.lent_area, long)) ∙ g.kept

    -- the step that is due gives too many frames
    pub going-over : turn_for u x h made most (next_step u x h) ≡ None → most < frames_made (steps u x h₀)
    unfolding tally
    going-over e =
        let k = too_many u x h made most (next_step u x h) e in
        let n = ap frames_made (on refl) in
        omega (arith, g.frames)

    -- the step that is due is taken
    module _ {area' : List ℤ} {w : Went} (turn : turn_for u x h made most (next_step u x h) ≡ Some w)
        (long : length area ≡ length area₀) (wrote : area' ≡ area_for u x h made room most area to (next_step u x h))
        (o : PrevInOrder u.rate (prev_after u x h (next_step u x h))) where
      abbrev more : List ℤ
      more = samples_out u.channels x h.position.0 (next_step u x h)

      went : Gone u x h made most (next_step u x h) w
      went = gone u x h made most (next_step u x h) turn

      few : made + frames_out (next_step u x h) ≤ most
      few = went.fits

      count : made * u.channels + frames_out (next_step u x h) * u.channels ≡ (made + frames_out (next_step u x h)) * u.channels
      count = sym (add-mul made (frames_out (next_step u x h)) u.channels)

      more-length : length more ≡ frames_out (next_step u x h) * u.channels
      more-length = samples_out-length (next_step u x h) u.channels x sound l.whole

      area_on : made + frames_out (next_step u x h) ≤ room
          → area' ≡ paste area₀ to (g.front ++ more) ((made + frames_out (next_step u x h)) * u.channels)
      area_on k =
          let room_for : (made + frames_out (next_step u x h)) * u.channels ≤ room * u.channels = mul-le-mul_right u.channels k in
          wrote ∙ area-written u x h made room most (next_step u x h) area to few k
          ∙ ap (λ (s : List ℤ). paste s (to + made * u.channels) more (frames_out (next_step u x h) * u.channels)) (g.area_is (omega arith))
          ∙ paste-append area₀ g.front more to (made * u.channels) (frames_out (next_step u x h) * u.channels) g.front_length more-length
          (omega (arith, l.lent_area, count))
          ∙ ap (paste area₀ to (g.front ++ more)) count

      -- the call goes on, or has ended, at the place after it
      going_next : stalls (next_step u x h) ≡ false → Going u x h₀ area₀ area' to room most (next u x h) (made + frames_out (next_step u x h))
          (passed + periods_passed (next_step u x h))
      unfolding samples_of tally last_place stalled after place_after
      going_next f =
          let e = on f in
          record {
            front = g.front ++ more;
            front_length = length-append g.front more ∙ (λ i. g.front_length i + more-length i) ∙ count;
            area_is = area_on;
            kept = going-kept long wrote;
            samples = g.samples ∙ ap (λ (ss : List Step). g.front ++ samples_of u.channels x h.position.0 ss) e
                ∙ sym (append_assoc g.front more (samples_of u.channels x (next u x h).position.0 (steps u x (next u x h))));
            frames = omega (arith, g.frames, ap frames_made e);
            periods = omega (arith, g.periods, ap (λ (ss : List Step). (tally ss).passed) e);
            few_periods = omega (arith, g.few_periods, passed-le (next_step u x h) sound);
            place = g.place ∙ ap (last_place u x h) e;
            stall = g.stall ∙ ap stalled e ∙ ap (λ (b : Bool). b || stalled (steps u x (next u x h))) f;
            fits = few;
            in_order = o;
            within = sound-in sound;
          }

      ended-next : stalls (next_step u x h) ≡ true → Ended u x h₀ area₀ area' to room most (next u x h) (made + frames_out (next_step u x h))
          (passed + periods_passed (next_step u x h)) true
      unfolding samples_of tally last_place stalled after place_after
      ended-next f =
          let e = on f in
          let all = g.samples ∙ ap (λ (ss : List Step). g.front ++ samples_of u.channels x h.position.0 ss) e
          ∙ ap (λ (s : List ℤ). g.front ++ s) (append-nil more) in
          record {
            frames = omega (arith, g.frames, ap frames_made e);
            samples = λ k. area_on k ∙ ap (λ (s : List ℤ). paste area₀ to s ((made + frames_out (next_step u x h)) * u.channels)) (sym all);
            periods = omega (arith, g.periods, ap (λ (ss : List Step). (tally ss).passed) e);
            place = g.place ∙ ap (last_place u x h) e;
            stall = g.stall ∙ ap stalled e ∙ ap (λ (b : Bool). b || false) f;
            fits = few;
            in_order = o;
            kept = going-kept long wrote;
          }

      -- in the words of the turn
      as-told : (P : Place → ℕ → ℕ → Type 0) → P (next u x h) (made + frames_out (next_step u x h)) (passed + periods_passed (next_step u x h))
          → P w.place (made + w.frames.0) (passed + w.passed)
      as-told P v =
          subst (λ (q : Place). P q (made + w.frames.0) (passed + w.passed)) (sym went.place)
          (subst (λ (k : ℕ). P (next u x h) (made + k) (passed + w.passed)) (sym went.frames)
          (subst (λ (k : ℕ). P (next u x h) (made + frames_out (next_step u x h)) (passed + k)) (sym went.passed) v))

      pub going_on : w.stalled ≡ false → Going u x h₀ area₀ area' to room most w.place (made + w.frames.0) (passed + w.passed)
      going_on e = as-told (Going u x h₀ area₀ area' to room most) (going_next (sym went.stall ∙ e))

      pub going-stall : w.stalled ≡ true → Ended u x h₀ area₀ area' to room most w.place (made + w.frames.0) (passed + w.passed) true
      going-stall e =
          as-told (λ q j k. Ended u x h₀ area₀ area' to room most q j k true) (ended-next (sym went.stall ∙ e))

      -- no more frames than it may make, and it uses one at least
      pub going-fits : made + w.frames.0 ≤ most
      going-fits = omega (arith, few, went.frames)

      -- and so do the periods passed over
      pub going-periods : passed + w.passed ≤ u.held.0
      going-periods = omega (arith, g.few_periods, passed-le (next_step u x h) sound, sound-in sound, went.passed)

      pub going-further : h.position.0 < w.place.position.0
      going-further = subst (λ (q : Place). h.position.0 < q.position.0) (sym went.place) (further x h l.ready g.in_order.period_in d)
