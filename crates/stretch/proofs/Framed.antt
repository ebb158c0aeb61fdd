-- The area after a call, as frames: those made stand behind the first w frames, or there was no room for them. Assumes nothing.
use mathlib.Core.Path.{sym, subst}
use mathlib.Core.List.{List}
use Prim.Native.Nat.{ℕ, ◌+◌, ◌-◌, ◌*◌, ◌/◌, ◌≤◌, ◌<◌}
use native.Mathlib.Nat.{le_of_eq}
use lib.IntN.{ℤ}
use lib.ListN.{length}
use Rattle.frames.specs.Framing.{Behind, NoRoom}
use Rattle.frames.proofs.Framing.{length-frames_of}
use Rattle.frames.proofs.Behind.{behind-paste}
use Rattle.frames.proofs.Room.{room-over}
use Rattle.period.specs.Pitch.{PeriodIn}
use Rattle.stretch.specs.declared.StretchCall.{StretchCall}
use Rattle.stretch.specs.declared.Place.{Place}
use Rattle.stretch.specs.Steps.{StretchReady}
use Rattle.stretch.specs.Speed.{steps, frames_made, samples_of, stretched_frames, AreaAfter}
use Rattle.stretch.proofs.Claims.{samples_of-length}

module _ {u : StretchCall} {x : List ℤ} {h : Place} {room most w : ℕ} {area area' : List ℤ} (g : AreaAfter u x h room most area area' (w * u.channels)) where
  pub area-behind : StretchReady u → PeriodIn u.rate h.prev → u.held.0 * u.channels ≤ length x → frames_made (steps u x h) ≤ most
      → frames_made (steps u x h) ≤ room → (w + frames_made (steps u x h)) * u.channels ≤ length area → Behind u.channels w (frames_made (steps u x h)) area area' (stretched_frames u x h)
  area-behind r o whole few fits within =
      let samples = samples_of u.channels x h.position.0 (steps u x h) in
      let n = frames_made (steps u x h) in
      let enough : n * u.channels ≤ length samples = le_of_eq (sym (samples_of-length x h r o whole)) in
      let written = behind-paste u.channels w n area samples within enough in
      subst (λ (l : List ℤ). Behind u.channels w n area l (stretched_frames u x h)) (sym (g.written few fits)) written

  pub area-full : StretchReady u → length area / u.channels - w < frames_made (steps u x h) → NoRoom u.channels w area area' (stretched_frames u x h)
  area-full r over =
      let n = length-frames_of u.channels (frames_made (steps u x h)) (samples_of u.channels x h.position.0 (steps u x h)) in
      record {
        kept = g.kept;
        over = subst (λ (k : ℕ). length area < (w + k) * u.channels) (sym n)
            (room-over u.channels w (frames_made (steps u x h)) (length area) r.opened.channels_low over);
      }
