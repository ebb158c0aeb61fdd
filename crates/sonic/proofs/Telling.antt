-- Demand 1, C-17 and C-18: an accepted write or flush answers stalled exactly when stepping over is off and one of its stretch steps
-- gives no frame; it tells as many periods as its steps pass over, none if that is off; where it tells one, it answers stretched; and it tells
-- the sum 0 where none of its steps searches. Assumes nothing.
use mathlib.Core.Path.{◌≡◌, refl, sym, ap, subst}
use mathlib.Core.List.{List, map}
use Prim.Native.Nat.{ℕ, ◌+◌, ◌*◌}
use lib.IntN.{pos}
use lib.Ieee.{Float}
use lib.ListN.{length, replicate, length-map, length-replicate}
use Rattle.frames.specs.Areas.{Areas}
use Rattle.frames.specs.Framing.{Frame}
use Rattle.floats.specs.Write.{sample_in}
use Rattle.period.specs.Rates.{max_required}
use Rattle.stream.specs.declared.SonicStream.{SonicStream}
use Rattle.stream.specs.State.{State, steps_over}
use Rattle.stream.specs.Stream.{state_of, stream_of}
use Rattle.stream.specs.declared.refusal.Refusal.{Refusal}
use Rattle.std.proofs.Common.{Option, Some, None, Ok}
use Rattle.fill.specs.declared.Told.{Told}
use Rattle.process.specs.Process.{whole_frames, joined, write_work, flush_work}
use Rattle.process.proofs.Telling.{ToldExactly, told-exactly}
use Rattle.process.specs.declared.Wrote.{Wrote}
use Rattle.adding.specs.Calls.{refused_call, accepted_call, call_by, refusal_of, write_call, flush_call}
use Rattle.adding.specs.Adding.{Accepted}
use Rattle.adding.proofs.Room.{room_of, added-held}
use Rattle.adding.proofs.Adding.{work_of}

-- a call that answers `Ok` was not refused, and what it tells is what the work tells
done-of : (refusal : Option Refusal) (s : SonicStream) (a : Areas) (w : Wrote) (o : Told) (state : State) (frames : List Frame)
    → (call_by refusal s a (accepted_call s a o state frames)).answer ≡ Ok w → (refusal ≡ None) × (o ≡ w.told)
unfolding accepted_call refused_call
done-of None s a w o state frames e = (refl, let same : record { told = o; stream = stream_of state (s.waiting.0 + length frames) } ≡ w = cc in ap (λ (x : Wrote). x.told) same)
done-of (Some refusal) s a w o state frames e = (cc, cc)

-- a call that adds the frames fs, and keeps a state and frames of its work
call-told : (s : SonicStream) (a : Areas) (fs : List Frame) (n : ℕ) (w : Wrote) (state : State) (frames : List Frame) → n ≡ length fs
    → (call_by (refusal_of s a n (work_of s a fs)) s a (accepted_call s a (work_of s a fs).told state frames)).answer ≡ Ok w
    → ToldExactly (steps_over s.step_over) w.told (work_of s a fs).steps
unfolding joined state_of
call-told s a fs n w state frames count e =
    let done = done-of (refusal_of s a n (work_of s a fs)) s a w (work_of s a fs).told state frames e in
    let room = room_of s a n (work_of s a fs) done.0 in
    let held = added-held s a fs (subst (Accepted s a) count room.accepted) in
    subst (λ (x : Told). ToldExactly (steps_over s.step_over) x (work_of s a fs).steps) done.1
    (told-exactly (joined fs (state_of s a.input a.stage)) held)

-- a write
pub write-told : (s : SonicStream) (samples : List Float) (a : Areas) (w : Wrote) → (write_call s samples a).answer ≡ Ok w
    → ToldExactly (steps_over s.step_over) w.told (write_work samples (state_of s a.input a.stage)).steps
unfolding write_call write_work state_of
write-told s samples a w e =
    let whole : List (List Float) = whole_frames s.channels samples in
    call-told s a (map (map sample_in) whole) (length whole) w _ _ (sym (length-map whole (map sample_in))) e

-- a flush
pub flush-told : (s : SonicStream) (a : Areas) (w : Wrote) → (flush_call s a).answer ≡ Ok w
    → ToldExactly (steps_over s.step_over) w.told (flush_work (state_of s a.input a.stage)).steps
unfolding flush_call flush_work state_of
flush-told s a w e =
    let n : ℕ = 2 * max_required s.rate in
    let silent : Frame = replicate s.channels (pos 0) in
    call-told s a (replicate n silent) n w _ _ (sym (length-replicate n silent)) e
