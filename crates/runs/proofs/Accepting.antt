-- An accepted write or flush: the areas that it is lent show the ledger's state, so its work is the ledger's, it is ready for its steps, and
-- what it keeps fits.
-- Assumes nothing.
use mathlib.Core.Path.{◌≡◌, sym, ap, ◌∙◌, subst}
use mathlib.Core.Bool.{Bool, true, false, cond}
use mathlib.Core.List.{List, ◌∷◌, [], ◌++◌, map}
use Rattle.std.specs.Prelude.{None}
use Prim.Native.Nat.{ℕ, ◌+◌, ◌*◌, ◌≤◌}
use native.Mathlib.Nat.{le_refl, le_trans, mul-le-mul_right}
use native.Mathlib.Omega.{arith}
use lib.IntN.{pos}
use lib.Ieee.{Float, eq}
use lib.ListN.{length, take, replicate, length-append, length-map, length-take, length-replicate}
use Rattle.frames.specs.Areas.{Areas}
use Rattle.frames.specs.Framing.{Frame, frames_of}
use Rattle.frames.proofs.Framing.{length-frames_of}
use Rattle.floats.specs.Numbers.{one}
use Rattle.floats.specs.Write.{sample_in}
use Rattle.period.specs.Rates.{max_required}
use Rattle.stream.specs.declared.SonicStream.{SonicStream}
use Rattle.stream.specs.State.{State}
use Rattle.stream.specs.Stream.{state_of, stream_of}
use Rattle.stream.specs.Refusals.{stage_needed}
use Rattle.process.specs.Process.{Made, whole_frames, joined, process, write_work, flush_work, expected, cleared}
use Rattle.process.proofs.Claims.{Held}
use Rattle.adding.specs.Calls.{refusal_of}
use Rattle.adding.specs.Adding.{Accepted}
use Rattle.adding.proofs.Room.{Room, room_of, added-held}
use Rattle.runs.specs.Ledger.{write, flush, Ledger, entry}
use Rattle.runs.specs.Run.{Moment, Lent}
use Rattle.runs.proofs.KeptParts.{frames-shown}
use Rattle.runs.proofs.Work.{process-channels, process-input, process-tail}
use Rattle.runs.proofs.Tracking.{Tracks, Accepts}

-- the tail after a call fits the stage: at pitch 1.0 it is the one before, at another no longer than that and the frames staged
tail_fits : (b : Bool) (tail held staged ch long : ℕ) → tail ≤ cond b held (held + staged) → held * ch ≤ long
    → cond b staged (held + staged) * ch ≤ long → tail * ch ≤ long
tail_fits true tail held staged ch long h p q = le_trans (mul-le-mul_right ch h) p
tail_fits false tail held staged ch long h p q = le_trans (mul-le-mul_right ch h) q

module _ {m : Moment} {l : Ledger} (h : Tracks m l) (a : Areas) (g : Lent m a) where
  abbrev ch : ℕ
  ch = l.state.channels

  abbrev s : SonicStream
  s = stream_of l.state h.waiting

  -- the state that the areas show
  abbrev seen : State
  seen = state_of s a.input a.stage

  -- if they are long enough, the ledger's
  state-shown : length l.state.input * ch ≤ length a.input → length l.state.tail * ch ≤ length a.stage → seen ≡ l.state
  unfolding state_of stream_of
  state-shown in-fits tail_fits =
      let t : State = l.state in
      let in-shown : frames_of ch (length t.input) a.input ≡ t.input =
      frames-shown ch (length t.input) m.input a.input g.input h.input_length in-fits ∙ h.input in
      let tail-shown : frames_of ch (length t.tail) a.stage ≡ t.tail =
      frames-shown ch (length t.tail) m.tail a.stage g.stage h.tail_length tail_fits ∙ h.tail in
      rw (in-shown, tail-shown)

  -- a call that adds the frames fs and keeps no more than its work leaves has room for what it keeps
  module _ (fs : List Frame) where
    abbrev work : Made
    work = process (joined fs seen)

    pub record Fits (t : State) (frames : List Frame) : Type 0 where
      pub held : Held (joined fs seen)
      pub input : length t.input * ch ≤ length a.input
      pub tail : length t.tail * ch ≤ length a.stage
      pub output : (h.waiting + length frames) * ch ≤ length a.output

    work-fits : (t : State) (frames : List Frame) (added : ℕ) → added ≡ length fs
        → length t.input ≤ length work.state.input → length t.tail ≤ length work.state.tail → length frames ≤ length work.frames
        → Room s a added work
        → Fits t frames
    unfolding joined state_of stream_of stage_needed
    work-fits t frames added e input tail output r =
        let from : State = joined fs seen in
        let in-less : length work.state.input ≤ length from.input = process-input from in
        let in_held : length from.input ≡ length l.state.input + length fs =
        length-append (frames_of ch (length l.state.input) a.input) fs
        ∙ ap (λ (n : ℕ). n + length fs) (length-frames_of ch (length l.state.input) a.input) in
        let tail-held : length from.tail ≡ length l.state.tail = length-frames_of ch (length l.state.tail) a.stage in
        let tail-less = rw tail-held at (process-tail from) in
        let in-most : length t.input ≤ length l.state.input + added = omega arith in
        let out-most : h.waiting + length frames ≤ h.waiting + length work.frames = omega arith in
        record {
          held = added-held s a fs (subst (Accepted s a) e r.accepted);
          input = le_trans (mul-le-mul_right ch in-most) r.accepted.fits;
          tail = tail_fits (eq l.state.pitch one) _ (length l.state.tail) work.staged ch (length a.stage) (le_trans tail tail-less) r.tail_fits r.stage;
          output = le_trans (mul-le-mul_right ch out-most) r.output;
        }

    work-channels : work.state.channels ≡ ch
    unfolding joined state_of stream_of
    work-channels = process-channels (joined fs seen)

  pub accepts-write : (samples : List Float)
      → (let w : Made = write_work samples seen in
      refusal_of s a (length (whole_frames ch samples)) w ≡ None
      → Accepts l h.waiting a (write samples) w.told w.state w.frames)
  unfolding write_work entry state_of stream_of
  accepts-write samples e =
      let fs : List Frame = map (map sample_in) (whole_frames ch samples) in
      let w : Made = work fs in
      let added : ℕ = length (whole_frames ch samples) in
      let r : Room s a added w = room_of s a added w e in
      let shown : seen ≡ l.state = state-shown r.held_fits r.tail_fits in
      let f : Fits fs w.state w.frames =
      work-fits fs w.state w.frames added (sym (length-map (whole_frames ch samples) (map sample_in))) (le_refl _) (le_refl _) (le_refl _) r in
      record {
        entered =
            ap (λ (t : State).
            let n : Made = write_work samples t in
            record { state = n.state; made = l.made ++ n.frames; outcomes = l.outcomes ++ (n.told.outcome ∷ []) }) (sym shown);
        held = subst (λ (t : State). Held (joined fs t)) shown f.held;
        channels_is = work-channels fs;
        input_fits = f.input;
        tail_fits = f.tail;
        output_fits = f.output;
        waiting_fits = r.waiting_fits;
      }

  pub accepts-flush :
      (let w : Made = flush_work seen in
      refusal_of s a (2 * max_required l.state.rate) w ≡ None
      → Accepts l h.waiting a flush w.told (cleared w.state) (take (expected seen) w.frames))
  unfolding flush_work entry state_of stream_of cleared
  accepts-flush e =
      let added : ℕ = 2 * max_required l.state.rate in
      let fs : List Frame = replicate added (replicate ch (pos 0)) in
      let w : Made = work fs in
      let frames : List Frame = take (expected seen) w.frames in
      let r : Room s a added w = room_of s a added w e in
      let shown : seen ≡ l.state = state-shown r.held_fits r.tail_fits in
      let f : Fits fs (cleared w.state) frames =
      work-fits fs (cleared w.state) frames added (sym (length-replicate added (replicate ch (pos 0)))) (omega arith) (omega arith)
      (omega (arith, length-take (expected seen) w.frames)) r in
      record {
        entered =
            ap (λ (t : State).
            let n : Made = flush_work t in
            record { state = cleared n.state; made = l.made ++ take (expected t) n.frames; outcomes = l.outcomes ++ (n.told.outcome ∷ []) })
            (sym shown);
        held = subst (λ (t : State). Held (joined fs t)) shown f.held;
        channels_is = work-channels fs;
        input_fits = f.input;
        tail_fits = f.tail;
        output_fits = f.output;
        waiting_fits = r.waiting_fits;
      }
