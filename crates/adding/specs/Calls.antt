-- docs/RULES.md, "Areas and refusals": what a write and a flush answer, and what they keep in the areas. Definitions
-- only. Assumes nothing.
use Rattle.std.specs.Prelude.{◌≡◌, true, List, ◌++◌, ℕ, ◌+◌, ◌*◌, Float, length, take, Option, Some, None, Result, Ok, Err, IfOk}
use Rattle.frames.specs.Areas.{Areas}
use Rattle.frames.specs.Framing.{Frame, frames_of}
use Rattle.period.specs.Rates.{max_required}
use Rattle.stream.specs.declared.SonicStream.{SonicStream}
use Rattle.stream.specs.declared.refusal.Refusal.{Refusal}
use Rattle.stream.specs.declared.refusal.Refused.{Refused}
use Rattle.stream.specs.State.{State}
use Rattle.stream.specs.Stream.{state_of, stream_of}
use Rattle.stream.specs.Refusals.{is_in_order, refusal}
use Rattle.fill.specs.declared.Told.{Told}
use Rattle.process.specs.declared.Wrote.{Wrote}
use Rattle.process.specs.Process.{Made, whole_frames, write_work, flush_work, expected, cleared}

-- the answer, and the kept parts of the areas as frames
pub record CallResult : Type 0 where
  pub answer : Result Wrote Refused
  pub input : List Frame
  pub tail : List Frame
  pub output : List Frame

-- refused: the entering stream, and the kept parts unchanged
unfoldable pub refused_call : Refusal → SonicStream → Areas → CallResult
refused_call refusal s a =
    record {
      answer = Err (record { refusal = refusal; stream = s });
      input = frames_of s.channels s.held.0 a.input;
      tail = frames_of s.channels s.tail.0 a.stage;
      output = frames_of s.channels s.waiting.0 a.output;
    }

-- accepted: what is told, the state t after it, its frames behind those waiting
unfoldable pub accepted_call : SonicStream → Areas → Told → State → List Frame → CallResult
accepted_call s a told t frames =
    record {
      answer = Ok (record { told = told; stream = stream_of t (s.waiting.0 + length frames) });
      input = t.input;
      tail = t.tail;
      output = frames_of s.channels s.waiting.0 a.output ++ frames;
    }

-- by its refusal, if there is one
abbrev pub call_by : Option Refusal → SonicStream → Areas → CallResult → CallResult
call_by None s a c = c
call_by (Some refusal) s a c = refused_call refusal s a

-- the refusal of a call that adds so many frames, and whose work is m
abbrev pub refusal_of : SonicStream → Areas → ℕ → Made → Option Refusal
refusal_of s a added m = refusal s a added m.staged (length m.frames) m.state.balance

unfoldable pub write_call : SonicStream → List Float → Areas → CallResult
write_call s samples a =
    let m : Made = write_work samples (state_of s a.input a.stage) in
    call_by (refusal_of s a (length (whole_frames s.channels samples)) m) s a
    (accepted_call s a m.told m.state m.frames)

-- at most e of the frames made are kept; 7 counts before this, and so do the totals
unfoldable pub flush_call : SonicStream → Areas → CallResult
flush_call s a =
    let entering : State = state_of s a.input a.stage in
    let m : Made = flush_work entering in
    call_by (refusal_of s a (2 * max_required s.rate) m) s a
    (accepted_call s a m.told (cleared m.state) (take (expected entering) m.frames))

-- ---- what their contracts ensure

abbrev pub stream_after : Result Wrote Refused → SonicStream
stream_after (Ok w) = w.stream
stream_after (Err e) = e.stream

-- the answer r and the areas a at exit are those of the call c
pub record CallEnsures (channels : ℕ) (c : CallResult) (r : Result Wrote Refused) (a : Areas) : Type 0 where
  pub answer : r ≡ c.answer
  pub input : frames_of channels (stream_after r).held.0 a.input ≡ c.input
  pub tail : frames_of channels (stream_after r).tail.0 a.stage ≡ c.tail
  pub output : frames_of channels (stream_after r).waiting.0 a.output ≡ c.output

-- an accepted call hands back a stream in order
abbrev pub OrderAfter : Result Wrote Refused → Type 0
OrderAfter r = IfOk r (λ (w : Wrote). is_in_order w.stream ≡ true)
