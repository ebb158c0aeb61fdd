-- A write leaves the stream's channels as they were. Assumes nothing.
use Rattle.std.proofs.Common.{◌≡◌, ℕ, Option, Some, None, List, length, refl, ap, ◌∙◌}
use lib.Ieee.{Float}
use Rattle.frames.specs.Areas.{Areas}
use Rattle.frames.specs.Framing.{Frame}
use Rattle.stream.specs.declared.SonicStream.{SonicStream}
use Rattle.stream.specs.declared.refusal.Refusal.{Refusal}
use Rattle.stream.specs.State.{State}
use Rattle.stream.specs.Stream.{state_of, stream_of}
use Rattle.fill.specs.declared.Told.{Told}
use Rattle.process.specs.Process.{Made, whole_frames, write_work}
use Rattle.process.proofs.Taken.{write-settings}
use Rattle.adding.specs.Calls.{refused_call, accepted_call, call_by, refusal_of, write_call, stream_after}

module _ (s : SonicStream) (a : Areas) where
  channels-by : (k : Option Refusal) (told : Told) (t : State) (frames : List Frame) → t.channels ≡ s.channels
      → (stream_after (call_by k s a (accepted_call s a told t frames)).answer).channels ≡ s.channels
  unfolding refused_call accepted_call stream_of
  channels-by None told t frames same = same
  channels-by (Some k) told t frames same = refl

  write-channels : (samples : List Float) → (stream_after (write_call s samples a).answer).channels ≡ s.channels
  unfolding write_call state_of
  write-channels samples =
      let entering : State = state_of s a.input a.stage in
      let m : Made = write_work samples entering in
      channels-by (refusal_of s a (length (whole_frames s.channels samples)) m) m.told m.state m.frames
      (write-settings samples entering).channels

pub write_keeps : {t : SonicStream} (s : SonicStream) (samples : List Float) (a : Areas) → t ≡ stream_after (write_call s samples a).answer
    → t.channels ≡ s.channels
write_keeps s samples a e = ap (λ (x : SonicStream). x.channels) e ∙ write-channels s a samples
