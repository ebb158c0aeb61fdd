-- Frames that join a stream's input: the stream's state is the joined state, and a stream in order stays so. The layers above cite it.
-- Assumes nothing.
use mathlib.Core.Path.{◌≡◌}
use mathlib.Core.List.{List}
use Prim.Native.Nat.{ℕ}
use lib.IntN.{ℤ}
use lib.ListN.{length-append, length-replicate}
use Rattle.frames.specs.Framing.{Frame, Behind}
use Rattle.frames.proofs.Framing.{length-frames_of}
use Rattle.frames.proofs.Behind.{behind-whole, behind-length}
use Rattle.stream.specs.declared.SonicStream.{SonicStream}
use Rattle.stream.specs.Stream.{state_of, stream_of}
use Rattle.stream.specs.Order.{StreamReady}
use Rattle.stream.proofs.Streams.{ready-stream, ready-input}
use Rattle.process.specs.Process.{joined}
use Rattle.process.specs.Streams.{joined_stream}

-- n frames fs stand behind those held, where the input goes from `input` to `input'`
pub joined-state : (s : SonicStream) (n : ℕ) (input input' stage : List ℤ) (fs : List Frame) → Behind s.channels s.held.0 n input input' fs
    → state_of (joined_stream n s) input' stage ≡ joined fs (state_of s input stage)
unfolding joined state_of stream_of
joined-state s n input input' stage fs b = simp (length-append, length-frames_of, length-replicate) (rw (behind-whole b, behind-length b))

pub joined-ready : (s : SonicStream) (n : ℕ) → StreamReady s → StreamReady (joined_stream n s)
unfolding joined
joined-ready s n r = ready-stream (ready-input r.state _ _ _ _ r.state.prev) s.waiting.0
