-- `process::joined` meets its contract. Assumes nothing.
use lib.ListN.{length-append, length-replicate}
use Rattle.frames.proofs.Framing.{length-frames_of}
use Rattle.stream.specs.Stream.{state_of, stream_of}
use Rattle.process.specs.Process.{joined}
use Rattle.process.proofs.joined.Goals as goal

pub returns : goal.returns
unfolding joined state_of stream_of
returns c = simp (length-append, length-frames_of, length-replicate, c.play_time_grown.ensures)
    (rw c.requires.1)
