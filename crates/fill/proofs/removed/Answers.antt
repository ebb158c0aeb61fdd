-- `fill::removed` meets its contract. Assumes nothing.
use lib.ListN.{length-drop}
use Rattle.frames.proofs.Framing.{length-frames_of}
use Rattle.stream.specs.Stream.{state_of, stream_of}
use Rattle.fill.specs.Taking.{removed}
use Rattle.fill.proofs.removed.Goals as goal

pub returns : goal.returns
unfolding removed state_of stream_of
returns c input stage = simp (length-drop, length-frames_of, c.play_time_left.ensures)
    (rw c.requires.2)
