-- `flush::cleared` meets its contract. Assumes nothing.
use lib.Ieee.{of_bits}
use Rattle.stream.specs.Stream.{state_of, stream_of}
use Rattle.process.specs.Process.{cleared}
use Rattle.flush.proofs.cleared.Goals as goal

pub returns : goal.returns
unfolding of_bits cleared state_of stream_of
returns c input stage = rw (c.requires.1, c.min.ensures)
