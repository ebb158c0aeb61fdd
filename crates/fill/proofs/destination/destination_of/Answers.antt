-- `fill::destination::destination_of` meets its contract. Assumes nothing.
use lib.Ieee.{of_bits}
use Rattle.fill.proofs.destination.destination_of.Goals as goal

pub returns-then-stream : goal.returns-then-stream
unfolding of_bits
returns-then-stream c = rw (c.if-stream.true, c.frames-staged.ensures, c.frames.ensures)

pub returns : goal.returns
unfolding of_bits
returns c = rw (c.if-stream.false, c.frames-staged.ensures)
