-- `floats::samples::clamp_unit` meets its contract. Assumes nothing.
use lib.Ieee.{of_bits, neg}
use Rattle.floats.specs.Write.{unit_clamped}
use Rattle.floats.proofs.samples.clamp_unit.Goals as goal

pub returns : goal.returns
unfolding unit_clamped of_bits neg
returns c = c.clamp.ensures.value
