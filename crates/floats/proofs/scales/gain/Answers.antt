-- `floats::scales::gain` meets its contract. Assumes nothing.
use lib.Ieee.{of_bits}
use Rattle.floats.specs.Scales.{gain}
use Rattle.floats.proofs.scales.gain.Goals as goal

pub returns : goal.returns
unfolding gain of_bits
returns c = c.f32_to_usize.ensures
