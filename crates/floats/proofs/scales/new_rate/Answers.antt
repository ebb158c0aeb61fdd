-- `floats::scales::new_rate` meets its contract. Assumes nothing.
use Rattle.std.proofs.Common.{◌^◌, le→leb}
use lib.Ieee.{in_float}
use Rattle.floats.specs.Scales.{new_rate}
use Rattle.floats.proofs.scales.new_rate.Goals as goal

pub int_to_float-rate : goal.int_to_float-rate
unfolding in_float
int_to_float-rate c = le→leb c.args.rate (2 ^ 24) c.requires

pub returns : goal.returns
unfolding new_rate
returns c = c.f32_to_usize.ensures
