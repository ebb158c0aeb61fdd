-- `floats::settings::sample_period` meets its contract. Assumes nothing.
use Rattle.std.proofs.Common.{◌^◌, le_trans, lit≤, le→leb}
use lib.Ieee.{in_float, of_bits}
use Rattle.floats.proofs.OneRounding.{one-rounding}
use Rattle.floats.proofs.settings.sample_period.Goals as goal

pub int_to_float-result : goal.int_to_float-result
unfolding in_float
int_to_float-result c = le→leb c.args.rate (2 ^ 24) (le_trans c.requires.1 (lit≤ tt))

pub returns : goal.returns
unfolding of_bits
returns c = one-rounding c.args.rate c.requires.0 c.requires.1
