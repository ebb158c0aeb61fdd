-- `floats::casts::frames_to_f32` meets its contract. Assumes nothing.
use Rattle.std.proofs.Common.{◌^◌, refl, le→leb}
use lib.Ieee.{in_float, of_int}
use Rattle.floats.proofs.casts.frames_to_f32.Goals as goal

pub int_to_float-result : goal.int_to_float-result
unfolding in_float
int_to_float-result c = le→leb c.args.n.0 (2 ^ 24) c.requires

pub returns : goal.returns
unfolding of_int
returns c = refl
