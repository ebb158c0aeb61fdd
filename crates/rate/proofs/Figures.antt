-- The border of the halving, computed: at R 16,384 and pitch 0.5 N ends at 16,384, which is not halved again. Assumes nothing.
use mathlib.Core.Path.{◌≡◌, refl}
use lib.Ieee.{of_int, round, div, to_unsigned}
use Rattle.floats.specs.Numbers.{half}
use Rattle.floats.specs.Scales.{new_rate}
use Rattle.rate.specs.Halving.{halved, rates_of}

pub border : rates_of 16384 half ≡ record { new = 16384; old = 8192 }
unfolding rates_of halved new_rate of_int round div to_unsigned
border = refl
