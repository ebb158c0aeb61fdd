-- `floats::samples::samples_out`: one value more in each turn. Assumes nothing.
use Rattle.std.proofs.Common.{◌≡◌, map}
use lib.Seq.{paste}
use Rattle.floats.specs.Write.{sample_out}
use Rattle.floats.proofs.samples.samples_out.Given as goal

abbrev pub invariant-loop-i : goal.invariant-loop-i
invariant-loop-i l = l.slice ≡ paste l.initial.slice 0 (map sample_out l.area) l.i
