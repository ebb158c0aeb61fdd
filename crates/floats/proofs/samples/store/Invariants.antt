-- `floats::samples::store`: one sample more in each turn. Assumes nothing.
use Rattle.std.proofs.Common.{◌≡◌, map}
use lib.Seq.{paste}
use Rattle.floats.specs.Write.{sample_in}
use Rattle.floats.proofs.samples.store.Given as goal

abbrev pub invariant-loop-i : goal.invariant-loop-i
invariant-loop-i g l = l.area ≡ paste l.initial.area 0 (map sample_in (map g.S.Sample.value l.source)) l.i
