-- `frames::move_samples` meets its contract: a sample behind those already moved is still where it was. Assumes nothing.
use Rattle.std.proofs.Common.{◌≡◌, drop}
use lib.Seq.{paste}
use Rattle.frames.proofs.move_samples.Given as goal

abbrev pub invariant-loop-i : goal.invariant-loop-i
invariant-loop-i l = l.area ≡ paste l.initial.area l.fn.to.0 (drop l.fn.from.0 l.initial.area) l.i
