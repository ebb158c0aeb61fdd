-- `frames::copy` meets its contract: one sample more in each turn. Assumes nothing.
use Rattle.std.proofs.Common.{◌≡◌, drop}
use lib.Seq.{paste}
use Rattle.frames.proofs.copy.Given as goal

abbrev pub invariant-loop-i : goal.invariant-loop-i
invariant-loop-i l = l.area ≡ paste l.initial.area l.fn.to.0 (drop l.fn.from.0 l.fn.source) l.i
