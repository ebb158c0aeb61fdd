-- `frames::silence` meets its contract: one sample more in each turn. Assumes nothing.
use Rattle.std.proofs.Common.{◌≡◌, pos, replicate}
use lib.Seq.{paste}
use Rattle.frames.proofs.silence.Given as goal

abbrev pub invariant-loop-i : goal.invariant-loop-i
invariant-loop-i l = l.area ≡ paste l.initial.area l.to.0 (replicate l.fn.count.0 (pos 0)) l.i
