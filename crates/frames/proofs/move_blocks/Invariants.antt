-- `frames::move_blocks` meets its contract: a block more in each turn. Assumes nothing.
use Rattle.std.proofs.Common.{◌≡◌, ◌*◌, drop}
use lib.Seq.{paste}
use Rattle.frames.proofs.move_blocks.Given as goal

abbrev pub invariant-loop-block : goal.invariant-loop-block
invariant-loop-block l = l.area ≡ paste l.initial.area 0 (drop l.count.0 l.initial.area) (l.block * 8)
