-- What is left of the block falls with each write.
use Rattle.std.proofs.Common.{◌≡◌, ◌-◌, ◌/◌, ◌%◌, ◌≤◌, true, length}
use Rattle.reels.specs.States.{sound}
use Rattle.blocks.specs.Blocks.{PartWritten}
use Rattle.blocks.proofs.write_block.Given as goal

abbrev pub invariant-loop-at : goal.invariant-loop-at
invariant-loop-at g l =
    (l.at ≤ length l.block) × (l.at % l.plan.channels ≡ 0) × PartWritten l.plan (l.at / l.plan.channels) l.initial.reel l.reel
    × (sound l.reel.state ≡ true → l.reel.stream.waiting.0 ≤ l.few)

abbrev pub decreases-loop-at : goal.decreases-loop-at
decreases-loop-at g l = length l.block - l.at
