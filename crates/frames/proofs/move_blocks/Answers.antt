-- `frames::move_blocks` meets its contract: a block more in each turn. Assumes nothing.
use Rattle.std.proofs.Common.{◌≡◌, ◌+◌, ◌*◌, ◌∙◌, ap, drop, arith}
use lib.Seq.{paste}
use Rattle.frames.proofs.Removal.{moved_on}
use Rattle.frames.proofs.move_blocks.Goals as goal

pub loop-block-preserved : goal.loop-block-preserved
loop-block-preserved c =
    let d = c.args.area.now in
    let n = c.args.count.0 in
    let i = c.loop-block.block * 8 in
    let more : i + 8 ≡ (c.loop-block.block + 1) * 8 = omega arith in
    c.move_block.ensures ∙ moved_on d n i 8 (omega arith) c.loop-block.area c.loop-block.invariant ∙ ap (paste d 0 (drop n d)) more
