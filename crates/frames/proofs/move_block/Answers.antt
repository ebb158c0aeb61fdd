-- `frames::move_block` meets its contract: a block holds what was copied to it, and is copied on. Assumes nothing.
use Rattle.std.proofs.Common.{◌≡◌, ◌≤◌, ◌∙◌, length, take, drop, length-drop, pos, replicate, arith}
use Rattle.frames.proofs.Pasted.{paste-part, paste-cong}
use Rattle.frames.proofs.move_block.Goals as goal

pub returns : goal.returns
returns c =
    let area = c.args.area.now in
    let from = drop c.args.from.0 area in
    let block = c.copy.new.area in
    let long : 8 ≤ length from = omega (arith, length-drop c.args.from.0 area) in
    let e : take 8 block ≡ take 8 from = rw c.copy.ensures (paste-part (replicate 8 (pos 0)) from 0 8 (omega arith) long) in
    c.copy-2.ensures ∙ paste-cong area block from c.args.to.0 8 e
