-- `frames::remove_front` meets its contract: whole blocks are moved and then the rest. Assumes nothing.
use Rattle.std.proofs.Common.{◌≡◌, ◌+◌, ◌-◌, ◌∙◌, ap, drop, arith}
use lib.Seq.{paste}
use Rattle.frames.proofs.Removal.{moved_on, rest-moved}
use Rattle.frames.proofs.remove_front.Goals as goal

pub returns : goal.returns
returns c =
    let d = c.args.area.now in
    let n = c.args.count.0 in
    let m = c.args.kept.0 in
    let r = c.move_blocks-moved.result.0 in
    let whole : r + (m - r) ≡ m = omega (arith, c.move_blocks-moved.ensures.moved) in
    let all = moved_on d n r (m - r) (omega (arith, whole)) c.move_blocks-moved.new.area c.move_blocks-moved.ensures.area in
    rw (c.move_samples.ensures ∙ all ∙ ap (paste d 0 (drop n d)) whole) (rest-moved n m d (omega arith))
