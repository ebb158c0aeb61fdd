-- `frames::move_samples` meets its contract: a sample behind those already moved is still where it was. Assumes nothing.
use Rattle.std.proofs.Common.{◌≡◌, ◌+◌, ◌∙◌, ap, get_or, pos, to_z-of_z, arith, rules}
use mir.Syntax.{w16}
use mir.Val.{SFits}
use lib.IntN.{ℤ}
use lib.ListN.{set}
use mathlib.Core.List.{List}
use Rattle.frames.proofs.Pasted.{copy-turn, move_same}
use Rattle.frames.proofs.move_samples.Goals as goal

pub loop-i-preserved : goal.loop-i-preserved
loop-i-preserved c =
    let i = c.loop-i.i in
    let to = c.args.to.0 in
    let from = c.args.from.0 in
    let d : List ℤ = c.args.area.now in
    let x : ℤ = get_or c.loop-i.area (from + i) (pos 0) in
    let sample : SFits w16 x = search rules in
    let same : x ≡ get_or d (from + i) (pos 0) =
    ap (λ (r : List ℤ). get_or r (from + i) (pos 0)) c.loop-i.invariant ∙ move_same (pos 0) d to from i (omega arith) (omega arith) in
    rw (to_z-of_z sample, same) (ap (λ (r : List ℤ). set r (to + i) (get_or d (from + i) (pos 0))) c.loop-i.invariant
    ∙ copy-turn (pos 0) d d to from i (omega arith) (omega arith))
