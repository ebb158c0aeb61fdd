-- `frames::copy` meets its contract: one sample more in each turn. Assumes nothing.
use Rattle.std.proofs.Common.{◌+◌, ◌∙◌, ap, get_or, pos, to_z-of_z, arith, rules}
use mir.Syntax.{w16}
use mir.Val.{SFits}
use lib.IntN.{ℤ}
use lib.ListN.{set}
use mathlib.Core.List.{List}
use Rattle.frames.proofs.Pasted.{copy-turn}
use Rattle.frames.proofs.copy.Goals as goal

pub loop-i-preserved : goal.loop-i-preserved
loop-i-preserved c =
    let i = c.loop-i.i in
    let s : List ℤ = c.args.source.now in
    let x : ℤ = get_or s (c.args.from.0 + i) (pos 0) in
    let sample : SFits w16 x = search rules in
    rw (to_z-of_z sample) (ap (λ (r : List ℤ). set r (c.args.to.0 + i) x) c.loop-i.invariant
    ∙ copy-turn (pos 0) c.args.area.now s c.args.to.0 c.args.from.0 i (omega arith) (omega arith))
