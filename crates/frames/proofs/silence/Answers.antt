-- `frames::silence` meets its contract: one sample more in each turn. Assumes nothing.
use Rattle.std.proofs.Common.{◌+◌, ◌∙◌, ap, pos, arith}
use mathlib.Core.List.{List}
use lib.IntN.{ℤ}
use lib.ListN.{set}
use Rattle.frames.proofs.Pasted.{silence-turn}
use Rattle.frames.proofs.silence.Goals as goal

pub loop-i-preserved : goal.loop-i-preserved
loop-i-preserved c =
    let i = c.loop-i.i in
    ap (λ (r : List ℤ). set r (c.args.to.0 + i) (pos 0)) c.loop-i.invariant
    ∙ silence-turn (pos 0) c.args.area.now c.args.to.0 c.args.count.0 i (omega arith) (omega arith)
