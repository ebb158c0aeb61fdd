-- `averages::mean_from` meets its contract: one sample more; the mean of samples is a sample. Assumes nothing.
use Rattle.std.proofs.Common.{◌+◌, get_or, pos, arith, rules}
use mir.Syntax.{w16}
use mir.Val.{SFits}
use Rattle.averages.proofs.Averaging.{total-none, total-at, added-total, mean-reads}
use Rattle.averages.proofs.mean_from.Goals as goal

pub loop-i-init : goal.loop-i-init
loop-i-init c = total-none _ _

pub loop-i-preserved : goal.loop-i-preserved
loop-i-preserved c =
    let sample : SFits w16 (get_or c.args.samples.now (c.args.from.0 + c.loop-i.i) (pos 0)) = search rules in
    added-total c.loop-i.invariant sample.sfits (omega arith)

pub returns : goal.returns
returns c = mean-reads (total-at (omega arith) c.loop-i.invariant) c.requires.some c.requires.few
