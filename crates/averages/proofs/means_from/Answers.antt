-- `averages::means_from` meets its contract: one sample more of each group; the mean of samples is a sample. Assumes nothing.
use Rattle.std.proofs.Common.{◌+◌, get_or, pos, arith, rules}
use mir.Syntax.{w16}
use mir.Val.{SFits}
use Rattle.averages.proofs.Averaging.{total-none, total-at, added-total, mean-reads}
use Rattle.averages.proofs.means_from.Goals as goal

pub loop-i-init : goal.loop-i-init
loop-i-init c = (total-none _ _, total-none _ _)

pub loop-i-preserved : goal.loop-i-preserved
loop-i-preserved c =
    let x = c.args.samples.now in
    let a : SFits w16 (get_or x (c.args.from.0 + c.loop-i.i) (pos 0)) = search rules in
    let b : SFits w16 (get_or x (c.args.from.0 + c.args.count.0 + c.loop-i.i) (pos 0)) = search rules in
    (added-total c.loop-i.invariant.0 a.sfits (omega arith), added-total c.loop-i.invariant.1 b.sfits (omega arith))

pub returns-clause-first : goal.returns-clause-first
returns-clause-first c = mean-reads (total-at (omega arith) c.loop-i.invariant.0) c.requires.some c.requires.few

pub returns-clause-second : goal.returns-clause-second
returns-clause-second c = mean-reads (total-at (omega arith) c.loop-i.invariant.1) c.requires.some c.requires.few
