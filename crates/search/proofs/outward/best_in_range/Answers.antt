-- `search::outward::best_in_range` meets its contract: one period less. Assumes nothing.
use Rattle.std.proofs.Common.{◌-◌, ◌∙◌, ap, arith}
use Rattle.search.specs.declared.Ties.{Ties}
use Rattle.search.specs.Search.{candidate, lesser, best}
use Rattle.search.proofs.Downward.{best-less}
use Rattle.search.proofs.outward.best_in_range.Goals as goal

pub loop-period-preserved : goal.loop-period-preserved
loop-period-preserved c =
    let x = c.args.samples.now in
    let turned = ap (λ (t : Ties). lesser t c.loop-period.best (candidate x (c.loop-period.period - 1))) c.other-below.ensures in
    (omega arith, best-less c.args.ties x (omega arith) (omega arith) (omega arith) c.loop-period.invariant.1 (c.contest-best.ensures ∙ turned))

pub returns : goal.returns
returns c = c.loop-period.invariant.1 ∙ ap (λ q. best c.args.ties c.args.samples.now q c.args.high) (omega arith)
