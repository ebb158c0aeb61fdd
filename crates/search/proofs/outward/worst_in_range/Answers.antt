-- `search::outward::worst_in_range` meets its contract: one period more. Assumes nothing.
use Rattle.std.proofs.Common.{◌∙◌, ap, arith}
use Rattle.search.specs.Search.{greater, worst}
use Rattle.search.proofs.Candidates.{sweep-first, sweep-one}
use Rattle.search.proofs.outward.worst_in_range.Goals as goal

pub loop-period-init : goal.loop-period-init
loop-period-init c = (omega arith, c.candidate_at-worst.ensures ∙ sweep-first greater c.args.samples.now c.args.low (omega arith))

pub loop-period-preserved : goal.loop-period-preserved
loop-period-preserved c =
    let more = sweep-one greater c.args.samples.now c.args.low {q = c.loop-period.period} (omega arith) (omega arith) c.loop-period.invariant.1
    c.candidate_at.ensures c.greater-worst.ensures in
    (omega arith, more ∙ ap (worst c.args.samples.now c.args.low) (omega arith))

pub returns : goal.returns
returns c = c.loop-period.invariant.1 ∙ ap (worst c.args.samples.now c.args.low) (omega arith)

pub returns-2 : goal.returns-2
returns-2 c =
    let more = sweep-one greater c.args.samples.now c.args.low {q = c.loop-period.period} (omega arith) (omega arith) c.loop-period.invariant.1
    c.candidate_at.ensures c.greater-worst.ensures in
    more ∙ ap (worst c.args.samples.now c.args.low) (omega arith)
