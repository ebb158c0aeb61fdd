-- `search::outward::upward` meets its contract: one period more. Assumes nothing.
use Rattle.std.proofs.Common.{refl, ◌∙◌, ap, arith}
use Rattle.search.specs.Search.{lesser, best}
use Rattle.search.proofs.Candidates.{sweep-first, sweep-one}
use Rattle.search.proofs.outward.upward.Goals as goal

pub loop-period-init : goal.loop-period-init
loop-period-init c = (omega arith, c.candidate_at-best.ensures ∙ sweep-first (lesser c.args.ties) c.args.samples.now c.args.low (omega arith))

pub loop-period-preserved : goal.loop-period-preserved
loop-period-preserved c =
    let more = sweep-one (lesser c.args.ties) c.args.samples.now c.args.low {q = c.loop-period.period} (omega arith) (omega arith) c.loop-period.invariant.1
    refl c.contest-best.ensures in
    (omega arith, more ∙ ap (best c.args.ties c.args.samples.now c.args.low) (omega arith))

pub returns : goal.returns
returns c = c.loop-period.invariant.1 ∙ ap (best c.args.ties c.args.samples.now c.args.low) (omega arith)

pub returns-2 : goal.returns-2
returns-2 c =
    let more = sweep-one (lesser c.args.ties) c.args.samples.now c.args.low {q = c.loop-period.period} (omega arith) (omega arith) c.loop-period.invariant.1
    refl c.contest-best.ensures in
    more ∙ ap (best c.args.ties c.args.samples.now c.args.low) (omega arith)
