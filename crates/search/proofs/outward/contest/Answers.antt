-- `search::outward::contest` meets its contract: one block more, a sum that fails the test already, and the rest. Assumes nothing.
use Rattle.std.proofs.Common.{◌≡◌, ◌∙◌, ap, arith, rules}
use Rattle.search.specs.declared.Candidate.{Candidate}
use Rattle.search.specs.Search.{lesser}
use Rattle.search.proofs.Candidates.{sum-at, sum-join, sum-whole, lost}
use Rattle.search.proofs.outward.contest.Goals as goal

pub returns-then-limit-sum : goal.returns-then-limit-sum
returns-then-limit-sum c =
    let g = c.gaps_from.ensures in
    let kept = c.loop-i.invariant.1 in
    let d : c.old.inside.diff ≡ c.args.old.diff = ap (λ (o : Candidate). o.diff) c.old.view_is in
    let p : c.old-in-loop-i.inside.period ≡ c.args.old.period = ap (λ (o : Candidate). o.period) (c.old-in-loop-i.view_is ∙ kept) in
    let sum = sum-join c.loop-i.invariant.2 (record { is = g.sum; each = g.bound }) (omega arith) in
    rw (lost c.args.ties c.args.old sum (omega arith) (rw (d, p) at c.if-limit-sum.true) (search rules)) kept

pub loop-i-preserved : goal.loop-i-preserved
loop-i-preserved c =
    let g = c.gaps_from.ensures in
    (omega arith, c.loop-i.invariant.1, sum-join c.loop-i.invariant.2 (record { is = g.sum; each = g.bound }) (omega arith))

pub returns : goal.returns
returns c =
    let g = c.gaps_from-2.ensures in
    let whole = sum-whole (sum-at (omega arith) (sum-join c.loop-i.invariant.2 (record { is = g.sum; each = g.bound }) (omega arith))) in
    c.lesser.ensures ∙ (λ i. lesser c.args.ties (c.loop-i.invariant.1 i) (whole i))
