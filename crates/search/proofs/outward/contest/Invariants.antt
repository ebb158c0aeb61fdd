-- `search::outward::contest` meets its contract: after each turn the sum is that of i differences. Assumes nothing.
use Rattle.std.proofs.Common.{◌≡◌, ◌-◌, ◌≤◌}
use Rattle.search.proofs.Candidates.{Sum}
use Rattle.search.proofs.outward.contest.Given as goal

abbrev pub invariant-loop-i : goal.invariant-loop-i
invariant-loop-i l = (l.i ≤ l.period) × (l.old ≡ l.fn.old) × Sum l.samples l.period 0 l.i l.sum

abbrev pub decreases-loop-i : goal.decreases-loop-i
decreases-loop-i l = l.period - l.i
