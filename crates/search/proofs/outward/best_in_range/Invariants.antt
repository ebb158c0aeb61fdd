-- `search::outward::best_in_range` meets its contract: before the period below q the candidate is the best of q..=high. Assumes nothing.
use Rattle.std.proofs.Common.{◌≡◌, ◌≤◌}
use Rattle.search.specs.Search.{best}
use Rattle.search.proofs.outward.best_in_range.Given as goal

abbrev pub invariant-loop-period : goal.invariant-loop-period
invariant-loop-period l = (l.low ≤ l.period) × (l.best ≡ best l.fn.ties l.samples l.period l.high)
