-- `search::outward::worst_in_range` meets its contract: before a period the candidate is the worst of those from low below it. Assumes nothing.
use Rattle.std.proofs.Common.{◌≡◌, ◌+◌, ◌-◌, ◌≤◌}
use Rattle.search.specs.Search.{worst}
use Rattle.search.proofs.outward.worst_in_range.Given as goal

abbrev pub invariant-loop-period : goal.invariant-loop-period
invariant-loop-period l = (l.period ≤ l.high + 1) × (l.worst ≡ worst l.samples l.low (l.period - 1))
