-- `search::outward::upward` meets its contract: before a period the candidate is the best of those from low below it. Assumes nothing.
use Rattle.std.proofs.Common.{◌≡◌, ◌+◌, ◌-◌, ◌≤◌}
use Rattle.search.specs.Search.{best}
use Rattle.search.proofs.outward.upward.Given as goal

abbrev pub invariant-loop-period : goal.invariant-loop-period
invariant-loop-period l = (l.period ≤ l.high + 1) × (l.best ≡ best l.ties l.samples l.low (l.period - 1))
