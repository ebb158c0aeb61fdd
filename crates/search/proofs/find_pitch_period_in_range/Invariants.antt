-- `search::find_pitch_period_in_range` meets its contract: before a pair of periods the two candidates are those of the range below it.
-- Assumes nothing.
use Rattle.std.proofs.Common.{◌≡◌, ◌+◌, ◌*◌}
use Rattle.search.specs.Search.{best, worst}
use Rattle.search.proofs.find_pitch_period_in_range.Given as goal

abbrev pub invariant-loop-pair : goal.invariant-loop-pair
invariant-loop-pair l =
    (l.best ≡ best l.ties l.samples l.min_period (l.min_period + 2 * l.pair))
    × (l.worst ≡ worst l.samples l.min_period (l.min_period + 2 * l.pair))
