-- `averages::down_sample_input` meets its contract: before a pair of values the means before it stand at the front. Assumes nothing.
use Rattle.std.proofs.Common.{◌*◌}
use Rattle.averages.proofs.Averaging.{Front}
use Rattle.averages.proofs.down_sample_input.Given as goal

abbrev pub invariant-loop-pair : goal.invariant-loop-pair
invariant-loop-pair l = Front l.samples l.initial.out l.out (2 * l.pair) l.n
