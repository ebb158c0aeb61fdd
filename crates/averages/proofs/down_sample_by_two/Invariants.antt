-- `averages::down_sample_by_two` meets its contract: after i turns i means stand at the front. Assumes nothing.
use Rattle.averages.proofs.Averaging.{Front}
use Rattle.averages.proofs.down_sample_by_two.Given as goal

abbrev pub invariant-loop-i : goal.invariant-loop-i
invariant-loop-i l = Front l.samples l.initial.out l.out l.i 2
