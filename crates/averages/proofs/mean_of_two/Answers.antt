-- `averages::mean_of_two` meets its contract: the mean of two samples is a sample. Assumes nothing.
use Rattle.std.proofs.Common.{arith}
use Rattle.averages.proofs.Averaging.{total-one, added-total, mean-reads}
use Rattle.averages.proofs.mean_of_two.Goals as goal

pub returns : goal.returns
returns c = mean-reads (added-total (total-one c.args.a c.args.b c.ranges.a) c.ranges.b.sfits (omega arith)) (omega arith) (omega arith)
