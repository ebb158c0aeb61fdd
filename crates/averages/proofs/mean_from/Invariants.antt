-- `averages::mean_from` meets its contract: after i turns the sum is that of i samples. Assumes nothing.
use Rattle.averages.proofs.Averaging.{Total}
use Rattle.averages.proofs.mean_from.Given as goal

abbrev pub invariant-loop-i : goal.invariant-loop-i
invariant-loop-i l = Total l.samples l.first l.i l.sum
