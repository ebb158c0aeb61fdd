-- `averages::means_from` meets its contract: after i turns the sums are those of i samples of each group. Assumes nothing.
use Rattle.averages.proofs.Averaging.{Total}
use Rattle.averages.proofs.means_from.Given as goal

abbrev pub invariant-loop-i : goal.invariant-loop-i
invariant-loop-i l = Total l.samples l.first l.i l.sum × Total l.samples l.second l.i l.behind
