-- `search::sums::gaps_from` meets its contract: at difference from + i the sum is that of the i before it. Assumes nothing.
use Rattle.search.proofs.Candidates.{Sum}
use Rattle.search.proofs.sums.gaps_from.Given as goal

abbrev pub invariant-loop-i : goal.invariant-loop-i
invariant-loop-i l = Sum l.samples l.period l.from l.i l.sum
