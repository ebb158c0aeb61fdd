-- `search::sums::neighbours_from` meets its contract: at difference i the sums are those of the differences before it. Assumes nothing.
use Rattle.search.proofs.Candidates.{Sum}
use Rattle.search.proofs.sums.neighbours_from.Given as goal

abbrev pub invariant-loop-i : goal.invariant-loop-i
invariant-loop-i l = Sum l.samples l.period 0 l.i l.this × Sum l.samples l.after 0 l.i l.next
