-- `rate::phases::common_step` meets its contract. The loop's invariant: the common divisors of a and b divide N and O. Assumes nothing.
use Rattle.rate.proofs.Cycles.{Euclid}
use Rattle.rate.proofs.phases.common_step.Given as goal

abbrev pub invariant-loop-b : goal.invariant-loop-b
invariant-loop-b l = Euclid l.new_rate l.initial.b l.a l.b

abbrev pub decreases-loop-b : goal.decreases-loop-b
decreases-loop-b l = l.b
