-- `sinc::phases::keep_phases` meets its contract. The loop's invariant: the first m coefficients are kept. Assumes nothing.
use Rattle.sinc.proofs.Weights.{Filled, phase_coefficient}
use Rattle.sinc.proofs.phases.keep_phases.Given as goal

abbrev pub invariant-loop-m : goal.invariant-loop-m
invariant-loop-m l = Filled l.m (phase_coefficient l.step l.width.of) l.kept
