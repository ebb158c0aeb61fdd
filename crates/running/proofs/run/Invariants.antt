use Rattle.skimming.specs.Skimming.{Underway}
use Rattle.running.proofs.run.Given as goal

abbrev pub invariant-loop-round : goal.invariant-loop-round
invariant-loop-round g l = Underway l.plan l.reel
