use Rattle.skimming.specs.Skimming.{Underway}
use Rattle.skimming.proofs.turns.Given as goal

abbrev pub invariant-loop-turn : goal.invariant-loop-turn
invariant-loop-turn g l = Underway l.plan l.reel
