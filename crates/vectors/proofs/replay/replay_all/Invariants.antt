-- `vectors::replay::replay_all`: each turn passes one line. Assumes nothing.
use Rattle.std.proofs.Common.{length}
use Rattle.vectors.proofs.replay.replay_all.Given as goal

abbrev pub decreases-loop-rest : goal.decreases-loop-rest
decreases-loop-rest g l = length l.rest
