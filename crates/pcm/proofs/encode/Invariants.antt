-- `pcm::encode` meets its contract: one sample more in each turn. Assumes nothing.
use Rattle.pcm.specs.Pcm.{Encoded}
use Rattle.pcm.proofs.encode.Given as goal

abbrev pub invariant-loop-i : goal.invariant-loop-i
invariant-loop-i l = Encoded l.i l.values l.bytes
