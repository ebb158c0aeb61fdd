-- `pcm::decode` meets its contract: one sample more in each turn. Assumes nothing.
use Rattle.pcm.specs.Pcm.{Decoded}
use Rattle.pcm.proofs.decode.Given as goal

abbrev pub invariant-loop-i : goal.invariant-loop-i
invariant-loop-i l = Decoded l.i l.bytes l.samples
