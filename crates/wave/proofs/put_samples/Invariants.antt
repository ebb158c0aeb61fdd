-- `wave::put_samples` meets its contract: one sample more in each turn. Assumes nothing.
use Rattle.std.proofs.Common.{◌≡◌, ◌*◌, length, take}
use lib.Seq.{paste}
use Rattle.wave.specs.Wave.{sample_bytes}
use Rattle.wave.proofs.put_samples.Given as goal

abbrev pub invariant-loop-i : goal.invariant-loop-i
invariant-loop-i l = record {
  long : length l.dest ≡ length l.initial.dest;
  put : l.dest ≡ paste l.initial.dest 44 (sample_bytes (take l.i l.samples)) (2 * l.i);
}
