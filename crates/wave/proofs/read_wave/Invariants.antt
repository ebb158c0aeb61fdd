-- `wave::read_wave` meets its contract: each turn answers, or leaves the rest of the file behind another chunk. Assumes nothing.
use Rattle.std.proofs.Common.{◌≡◌, suc, ◌-◌, ◌≤◌, length}
use Rattle.wave.specs.Wave.{walk, read_wave}
use Rattle.wave.proofs.read_wave.Given as goal

abbrev pub invariant-loop-count : goal.invariant-loop-count
invariant-loop-count l = record {
  within : length l.rest ≤ length l.bytes;
  left : read_wave l.bytes ≡ walk (suc (length l.rest)) (length l.bytes - length l.rest) l.rest l.format;
}

abbrev pub decreases-loop-count : goal.decreases-loop-count
decreases-loop-count l = length l.rest
