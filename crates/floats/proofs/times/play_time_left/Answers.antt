-- `floats::times::play_time_left` meets its contract. Assumes nothing.
use lib.Ieee.{binary32, mul, div}
use Rattle.floats.specs.Write.{play_time_left}
use Rattle.floats.proofs.times.play_time_left.Goals as goal

pub returns : goal.returns
unfolding play_time_left
returns c = λ i. div binary32 (mul binary32 c.args.play (c.frames_to_f32.ensures i)) (c.frames_to_f32-2.ensures i)
