-- `floats::times::play_time_grown` meets its contract. Assumes nothing.
use lib.Ieee.{binary32, add, mul, div}
use Rattle.floats.specs.Write.{play_time_grown}
use Rattle.floats.proofs.times.play_time_grown.Goals as goal

pub returns : goal.returns
unfolding play_time_grown
returns c =
    let a = c.args in
    λ i. add binary32 a.play (div binary32 (mul binary32 (c.frames_to_f32.ensures i) a.sample_period) (div binary32 a.speed a.pitch))
