-- `floats::times::local_speed` meets its contract. Assumes nothing.
use lib.Ieee.{binary32, mul, div}
use Rattle.floats.specs.Write.{local_speed}
use Rattle.floats.proofs.times.local_speed.Goals as goal

pub returns : goal.returns
unfolding local_speed
returns c =
    let a = c.args in
    λ i. div binary32 (mul binary32 (c.frames_to_f32.ensures i) a.sample_period) a.play
