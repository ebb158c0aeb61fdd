-- `floats::times::expected_frames` meets its contract. Assumes nothing.
use Rattle.std.proofs.Common.{◌∙◌}
use lib.Ieee.{binary32, of_bits, add, div, to_unsigned}
use Rattle.floats.specs.Numbers.{half}
use Rattle.floats.specs.Flush.{expected_frames}
use Rattle.floats.proofs.times.expected_frames.Goals as goal

pub returns : goal.returns
unfolding expected_frames of_bits
returns c =
    let a = c.args in
    let held = c.frames_to_f32.ensures in
    let tail = c.frames_to_f32-2.ensures in
    c.f32_to_usize.ensures
    ∙ (λ i. to_unsigned 64 (add binary32 (div binary32 (add binary32 (div binary32 (held i) (div binary32 a.speed a.pitch)) (tail i)) a.pitch) half))
