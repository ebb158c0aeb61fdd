-- docs/RULES.md, "Read and flush": the frames that it keeps at most. Definitions only.
use Rattle.std.specs.Prelude.{ℕ, Float}
use Rattle.std.specs.Float.{binary32}
use Rattle.std.specs.Float.Ieee.{add, div, to_unsigned}
use Rattle.floats.specs.Numbers.{half, count}

-- e = (held/(speed/pitch) + tail)/pitch + 0.5, cut
unfoldable pub expected_frames : ℕ → ℕ → Float → Float → ℕ
expected_frames held tail speed pitch =
    to_unsigned 64
    (add binary32
    (div binary32 (add binary32 (div binary32 (count held) (div binary32 speed pitch)) (count tail)) pitch) half)
