-- docs/RULES.md, "Rate" and "Volume": N before its halving, and the gain. Definitions only.
use Rattle.std.specs.Prelude.{ℕ, false, pos, Float}
use Rattle.std.specs.Float.{fin, binary32}
use Rattle.std.specs.Float.Ieee.{mul, div, to_unsigned}
use Rattle.floats.specs.Numbers.{count}

-- the whole part of R/pitch in f32
unfoldable pub new_rate : ℕ → Float → ℕ
new_rate rate pitch = to_unsigned 64 (div binary32 (count rate) pitch)

-- g: volume·256 cut toward zero
unfoldable pub gain : Float → ℕ
gain volume = to_unsigned 64 (mul binary32 volume (fin false 1 (pos 8)))
