-- docs/RULES.md, "Volume": `scale_samples` of the original. Definitions only.
use Rattle.std.specs.Prelude.{cond, ℤ, pos, negsuc, ◌*ℤ◌, Float}
use Rattle.std.specs.Int.Signed.{shr_z}
use Rattle.std.specs.Float.Ieee.{eq}
use Rattle.frames.specs.Clamp.{clamp_z}
use Rattle.floats.specs.Numbers.{one}
use Rattle.floats.specs.Scales.{gain}

-- ±32767
abbrev pub lowest : ℤ
lowest = negsuc 32766

abbrev pub highest : ℤ
highest = pos 32767

-- a sample at the gain g: sample·g shifted right by 8, held to ±32767
unfoldable pub amplified : ℤ → ℤ → ℤ
amplified g x = clamp_z lowest highest (shr_z (x *ℤ g) 256)

-- a sample at a volume: as it is if that is 1.0, else at the volume's gain
unfoldable pub scaled : Float → ℤ → ℤ
scaled volume x = cond (eq volume one) x (amplified (pos (gain volume)) x)
