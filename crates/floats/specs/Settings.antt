-- docs/RULES.md, "Opening and settings": the ranges of the settings, the clamp, and the sample period. Definitions
-- only.
use Rattle.std.specs.Prelude.{ℕ, cond, pos, from_bits, Float}
use Rattle.std.specs.Float.{binary32, binary64}
use Rattle.std.specs.Float.Ieee.{of_int, div, le}
use Rattle.floats.specs.Numbers.{one, narrow}

-- speed: 0.05 and 20 as f32
abbrev pub min_speed : Float
min_speed = from_bits binary32 0x3d4c_cccd

abbrev pub max_speed : Float
max_speed = from_bits binary32 0x41a0_0000

-- pitch: the same
abbrev pub min_pitch : Float
min_pitch = from_bits binary32 0x3d4c_cccd

abbrev pub max_pitch : Float
max_pitch = from_bits binary32 0x41a0_0000

-- volume: 0.01 and 100 as f32
abbrev pub min_volume : Float
min_volume = from_bits binary32 0x3c23_d70a

abbrev pub max_volume : Float
max_volume = from_bits binary32 0x42c8_0000

-- `clamp`: a value held to low..=high, NaN to the lower end
unfoldable pub clamped : Float → Float → Float → Float
clamped value low high = cond (le low value) (cond (le value high) value high) low

-- the sample period T: 1/R in f64, rounded to f32
unfoldable pub sample_period : ℕ → Float
sample_period rate = narrow (div binary64 one (of_int binary64 (pos rate)))
