-- docs/RULES.md, "A write" and "Read and flush": a sample in and out, play time, and the local speed with its test.
-- Definitions only.
use Rattle.std.specs.Prelude.{ℕ, Bool, true, false, cond, ◌||◌, ℤ, pos, Float}
use Rattle.std.specs.Float.{fin, binary32, binary64}
use Rattle.std.specs.Float.Ieee.{round, add, mul, div, lt, of_int, to_signed}
use Rattle.floats.specs.Numbers.{one, count}

-- full scale: 32767
abbrev pub full : Float
full = fin false 32767 (pos 0)

abbrev pub minus_one : Float
minus_one = fin true 1 (pos 0)

-- a sample held to ±1; a NaN stays a NaN
unfoldable pub unit_clamped : Float → Float
unit_clamped x = cond (lt x minus_one) minus_one (cond (lt one x) one x)

-- a sample in: held to ±1, times 32767 in f32, cut toward zero; NaN gives 0
unfoldable pub sample_in : Float → ℤ
sample_in x = to_signed 15 (mul binary32 (unit_clamped x) full)

-- a sample out: sample/32767 in f32
unfoldable pub sample_out : ℤ → Float
sample_out v = div binary32 (of_int binary32 v) full

-- play time after a write of n frames: it grows by frames·T/(speed/pitch)
unfoldable pub play_time_grown : Float → ℕ → Float → Float → Float → Float
play_time_grown play n period speed pitch =
    add binary32 play (div binary32 (mul binary32 (count n) period) (div binary32 speed pitch))

-- the local speed: held·T/play time
unfoldable pub local_speed : ℕ → Float → Float → Float
local_speed held period play = div binary32 (mul binary32 (count held) period) play

-- the stretch runs: a local speed outside 0.99999..1.00001, compared in f64
unfoldable pub speed_changes : Float → Bool
speed_changes s = lt (round binary64 false 100001 100000) s || lt s (round binary64 false 99999 100000)

-- play time after a call: (play time·left)/held
unfoldable pub play_time_left : Float → ℕ → ℕ → Float
play_time_left play left held = div binary32 (mul binary32 play (count left)) (count held)
