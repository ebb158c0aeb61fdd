-- What follows from the rate R (docs/RULES.md, "Opening and settings" and "Period search"). Definitions only.
-- Assumes nothing.
use Rattle.std.specs.Prelude.{ℕ, ◌*◌, ◌/◌, ◌≤◌, cond, ltb}

-- the lowest and the highest pitch looked for, and the rate of the averages, in Hz
abbrev pub min_pitch_hz : ℕ
min_pitch_hz = 65

abbrev pub max_pitch_hz : ℕ
max_pitch_hz = 400

abbrev pub amdf_freq : ℕ
amdf_freq = 4000

-- the shortest and the longest period, in frames
abbrev pub min_period : ℕ → ℕ
min_period R = R / max_pitch_hz

abbrev pub max_period : ℕ → ℕ
max_period R = R / min_pitch_hz

-- the frames that a search looks at
abbrev pub max_required : ℕ → ℕ
max_required R = 2 * max_period R

-- the frames that one average takes
unfoldable pub skip : ℕ → ℕ
skip R = cond (ltb amdf_freq R) (R / amdf_freq) 1

-- refusals 1 and 2 are not met
pub record InLimits (R channels : ℕ) : Type 0 where
  pub rate_low : 1000 ≤ R
  pub rate_high : R ≤ 500000
  pub channels_low : 1 ≤ channels
  pub channels_high : channels ≤ 32
