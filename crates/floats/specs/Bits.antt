-- The bits of an f32 that is cut toward zero: its exponent field, and the whole part of its size. Definitions only.
use Rattle.std.specs.Prelude.{ℕ, ◌+◌, ◌-◌, ◌/◌, ◌%◌, ◌^◌, ◌≤◌}

-- the exponent field
abbrev pub exponent_field : ℕ → ℕ
exponent_field b = b % 2 ^ 31 / 2 ^ 23

-- b are the bits of an f32 of a size from 1 to below 2^15
pub record SampleSize (b : ℕ) : Type 0 where
  pub least : 127 ≤ exponent_field b
  pub most : exponent_field b ≤ 141

-- the whole part of the size of such an f32: its digits with the leading one, shifted
unfoldable pub cut_magnitude : ℕ → ℕ
cut_magnitude b = (2 ^ 23 + b % 2 ^ 23) / 2 ^ (150 - exponent_field b)
