-- How a crate divides by one number often: by a multiplication with its reciprocal, counted in parts of 2^44.
-- Definitions only.
use Rattle.std.specs.Prelude.{ℕ, ◌+◌, ◌/◌, ◌^◌}

-- the parts of 1
abbrev pub reciprocal_parts : ℕ
reciprocal_parts = 2 ^ 44

-- the least number of parts above 1/k
abbrev pub reciprocal_of : ℕ → ℕ
reciprocal_of k = reciprocal_parts / k + 1
