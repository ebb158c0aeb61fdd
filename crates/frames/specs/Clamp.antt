-- An integer held to a range. Definitions only.
use Rattle.std.specs.Prelude.{cond, ℤ}
use Rattle.std.specs.Int.Signed.{lt_z}

-- z held to low..=high
unfoldable pub clamp_z : ℤ → ℤ → ℤ → ℤ
clamp_z low high z = cond (lt_z high z) high (cond (lt_z z low) low z)
