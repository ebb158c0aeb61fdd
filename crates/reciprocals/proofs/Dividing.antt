-- Division by a reciprocal: where n is at most 65,535·k and k at most 16,384, n·m/2^44 is n/k for the m of `reciprocal_of k`.
-- Assumes nothing.
use mathlib.Core.Path.{◌≡◌}
use Prim.Native.Nat.{ℕ, ◌+◌, ◌*◌, ◌/◌, ◌≤◌}
use native.Mathlib.Nat.{le_trans, mul-le-mul}
use native.Mathlib.Omega.{arith}
use Rattle.laws.specs.Reciprocal.{reciprocal_parts, reciprocal_of}
use Rattle.laws.proofs.Reciprocal as law

pub reciprocal-divides : (n k : ℕ) → 1 ≤ k → k ≤ 16384 → n ≤ 65535 * k → n * reciprocal_of k / reciprocal_parts ≡ n / k
reciprocal-divides n k some narrow size =
    let sum : n + k ≤ 1073741824 = omega arith in
    law.reciprocal-divides n k some (le_trans (mul-le-mul sum narrow) (omega arith))
