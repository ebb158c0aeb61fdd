-- `Reciprocal::divide` meets its contract, by `Rattle.reciprocals.proofs.Dividing`. Assumes nothing.
use mathlib.Core.Path.{ap, ◌∙◌}
use Prim.Native.Nat.{ℕ, ◌*◌, ◌/◌}
use native.Mathlib.Omega.{arith}
use Rattle.laws.specs.Reciprocal.{reciprocal_parts}
use Rattle.laws.proofs.Reciprocal.{product_le}
use Rattle.reciprocals.proofs.Dividing.{reciprocal-divides}
use Rattle.reciprocals.proofs.Reciprocal.divide.Goals as goal

pub overflow_mul-result : goal.overflow_mul-result
overflow_mul-result c =
    let a = c.args in
    let e = ap (λ (m : ℕ). a.size * m) a.self.exact in
    record { fits = omega (arith, e, product_le a.size a.self.of 65535 c.requires.size, c.requires.divisor.1) }

pub returns : goal.returns
returns c =
    let a = c.args in
    ap (λ (m : ℕ). a.size * m / reciprocal_parts) a.self.exact
    ∙ reciprocal-divides a.size a.self.of c.requires.divisor.0 c.requires.divisor.1 c.requires.size
