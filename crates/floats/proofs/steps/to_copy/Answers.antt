-- `floats::steps::to_copy` meets its contract. Assumes nothing.
use Rattle.std.proofs.Common.{◌∙◌}
use lib.Ieee.{binary64, of_bits, mul, div, sub}
use Rattle.floats.specs.Numbers.{narrow, one}
use Rattle.floats.specs.Steps.{to_copy}
use Rattle.floats.proofs.steps.to_copy.Goals as goal

pub returns : goal.returns
unfolding to_copy of_bits
returns c =
    let product = c.f32_to_f64_with_nan-product.ensures in
    let s = c.f32_to_f64_with_nan-wide.ensures in
    let period = c.f32_to_f64_with_nan-period.ensures in
    c.f64_to_f32.ensures
    ∙ (λ i. narrow (sub binary64 one (div binary64 (product i) (mul binary64 (period i) (sub binary64 (s i) one)))))
