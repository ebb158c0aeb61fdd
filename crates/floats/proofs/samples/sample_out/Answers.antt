use Rattle.std.proofs.Common.{ℤ, ap, ◌∙◌, w16}
use lib.Ieee.{binary32, of_int, of_bits}
use mir.ValLaws.{to_z-of_z}
use Rattle.floats.proofs.SampleOut.{by_product, sample_out-by-product}
use Rattle.floats.proofs.samples.sample_out.Goals as goal

pub returns : goal.returns
unfolding of_bits
returns c =
    let v = c.args.v in
    let fits = c.ranges.v in
    ap (λ (z : ℤ). by_product (of_int binary32 z)) (to_z-of_z w16 v fits) ∙ sample_out-by-product v fits
