use Rattle.std.proofs.Common.{◌≤◌, ap, ◌∙◌, length, take, arith, length-take}
use Rattle.inputs.proofs.Begun.{begins-bytes}
use Rattle.inputs.proofs.begin.Goals as goal

pub returns-clause-begins : goal.returns-clause-begins
returns-clause-begins c =
    let most : c.min-most.result ≤ length c.args.block.now = omega arith in
    begins-bytes c.args.first c.min-most.result c.min-known.result _ _ _ _ c.ranges.first.fits c.min-known.ensures
    (simp length-take (omega arith)) (c.copy_from_slice.ensures.after ∙ ap (take c.min-known.result) c.to_le_bytes-bytes.ensures) (c.fill.ensures.after (λ y e. e))
