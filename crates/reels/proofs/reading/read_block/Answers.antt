-- The whole frames of a block fit.
use Rattle.std.proofs.Common.{◌≡◌, ℕ, ◌*◌, ◌/◌, ◌≤◌, min, length, take, ◌∙◌, subst, arith, length-take-le}
use native.Mathlib.Nat.{min-le_right}
use Rattle.inputs.specs.Sources.{first_of, ready_of, block_of, Begins}
use Rattle.inputs.proofs.Begun.{begins-front, block-most}
use Rattle.plans.specs.Plans.{block_bytes}
use Rattle.reels.proofs.Blocks.{whole-fit}
use Rattle.reels.proofs.reading.read_block.Goals as goal

pub slice_bounds-fill-end : goal.slice_bounds-fill-end
slice_bounds-fill-end g c = omega (arith, c.block-size.ensures, block-most c.args.reel.source (2 * c.args.plan.block))

pub returns : goal.returns
returns g c =
    let a = c.args in
    let size = c.block-size.result in
    let filled = c.fill-filled.result in
    let now = c.fill-filled.new.block in
    let source = a.reel.source in
    let e = c.block-size.ensures in
    let size_fits : size ≤ block_bytes = omega (arith, e, block-most source (2 * a.plan.block)) in
    let filled-long : length (take size a.bytes.now) ≡ size = length-take-le size a.bytes.now (omega (arith, size_fits)) in
    let few : 2 * (filled.bytes / (2 * a.plan.channels) * a.plan.channels) ≤ block_bytes =
    omega (arith, whole-fit filled.bytes a.plan.channels, c.fill-filled.ensures.0, filled-long, size_fits) in
    let begins = rw (c.first.ensures, c.ready.ensures, filled-long ∙ e) at c.fill-filled.ensures.2 in
    let long : length now ≡ block_of source (2 * a.plan.block) = c.fill-filled.auto.block ∙ filled-long ∙ e in (
      omega (arith, few, c.samples-samples.ensures),
      omega arith,
      record {
        filled = filled;
        fits = omega (arith, c.fill-filled.ensures.0, filled-long, e);
        begins = begins-front (first_of source) _ now _ (omega (arith, long, min-le_right (ready_of source) (block_of source (2 * a.plan.block)))) begins;
        counted = c.count.ensures;
        samples_are = c.samples-samples.ensures;
      },
      c.decode.ensures,
    )
