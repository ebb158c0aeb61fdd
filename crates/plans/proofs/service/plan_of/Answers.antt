-- `plans::service::plan_of` meets its contract. Assumes nothing.
use Prim.Native.Nat.{◌*◌}
use native.Mathlib.Omega.{arith}
use native.Mathlib.Nat.{div-mul-le_self}
use Rattle.stream.proofs.InOrder.{limits_of}
use borrow.Author.Tests.{leb-true}
use Rattle.period.specs.Rates.{min_period, max_required}
use Rattle.plans.specs.Plans.{block_samples, limit_of}
use Rattle.plans.proofs.Planning.{period-most, shortest-least, shortest-most, fill-most, limit-most}
use Rattle.plans.proofs.service.plan_of.Goals as goal

pub frames-block-requires : goal.frames-block-requires
frames-block-requires c = (limits_of c.args.stream c.requires.in_order).channels_low

pub fill_to-full-requires : goal.fill_to-full-requires
fill_to-full-requires c =
    let l = limits_of c.args.stream c.requires.in_order in
    let least = c.min_period.ensures in
    let required = c.max_required-required.ensures in (
      omega (arith, least, shortest-least l),
      omega (arith, least, required, shortest-most c.args.stream.rate),
      omega (arith, required, period-most l),
    )

pub samples-requires : goal.samples-requires
samples-requires c = rw c.frames-block.ensures (omega (arith, div-mul-le_self block_samples c.args.stream.channels))

pub invariant_of-result : goal.invariant_of-result
invariant_of-result c =
    let s = c.args.stream in
    let l = limits_of s c.requires.in_order in
    let required = c.max_required-required.ensures in
    record {
      limits = l;
      block_fits = rw (c.samples.ensures, c.frames-block.ensures) (div-mul-le_self block_samples s.channels);
      required_some = omega (arith, required, l.rate_low);
      full_fits = rw (c.fill_to-full.ensures, c.min_period.ensures, required)
          (fill-most s.speed s.pitch (min_period s.rate) (max_required s.rate) (shortest-most s.rate));
      calls_fit = omega (arith, required, c.requires.limit_is, leb-true (3 * max_required s.rate) (limit_of s) c.requires.is_served);
      limit_fits = omega (arith, c.requires.limit_is, limit-most s);
    }
