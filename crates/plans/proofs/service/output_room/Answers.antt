-- `plans::service::output_room` meets its contract: a block and two frames fit the output, and the product 64 bits. Assumes nothing.
use native.Mathlib.Omega.{arith}
use mathlib.Core.Path.{◌≡◌, sym, ap, ◌∙◌, subst}
use Prim.Native.Nat.{ℕ, ◌+◌, ◌-◌, ◌/◌, ◌≤◌}
use native.Mathlib.Nat.{div-le_self, mul-le-mul}
use Rattle.rate.specs.Halving.{max_halved_rate}
use Rattle.rate.proofs.Halving.{RatesWithin}
use Rattle.stream.proofs.InOrder.{limits_of}
use Rattle.plans.specs.Plans.{is_small, output_area, output_room}
use Rattle.plans.proofs.Planning.{block_within, rates-in}
use Rattle.plans.proofs.Sizes.{output-least, output-most}
use Rattle.plans.proofs.service.output_room.Goals as goal
use Rattle.plans.proofs.service.output_room.Goals.{After-frames-block, After-rates_of-rates}

-- the rates
within : (c : After-rates_of-rates) → RatesWithin c.rates_of-rates.result
within c = subst RatesWithin (sym c.rates_of-rates.ensures) (rates-in c.args.stream c.requires)

-- the frames of the output and of a block
frames-are : (c : After-frames-block) → c.frames-area.result.0 ≡ output_area (is_small c.args.stream) / c.args.stream.channels
frames-are c = c.frames-area.ensures ∙ ap (λ (n : ℕ). n / c.args.stream.channels) c.output_area.ensures

room : (c : After-frames-block) → c.frames-block.result.0 + 2 ≤ c.frames-area.result.0
room c =
    let s = c.args.stream in
    let l = limits_of s c.requires in
    rw (c.frames-block.ensures, frames-are c)
    (block_within (output_area (is_small s)) s.channels l.channels_low l.channels_high (omega (arith, output-least (is_small s))))

area-most : (c : After-frames-block) → c.frames-area.result.0 ≤ 1048576
area-most c =
    let s = c.args.stream in
    rw (frames-are c) (omega (arith, div-le_self (output_area (is_small s)) s.channels, output-most (is_small s)))

pub rates_of-rates-requires : goal.rates_of-rates-requires
rates_of-rates-requires c = omega (arith, (limits_of c.args.stream c.requires).rate_high)

pub frames-area-requires : goal.frames-area-requires
frames-area-requires c = (limits_of c.args.stream c.requires).channels_low

pub frames-block-requires : goal.frames-block-requires
frames-block-requires c = (limits_of c.args.stream c.requires).channels_low

pub overflow_sub-result : goal.overflow_sub-result
overflow_sub-result c = omega (arith, room c)

pub overflow_sub-result-2 : goal.overflow_sub-result-2
overflow_sub-result-2 c = omega (arith, room c)

pub overflow_mul-result : goal.overflow_mul-result
overflow_mul-result c =
    let f = c.before in
    let r = f.before.before.before in
    let few : c.frames-area.result.0 - 2 - c.frames-block.result.0 ≤ 1048576 = omega (arith, area-most f) in
    record {
      fits =
          omega (
            arith,
            mul-le-mul {n₁ = c.frames-area.result.0 - 2 - c.frames-block.result.0} {m₁ = c.rates_of-rates.result.old} {n₂ = 1048576} {m₂ = max_halved_rate}
                few (within r).old_most,
          );
    }

pub nonzero_div-result : goal.nonzero_div-result
nonzero_div-result c = (within c.before.before.before.before.before).new_least

pub returns : goal.returns
unfolding output_room
returns c = rw (c.frames-block.ensures, c.frames-area.ensures, c.output_area.ensures, c.rates_of-rates.ensures)
