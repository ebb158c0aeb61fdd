-- The sizes that a plan is made of, in this order:
--   period-most, shortest-least, shortest-most            the periods
--   growth-least, fill-most                               the growth, and what a write fills the input up to
--   block_within, rates-in, limit-most                    what the limit is made of
--   every-usable                                          every plan is usable
-- Assumes nothing.
use mathlib.Core.Path.{◌≡◌}
use mathlib.Core.Bool.{Bool, true, false, cond}
use Prim.Native.Nat.{ℕ, ◌+◌, ◌-◌, ◌*◌, ◌/◌, ◌≤◌}
use native.Mathlib.Nat.{le_trans, div-le_self, div-mul-le_self, div-lt_iff_lt-mul, le-div_iff_mul-le, min-le_left, min-le_right}
use native.Mathlib.Omega.{arith}
use lib.Dec.{leb}
use lib.Ieee.{Float, binary32, div, to_unsigned}
use Rattle.floats.specs.Settings.{min_pitch, max_pitch}
use Rattle.period.specs.Rates.{min_period, max_period, max_required, InLimits}
use Rattle.search.specs.Search.{longest_period}
use Rattle.rate.specs.Halving.{rates_of}
use Rattle.rate.proofs.Halving.{RatesWithin, rates-within}
use Rattle.stream.specs.declared.SonicStream.{SonicStream}
use Rattle.stream.specs.Refusals.{is_in_order}
use Rattle.stream.proofs.InOrder.{limits_of, tests-of, ranges-of, within-range}
use Rattle.plans.specs.declared.Plan.{Plan}
use Rattle.plans.specs.Plans.{input_area, block_samples}
use Rattle.plans.specs.Plans.{growth_of, fill_to, held_most, limit_of, Usable}

-- ---- periods, growth, filling

pub period-most : {rate channels : ℕ} → InLimits rate channels → max_period rate ≤ longest_period
period-most {rate} l = omega (arith, (div-lt_iff_lt-mul {k = 65} {x = rate} {y = longest_period + 1} (omega arith)).1 (omega (arith, l.rate_high)))

pub shortest-least : {rate channels : ℕ} → InLimits rate channels → 1 ≤ min_period rate
shortest-least l = omega (arith, l.rate_low)

pub growth-least : (speed pitch : Float) (longest : ℕ) → 1 ≤ growth_of speed pitch longest
unfolding growth_of
growth-least speed pitch longest = omega arith

pub shortest-most : (rate : ℕ) → min_period rate ≤ max_required rate
shortest-most rate = omega arith

pub fill-most : (speed pitch : Float) (shortest required : ℕ) → shortest ≤ required → fill_to speed pitch shortest required ≤ 3 * required
unfolding fill_to
fill-most speed pitch shortest required few = go (leb shortest s)
  where
    s : ℕ
    s = to_unsigned 64 (div binary32 speed pitch)

    go : (b : Bool) → cond b (required + (shortest - 1)) (3 * required) ≤ 3 * required
    go true = omega arith
    go false = omega arith

-- ---- the limit

-- an area of at least 32 blocks and two frames more, in frames behind a block and two
pub block_within : (area channels : ℕ) → 1 ≤ channels → channels ≤ 32 → block_samples + 64 ≤ area
    → block_samples / channels + 2 ≤ area / channels
block_within area channels one few big =
    let whole = div-mul-le_self block_samples channels in
    (le-div_iff_mul-le {k = channels} {x = block_samples / channels + 2} {y = area} (omega arith)).1 (omega arith)

module _ (s : SonicStream) (o : is_in_order s ≡ true) where
  pub rates-in : RatesWithin (rates_of s.rate s.pitch)
  rates-in =
      let l = limits_of s o in
      let p = within-range min_pitch max_pitch s.pitch (ranges-of s (tests-of s o).settings).pitch in
      rates-within s.rate s.pitch l.rate_low l.rate_high p.0 p.1

pub limit-most : (s : SonicStream) → limit_of s ≤ input_area
unfolding limit_of
limit-most s =
    le_trans (min-le_right (held_most s) _) (le_trans (min-le_left (input_area / s.channels) _) (div-le_self input_area s.channels))

-- ---- plans

pub every-usable : (p : Plan) → Usable p
every-usable p =
    record {
      limits = p.limits;
      block_fits = p.block_fits;
      required_some = p.required_some;
      full_fits = p.full_fits;
      calls_fit = p.calls_fit;
      limit_fits = p.limit_fits;
    }
