-- `stream::SonicStream::ordered` meets its contract. Assumes nothing.
use Rattle.std.proofs.Common.{◌≡◌, true, sym, ◌∙◌, arith}
use Rattle.std.proofs.lemmas.Grind.{common_steps}
use Rattle.stream.specs.Refusals.{limits_in_order, period_in_order, is_in_order}
use Rattle.stream.specs.Order.{order_of}
use Rattle.stream.proofs.InOrder.{limits-range}
use Rattle.stream.proofs.SonicStream.ordered.Goals as goal

pub returns-then-not-limits_in_order : goal.returns-then-not-limits_in_order
unfolding order_of is_in_order
returns-then-not-limits_in_order c = simp (sym c.limits_in_order.ensures ∙ c.if-not-limits_in_order.true)

pub sample_period-period-requires : goal.sample_period-period-requires
sample_period-period-requires c =
    let l = limits-range c.args.self (sym c.limits_in_order.ensures ∙ c.if-not-limits_in_order.false) in
    (l.rate_low, l.rate_high)

pub positions_in_order-in_order-requires : goal.positions_in_order-in_order-requires
positions_in_order-in_order-requires c =
    let limits = limits-range c.args.self (sym c.limits_in_order.ensures ∙ c.if-not-limits_in_order.false) in
    grind (arith, common_steps)

pub returns : goal.returns
unfolding order_of is_in_order period_in_order
returns c =
    let limits : limits_in_order c.args.self ≡ true = sym c.limits_in_order.ensures ∙ c.if-not-limits_in_order.false in
    grind (arith, common_steps)
