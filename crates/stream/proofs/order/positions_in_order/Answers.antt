-- `stream::order::positions_in_order` meets its contract. Assumes nothing.
use Rattle.std.proofs.Common.{◌*◌, ◌≤◌, arith}
use native.Mathlib.Nat.{mul-le-mul}
use borrow.Author.Tests.{le-ltb}
use Rattle.rate.specs.Halving.{rates_of}
use Rattle.rate.proofs.Halving.{rates-most, rates-within}
use Rattle.stream.proofs.InOrder.{within-range, ranges-of}
use Rattle.stream.proofs.Testing.{position-start, position-over, position-is}
use Rattle.stream.proofs.order.positions_in_order.Goals as goal

pub returns-then-position-eq0 : goal.returns-then-position-eq0
returns-then-position-eq0 c =
    let s = c.args.stream in
    let l = c.requires.0 in
    let pitch = within-range _ _ s.pitch (ranges-of s c.requires.1).pitch in
    let rates = rates-within s.rate s.pitch l.rate_low l.rate_high pitch.0 pitch.1 in
    position-start (rates_of s.rate s.pitch) s rates.old_least c.if-position-eq0.true

pub overflow_mul-position : goal.overflow_mul-position
overflow_mul-position c =
    let s = c.args.stream in
    let r = c.rates_of-new.result in
    let most : (r.new ≤ 16384) × (r.old ≤ 16384) =
    rw c.rates_of-new.ensures (rates-most s.rate s.pitch (omega (arith, c.requires.0))) in
    let position : s.old_rate_position ≤ 16384 = omega (arith, most.1) in
    let product : s.old_rate_position * r.new ≤ 16384 * 16384 = mul-le-mul position most.0 in
    omega arith

pub returns-then-position-old : goal.returns-then-position-old
returns-then-position-old c =
    let s = c.args.stream in
    let r = c.rates_of-new in
    rw c.div_ceil.ensures (position-is (rates_of s.rate s.pitch) s r.result r.ensures c.if-position-old.true)

pub returns-else-position-old : goal.returns-else-position-old
returns-else-position-old c =
    let s = c.args.stream in
    let r = c.rates_of-new in
    rw (le-ltb s.old_rate_position r.result.old c.if-position-old.false) (position-over (rates_of s.rate s.pitch) s r.result r.ensures c.if-position-old.false)
