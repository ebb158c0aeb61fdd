-- `rate::phases::common_step` meets its contract. The loop's invariant: the common divisors of a and b divide N and O. Assumes nothing.
use native.Mathlib.Nat.{mod-lt}
use native.Mathlib.Omega.{arith}
use Rattle.rate.proofs.Cycles.{euclid-start, euclid-turn, euclid-end, by_one}
use Rattle.rate.proofs.phases.common_step.Goals as goal

pub loop-b-init : goal.loop-b-init
loop-b-init c = euclid-start c.args.rates.new c.args.rates.old c.requires.0 c.requires.1 c.requires.2

pub returns-then-b-new_rate : goal.returns-then-b-new_rate
returns-then-b-new_rate c = by_one c.args.rates

pub loop-b-smaller : goal.loop-b-smaller
loop-b-smaller c =
    let l = c.loop-b in
    mod-lt l.a c.loop-b-test.true

pub loop-b-preserved : goal.loop-b-preserved
loop-b-preserved c =
    let l = c.loop-b in
    euclid-turn _ _ l.a l.b l.invariant c.loop-b-test.true c.if-b-new_rate.false

pub returns : goal.returns
returns c =
    let l = c.loop-b in
    euclid-end c.args.rates l.a l.b l.invariant (omega (arith, c.loop-b-test.false))
