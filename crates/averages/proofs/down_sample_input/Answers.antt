-- `averages::down_sample_input` meets its contract: two means more, and the last one. Assumes nothing.
use Rattle.std.proofs.Common.{◌≡◌, ◌+◌, ◌-◌, ◌*◌, ◌≤◌, arith, rules}
use native.Mathlib.Nat.{add-mul, mul-le-mul_right}
use mir.Syntax.{w16}
use mir.Val.{SFits}
use Rattle.averages.specs.Averages.{mean_from}
use Rattle.averages.proofs.Averaging.{front-none, front_at, front-more}
use Rattle.averages.proofs.down_sample_input.Goals as goal

pub loop-pair-init : goal.loop-pair-init
loop-pair-init c = front-none _ _ _

pub means_from-first-requires-clause-within : goal.means_from-first-requires-clause-within
means_from-first-requires-clause-within c =
    let n = c.args.per_value.0 in
    let i = 2 * c.loop-pair.pair in
    let h : i + 2 ≤ c.args.num_values = omega arith in
    omega (arith, add-mul i 2 n, mul-le-mul_right n h, c.requires.enough)

pub loop-pair-preserved : goal.loop-pair-preserved
loop-pair-preserved c =
    let m = c.means_from-first in
    let n = c.args.per_value.0 in
    let x = c.args.samples.now in
    let i = 2 * c.loop-pair.pair in
    let at : i * n + n ≡ (i + 1) * n = omega (arith, add-mul i 1 n) in
    let second : m.result.second ≡ mean_from x ((i + 1) * n) n = rw (← at) m.ensures.second in
    let a : SFits w16 m.result.first = search rules in
    let b : SFits w16 m.result.second = search rules in
    let one = front-more c.loop-pair.invariant (omega arith) a m.ensures.first in
    front_at (omega arith) (front-more one (omega arith) b second)

pub returns-then-num_values-eq1 : goal.returns-then-num_values-eq1
returns-then-num_values-eq1 c =
    let all = front-more (front_at {m = c.args.num_values - 1} (omega arith) c.loop-pair.invariant) (omega arith) (record { sfits = c.mean_from.type_inv }) c.mean_from.ensures in
    (front_at {m = c.args.num_values} (omega arith) all).made
