-- `sinc::interpolate` meets its contract. The loop's invariant: the sum is that of the first i taps, and within its limit.
-- Assumes nothing.
use mathlib.Core.Path.{◌≡◌, ap, ◌∙◌, subst}
use mathlib.Core.List.{List}
use Prim.Native.Nat.{ℕ, ◌+◌, ◌≤◌, ◌<◌}
use native.Mathlib.Omega.{arith}
use borrow.Author.Rules.{rules}
use lib.IntN.{ℤ, nat_abs}
use mir.Syntax.{w16, w32}
use mir.Val.{SFits}
use mir.Facts.{to_z-of_z}
use Rattle.sinc.specs.Sinc.{sinc_filter_points, weighted_sum}
use Rattle.sinc.specs.Weights.{SmallWeights, weighted_sample}
use Rattle.sinc.proofs.Taps.{limit, Tap, next-abs, sum_fits, sum-reads, held-is}
use Rattle.sinc.proofs.interpolate.Invariants.{taps, values}
use Rattle.sinc.proofs.interpolate.Goals as goal

-- tap i of the call, as it is read
module _ (stage : List ℤ) (from channels : ℕ) (weights : List ℤ) (i : ℕ) where
  tap : SFits w16 (taps stage from channels i) → SFits w32 (values weights i) → SmallWeights weights → i < sinc_filter_points
      → nat_abs (weighted_sum (taps stage from channels) (values weights) i) ≤ limit i → Tap (taps stage from channels) (values weights) i
  tap sample weight small early before = record { sample = sample; weight = weight; small = small i early; early = early; before = before }

pub loop-i-init : goal.loop-i-init
unfolding weighted_sum
loop-i-init c = search rules

pub overflow_add-sum : goal.overflow_add-sum
overflow_add-sum c =
    let a = c.args in
    let x = a.window.stage.now in
    let i = c.loop-i.i in
    let sample : SFits w16 (taps x (a.window.from.0 + a.channel) a.window.channels i) = search rules in
    let weight : SFits w32 (values a.weights.now i) = search rules in
    rw c.loop-i.invariant.added
    (sum_fits (tap x (a.window.from.0 + a.channel) a.window.channels a.weights.now i sample weight c.requires.small c.loop-i-test.true c.loop-i.invariant.limited))

pub loop-i-preserved : goal.loop-i-preserved
loop-i-preserved c =
    let a = c.args in
    let x = a.window.stage.now in
    let i = c.loop-i.i in
    let sample : SFits w16 (taps x (a.window.from.0 + a.channel) a.window.channels i) = search rules in
    let weight : SFits w32 (values a.weights.now i) = search rules in
    let t = tap x (a.window.from.0 + a.channel) a.window.channels a.weights.now i sample weight c.requires.small c.loop-i-test.true c.loop-i.invariant.limited in
    record { added = rw c.loop-i.invariant.added (sum-reads t); limited = next-abs t }

pub returns : goal.returns
unfolding weighted_sample
returns c =
    let l = c.loop-i in
    let total : ℕ → ℤ = weighted_sum (taps c.args.window.stage.now (c.args.window.from.0 + c.args.channel) c.args.window.channels) (values c.args.weights.now) in
    let e : l.i ≡ sinc_filter_points = omega arith in
    let small = subst (λ (k : ℕ). nat_abs (total k) ≤ limit k) e l.invariant.limited in
    let held = held-is _ (total sinc_filter_points) 65536 (l.invariant.added ∙ ap total e) small c.hold.ensures in
    to_z-of_z {w = w16} (record { sfits = c.hold.type_inv }) ∙ held
