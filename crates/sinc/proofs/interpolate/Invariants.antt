-- `sinc::interpolate` meets its contract. The loop's invariant: the sum is that of the first i taps, and within its limit.
-- Assumes nothing.
use mathlib.Core.Path.{◌≡◌}
use mathlib.Core.List.{List}
use Prim.Native.Nat.{ℕ, ◌+◌, ◌*◌, ◌≤◌}
use lib.IntN.{ℤ, pos, nat_abs}
use lib.ListN.{get_or}
use Rattle.sinc.specs.Sinc.{weighted_sum}
use Rattle.sinc.proofs.Taps.{limit}
use Rattle.sinc.proofs.interpolate.Given as goal

-- the taps of a channel, the first at `from`; the weights
abbrev pub taps : List ℤ → ℕ → ℕ → ℕ → ℤ
taps stage from channels i = get_or stage (from + i * channels) (pos 0)

abbrev pub values : List ℤ → ℕ → ℤ
values weights i = get_or weights i (pos 0)

abbrev pub invariant-loop-i : goal.invariant-loop-i
invariant-loop-i l = record {
  added : l.sum ≡ weighted_sum (taps l.window.stage.now l.first l.window.channels) (values l.weights) l.i;
  limited : nat_abs (weighted_sum (taps l.window.stage.now l.first l.window.channels) (values l.weights) l.i) ≤ limit l.i;
}
