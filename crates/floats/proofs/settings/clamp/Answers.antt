-- `floats::settings::clamp` meets its contract. Assumes nothing.
use Rattle.std.proofs.Common.{◌≡◌, Bool, true, false, cond}
use lib.Ieee.{Float, le}
use Rattle.floats.specs.Settings.{clamped}
use Rattle.floats.proofs.settings.clamp.Goals as goal

by : (v lo hi : Float) (a b : Bool) → le lo v ≡ a → le v hi ≡ b → cond a (cond b v hi) lo ≡ clamped v lo hi
unfolding clamped
by v lo hi a b p q = rw (p, q)

below : (v lo hi : Float) → le lo v ≡ false → lo ≡ clamped v lo hi
unfolding clamped
below v lo hi p = rw p

pub returns-then-value-high : goal.returns-then-value-high
returns-then-value-high c =
    let a = c.args in
    by a.value a.low a.high true true c.if-low-value.true c.if-value-high.true

pub returns-else-value-high : goal.returns-else-value-high
returns-else-value-high c =
    let a = c.args in
    by a.value a.low a.high true false c.if-low-value.true c.if-value-high.false

pub returns-else-low-value : goal.returns-else-low-value
returns-else-low-value c =
    let a = c.args in
    below a.value a.low a.high c.if-low-value.false
