-- `floats::steps::error_skipped` meets its contract. Assumes nothing.
use Rattle.std.proofs.Common.{◌≡◌, true, false}
use lib.Ieee.{of_bits, lt}
use Rattle.floats.specs.Numbers.{two}
use Rattle.floats.specs.Steps.{error_skipped}
use Rattle.floats.proofs.steps.error_skipped.Goals as goal

pub returns-then-s : goal.returns-then-s
unfolding error_skipped of_bits
returns-then-s c =
    let a = c.args in
    let t : lt a.s two ≡ true = c.if-s.true in
    rw (c.error_moved.ensures, t)

pub returns : goal.returns
unfolding error_skipped of_bits
returns c =
    let a = c.args in
    let t : lt a.s two ≡ false = c.if-s.false in
    rw t
