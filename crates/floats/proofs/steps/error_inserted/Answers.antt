-- `floats::steps::error_inserted` meets its contract. Assumes nothing.
use Rattle.std.proofs.Common.{◌≡◌, true, false}
use lib.Ieee.{of_bits, lt}
use Rattle.floats.specs.Numbers.{half}
use Rattle.floats.specs.Steps.{error_inserted}
use Rattle.floats.proofs.steps.error_inserted.Goals as goal

pub returns-then-s : goal.returns-then-s
unfolding error_inserted of_bits
returns-then-s c =
    let a = c.args in
    let t : lt half a.s ≡ true = c.if-s.true in
    rw (c.error_moved.ensures, t)

pub returns : goal.returns
unfolding error_inserted of_bits
returns c =
    let a = c.args in
    let t : lt half a.s ≡ false = c.if-s.false in
    rw t
