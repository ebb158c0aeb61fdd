-- `floats::steps::skip_count` meets its contract. Assumes nothing.
use Rattle.std.proofs.Common.{◌≡◌, true, false, sym, ◌∙◌, le_refl, arith}
use lib.Ieee.{binary32, of_bits, sub, div, le, to_unsigned}
use Rattle.floats.specs.Numbers.{one, two}
use Rattle.floats.specs.Steps.{skip_count}
use Rattle.floats.proofs.StepRules.{skip_count-le}
use Rattle.floats.proofs.steps.skip_count.Goals as goal
use Rattle.floats.proofs.steps.skip_count.Goals.{After-f32_to_usize}

-- what the code cuts, in the contract's words
is : (c : After-f32_to_usize) → c.f32_to_usize.result ≡ skip_count c.args.s c.args.period.0
unfolding skip_count of_bits
is c =
    let a = c.args in
    let t : le two a.s ≡ true = c.if-s.true in
    let n = c.frames_to_f32-n.ensures in
    c.f32_to_usize.ensures ∙ (λ i. to_unsigned 64 (div binary32 (n i) (sub binary32 a.s one))) ∙ sym (rw t)

pub returns-then-s : goal.returns-then-s
returns-then-s c =
    let a = c.args in
    record { value = is c; bound = omega (arith, is c, skip_count-le a.s a.period.0 (omega arith)) }

pub returns : goal.returns
unfolding skip_count of_bits
returns c =
    let t : le two c.args.s ≡ false = c.if-s.false in
    record { value = sym (rw t); bound = le_refl c.args.period.0 }
