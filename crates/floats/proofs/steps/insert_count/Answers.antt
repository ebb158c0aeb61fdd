-- `floats::steps::insert_count` meets its contract. Assumes nothing.
use Rattle.std.proofs.Common.{◌≡◌, max, true, false, sym, ap, ◌∙◌, le_refl, arith}
use lib.Ieee.{binary32, of_bits, sub, mul, div, le, to_unsigned}
use Rattle.floats.specs.Numbers.{half, one}
use Rattle.floats.specs.Steps.{insert_count}
use Rattle.floats.proofs.StepRules.{insert_count-le}
use Rattle.floats.proofs.steps.insert_count.Goals as goal
use Rattle.floats.proofs.steps.insert_count.Goals.{After-f32_to_usize-k}

-- what the code cuts, in the contract's words
cut-is : (c : After-f32_to_usize-k)
    → max 1 c.f32_to_usize-k.result ≡ insert_count c.args.s c.args.period.0
unfolding insert_count of_bits
cut-is c =
    let a = c.args in
    let t : le a.s half ≡ true = c.if-s.true in
    let n = c.frames_to_f32-n.ensures in
    ap (max 1) (c.f32_to_usize-k.ensures ∙ (λ i. to_unsigned 64 (div binary32 (mul binary32 (n i) a.s) (sub binary32 one a.s)))) ∙ sym (rw t)

pub returns-then-s : goal.returns-then-s
returns-then-s c =
    let a = c.args in
    let is : c.max.result ≡ insert_count a.s a.period.0 = omega (arith, c.max.ensures, cut-is c.before) in
    record { value = is; positive = omega arith; bound = omega (arith, is, insert_count-le a.s a.period.0 (omega arith) (omega arith)) }

pub returns : goal.returns
unfolding insert_count of_bits
returns c =
    let a = c.args in
    let t : le a.s half ≡ false = c.if-s.false in
    record { value = sym (rw t (omega arith)); positive = omega arith; bound = le_refl a.period.0 }
