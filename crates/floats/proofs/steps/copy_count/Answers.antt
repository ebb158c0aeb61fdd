-- `floats::steps::copy_count` meets its contract (`proofs/CopyCount.antt`). Assumes nothing.
use Rattle.std.proofs.Common.{◌≡◌, true, false, nat_abs, pos, sym, ap, ◌∙◌, w32, to_z, of_z, to_z-of_z}
use lib.Ieee.{lt, to_signed}
use Rattle.std.specs.Int.{int_max}
use Rattle.floats.specs.Steps.{to_copy, copy_count}
use Rattle.floats.proofs.CopyCount.{copy-by, copy-le, nat_of-is}
use Rattle.floats.proofs.steps.copy_count.Goals as goal
use Rattle.floats.proofs.steps.copy_count.Goals.{After-max}

pub returns-then-c-frames_to_f32-clause-value : goal.returns-then-c-frames_to_f32-clause-value
returns-then-c-frames_to_f32-clause-value c =
    let a = c.args in
    copy-by a.error a.s a.sample_period a.left.0 true ((λ i. lt (sym c.frames_to_f32.ensures i) (sym c.to_copy-c.ensures i)) ∙ c.if-c-frames_to_f32.true)

cut : (c : After-max) → nat_abs (to_z w32 (of_z w32 c.max.result)) ≡ copy_count c.args.error c.args.s c.args.sample_period c.args.left.0
cut c =
    let a = c.args in
    let k = c.f32_to_i32-k in
    let read = to_z-of_z {w = w32} {z = k.result} (record { sfits = k.type_inv }) in
    let held = to_z-of_z {w = w32} {z = c.max.result} (record { sfits = c.max.type_inv }) in
    let is = k.ensures ∙ ap (to_signed 31) c.to_copy-c.ensures in
    let few = (λ i. lt (sym c.frames_to_f32.ensures i) (sym c.to_copy-c.ensures i)) ∙ c.if-c-frames_to_f32.false in
    ap nat_abs (held ∙ c.max.ensures.value ∙ ap (λ z. int_max z (pos 0)) (read ∙ is))
    ∙ nat_of-is (to_signed 31 (to_copy a.error a.s a.sample_period))
    ∙ copy-by a.error a.s a.sample_period a.left.0 false few

pub returns-clause-value : goal.returns-clause-value
returns-clause-value c = cut c

pub returns-clause-bound : goal.returns-clause-bound
returns-clause-bound c =
    let a = c.args in
    rw (cut c) (copy-le a.error a.s a.sample_period a.left.0 c.requires)
