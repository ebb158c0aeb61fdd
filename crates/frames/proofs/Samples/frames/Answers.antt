-- `frames::Samples::frames` meets its contract. Assumes nothing.
use mathlib.Core.Path.{sym, ap, ◌∙◌}
use Prim.Native.Nat.{ℕ, ◌/◌}
use native.Mathlib.Nat.{div-one}
use Rattle.frames.proofs.Samples.frames.Goals as goal

pub returns-then-channels-eq1 : goal.returns-then-channels-eq1
returns-then-channels-eq1 c =
    let n = c.args.self.0 in
    sym (ap (λ (k : ℕ). n / k) c.if-channels-eq1.true ∙ div-one n)
