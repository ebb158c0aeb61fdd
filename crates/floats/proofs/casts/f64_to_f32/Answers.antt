-- `floats::casts::f64_to_f32` meets its contract: the pattern that it makes is that of `narrow x`, which is an `f32` and no NaN. Assumes nothing.
use Rattle.std.proofs.Common.{◌≡◌, T, sym, ap, ◌∙◌, subst}
use lib.Ieee.{Float, binary32, binary64, fits, of_bits, to_bits}
use lib.Ieee.Bits.{of_bits-to_bits}
use lib.Ieee.Compare.{differs_from_itself}
use Rattle.floats.specs.Numbers.{narrow}
use Rattle.floats.proofs.Narrow.{equals_itself, no-nan-bits, narrow-fits, narrow-no-nan, zero_by_zero}
use Rattle.floats.proofs.casts.f64_to_f32.Goals as goal
use Rattle.floats.proofs.casts.f64_to_f32.Goals.{After-nearest_bits, Start}

held : (c : Start) → T (fits binary64 c.args.x)
held c = subst T (sym c.well_formed.0.1) tt

pub float_to_bits-x : goal.float_to_bits-x
float_to_bits-x c = equals_itself c.args.x c.if-x.false

pub nearest_bits-requires : goal.nearest_bits-requires
nearest_bits-requires c = no-nan-bits binary64 c.args.x (held c.before) (equals_itself c.args.x c.if-x.false)

made : (c : After-nearest_bits) → c.nearest_bits.result ≡ to_bits binary32 (narrow c.args.x)
made c =
    let s = c.before.before in
    c.nearest_bits.ensures ∙ ap (λ (x : Float). to_bits binary32 (narrow x)) (of_bits-to_bits binary64 s.args.x (held s))

pub float_from_bits-result : goal.float_from_bits-result
float_from_bits-result c =
    let x = c.args.x in
    rw (made c) (no-nan-bits binary32 (narrow x) (narrow-fits x) (narrow-no-nan x (equals_itself x c.if-x.false)))

pub returns-then-x : goal.returns-then-x
returns-then-x c = zero_by_zero ∙ ap narrow (sym (differs_from_itself c.args.x (subst T (sym c.if-x.true) tt)))

pub returns-else-x : goal.returns-else-x
returns-else-x c =
    let x = c.args.x in
    ap (of_bits binary32) (made c) ∙ of_bits-to_bits binary32 (narrow x) (narrow-fits x)
