-- `floats::samples::sample_in` meets its contract: the product's fields are those of a size from 1 to 32767, or it is cut to 0. Assumes nothing.
use Rattle.std.proofs.Common.{◌≡◌, ◌≤◌, T, ℤ, pos, nat_abs, sym, ap, ◌∙◌, subst, true≢false, lit≤, w16, to_z, of_z}
use lib.Ieee.{Float, binary32, fits, mul, neg, of_bits, to_signed}
use lib.Ieee.Bits.{of_bits-to_bits}
use lib.Ieee.Casts.{to_signed_in}
use lib.Ieee.Fits.{mul-fits}
use mir.ValLaws.{to_z-of_z}
use Rattle.floats.specs.Write.{unit_clamped, sample_in, full}
use Rattle.floats.proofs.Cut.{yes, no}
use Rattle.floats.proofs.CutBits.{AtLeastOne, at_least_no_nan, one-le, le-minus-one, below_one, pattern-range}
use Rattle.floats.proofs.Signs.{AtMost, product-at-most, sample-range}
use Rattle.floats.proofs.samples.sample_in.Goals as goal
use Rattle.floats.proofs.samples.sample_in.Goals.{After-clamp_unit-p, After-cut_pattern, Then-p-2}

-- the product, as the code has it
abbrev product : After-clamp_unit-p → Float
product c = mul binary32 c.clamp_unit-p.result (of_bits binary32 0x46ff_fe00)

product_is : (c : After-clamp_unit-p) → product c ≡ mul binary32 (unit_clamped c.args.x) full
unfolding of_bits
product_is c = ap (λ (z : Float). mul binary32 z full) c.clamp_unit-p.ensures

product-fits : (c : After-clamp_unit-p) → T (fits binary32 (product c))
product-fits c = mul-fits binary32 c.clamp_unit-p.result (of_bits binary32 0x46ff_fe00)

reaches-one : (c : Then-p-2) → AtLeastOne (product c.before.before)
unfolding of_bits neg
reaches-one c =
    let p = product c.before.before in
    elim c.if-p.branch [ goal.then-p w ↦ one-le p (yes w.if-p.true) | goal.else-p w ↦ le-minus-one p (yes (sym w.value-is ∙ c.if-p-2.true)) ]

pub float_to_bits-p : goal.float_to_bits-p
float_to_bits-p c = at_least_no_nan (product c.before.before) (reaches-one c)

pub cut_pattern-requires : goal.cut_pattern-requires
cut_pattern-requires c =
    let a = c.before.before in
    let held = subst (AtMost 32767) (sym (product_is a)) (product-at-most a.args.x) in
    pattern-range (product a) (product-fits a) (reaches-one c) held

stored_is : (c : After-cut_pattern) → to_z w16 (of_z w16 c.cut_pattern.result) ≡ to_signed 15 (product c.before.before.before)
stored_is c =
    let p = product c.before.before.before in
    let back = of_bits-to_bits binary32 p (product-fits c.before.before.before) in
    ap (λ (z : ℤ). to_z w16 (of_z w16 z)) (c.cut_pattern.ensures ∙ ap (to_signed 15) back)
    ∙ to_z-of_z w16 (to_signed 15 p) (record { sfits = to_signed_in 15 p })

pub returns-then-p-2 : goal.returns-then-p-2
unfolding sample_in
returns-then-p-2 c =
    let a = c.before.before.before in
    let is = stored_is c ∙ ap (to_signed 15) (product_is a) in
    record { value = is; bound = subst (λ (z : ℤ). nat_abs z ≤ 32767) (sym is) (sample-range a.args.x) }

pub returns-else-p-2 : goal.returns-else-p-2
unfolding of_bits neg sample_in
returns-else-p-2 c =
    let a = c.before.before in
    let p = product a in
    let none : to_signed 15 p ≡ pos 0 = elim c.if-p.branch [
      | goal.then-p w ↦ absurd (true≢false (sym w.if-p.true ∙ sym w.value-is ∙ c.if-p-2.false))
      | goal.else-p w ↦ below_one p (no w.if-p.false) (no (sym w.value-is ∙ c.if-p-2.false))
    ] in
    record { value = sym none ∙ ap (to_signed 15) (product_is a); bound = lit≤ tt }
