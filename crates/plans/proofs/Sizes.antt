-- Between which sizes the stage and the output of a job are. Assumes nothing.
use mathlib.Core.Bool.{Bool, true, false}
use Prim.Native.Nat.{◌≤◌}
use native.Mathlib.Omega.{arith}
use Rattle.plans.specs.Plans.{stage_area, output_area}

pub stage-least : (small : Bool) → 196992 ≤ stage_area small
unfolding stage_area
stage-least true = omega arith
stage-least false = omega arith

pub stage-most : (small : Bool) → stage_area small ≤ 1048576
unfolding stage_area
stage-most true = omega arith
stage-most false = omega arith

pub output-least : (small : Bool) → 409600 ≤ output_area small
unfolding output_area
output-least true = omega arith
output-least false = omega arith

pub output-most : (small : Bool) → output_area small ≤ 1048576
unfolding output_area
output-most true = omega arith
output-most false = omega arith
