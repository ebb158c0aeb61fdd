-- The areas that a run is lent. Definitions only. Assumes nothing.
use Rattle.std.specs.Prelude.{◌≡◌, ℕ}
use Rattle.frames.specs.Areas as stream
use Rattle.plans.specs.declared.Plan.{Plan}
use Rattle.plans.specs.Plans.{stage_area, output_area}
use Rattle.reels.specs.declared.areas.Areas.{Areas}

-- those that a call of the stream is lent
abbrev pub lent : {stage output : ℕ} → Areas stage output → stream.Areas
lent a = stream.areas a.input a.stage a.output a.scratch

-- a stage and an output of so many samples are those of a plan
pub record AreSized (p : Plan) (stage output : ℕ) : Type 0 where
  pub stage_is : stage ≡ stage_area p.small
  pub output_is : output ≡ output_area p.small
