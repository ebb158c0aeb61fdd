-- The areas are those of the plan.
use Rattle.plans.specs.Plans.{stage_area, output_area}
use Rattle.tracks.proofs.sized.Goals as goal

pub written-requires : goal.written-requires
unfolding stage_area output_area
written-requires c = (c.requires, record { stage_is = rw c.if-plan.true; output_is = rw c.if-plan.true })

pub written-requires-else-plan : goal.written-requires-else-plan
unfolding stage_area output_area
written-requires-else-plan c = (c.requires, record { stage_is = rw c.if-plan.false; output_is = rw c.if-plan.false })
