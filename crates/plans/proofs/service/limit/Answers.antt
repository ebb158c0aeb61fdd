-- `plans::service::limit` meets its contract. Assumes nothing.
use native.Mathlib.Omega.{arith}
use Rattle.stream.proofs.InOrder.{limits_of}
use Rattle.plans.specs.Plans.{limit_of}
use Rattle.plans.proofs.Planning.{period-most, growth-least}
use Rattle.plans.proofs.service.limit.Goals as goal

pub growth-growth-requires : goal.growth-growth-requires
growth-growth-requires c = omega (arith, c.max_period-longest.ensures, period-most (limits_of c.args.stream c.requires))

pub frames-requires : goal.frames-requires
frames-requires c = (limits_of c.args.stream c.requires).channels_low

pub held_within-staged-requires : goal.held_within-staged-requires
held_within-staged-requires c = rw c.growth-growth.ensures (growth-least _ _ _)

pub held_within-made-requires : goal.held_within-made-requires
held_within-made-requires c = rw c.growth-growth.ensures (growth-least _ _ _)

pub frames-taken-requires : goal.frames-taken-requires
frames-taken-requires c = (limits_of c.args.stream c.requires).channels_low

pub returns : goal.returns
unfolding limit_of
returns c =
    rw (
      c.min-3.ensures,
      c.min-2.ensures,
      c.min.ensures,
      c.frames-taken.ensures,
      c.held_within-made.ensures,
      c.output_room.ensures,
      c.held_within-staged.ensures,
      c.frames.ensures,
      c.stage_area.ensures,
      c.growth-growth.ensures,
      c.max_period-longest.ensures,
      c.held_most-held.ensures,
    )
