-- The areas fit the memory.
use Rattle.std.proofs.Common.{◌≤◌, arith}
use Rattle.plans.proofs.Sizes.{stage-most, output-most}
use Rattle.lending.proofs.skim.Goals as goal

pub run-requires : goal.run-requires
run-requires g c =
    let a = c.args in
    let z = c.requires.1 in
    (omega (arith, z.stage_is, z.output_is, stage-most a.plan.small, output-most a.plan.small), c.requires)
