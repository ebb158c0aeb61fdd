use Rattle.std.proofs.Common.{rules}
use Rattle.inputs.specs.Sources.{source_after}
use Rattle.inputs.proofs.Source.after.Goals as goal

pub returns-in-Raw : goal.returns-in-Raw
unfolding source_after
returns-in-Raw c = search rules

pub returns-in-Wave : goal.returns-in-Wave
unfolding source_after
returns-in-Wave c = search rules
