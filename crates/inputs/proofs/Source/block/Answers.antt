use Rattle.std.proofs.Common.{rules}
use Rattle.inputs.specs.Sources.{block_of}
use Rattle.inputs.proofs.Source.block.Goals as goal

pub returns-in-Raw : goal.returns-in-Raw
unfolding block_of
returns-in-Raw c = search rules

pub returns-in-Wave : goal.returns-in-Wave
unfolding block_of
returns-in-Wave c = search rules
