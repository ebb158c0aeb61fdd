use Rattle.std.proofs.Common.{refl}
use Rattle.jobs.specs.Settings.{with_format}
use Rattle.jobs.proofs.settling.with_format.Goals as goal

pub returns : goal.returns
unfolding with_format
returns c = refl
