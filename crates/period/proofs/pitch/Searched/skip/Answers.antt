-- `period::pitch::Searched::skip` meets its contract. Assumes nothing.
use Rattle.period.proofs.Ranges.{skip-in}
use Rattle.period.proofs.pitch.Searched.skip.Goals as goal

pub returns-clause-some : goal.returns-clause-some
returns-clause-some c = (skip-in c.args.self.now.in_limits c.skip.ensures).some

pub returns-clause-few : goal.returns-clause-few
returns-clause-few c = (skip-in c.args.self.now.in_limits c.skip.ensures).few
