-- `search::outward::candidate_in_range` meets its contract: one search for each thing wanted. Assumes nothing.
use Rattle.search.specs.Outward.{wanted_in}
use Rattle.search.proofs.outward.candidate_in_range.Goals as goal

pub returns-in-Least : goal.returns-in-Least
unfolding wanted_in
returns-in-Least c = rw c.in-Least.is c.best_in_range.ensures

pub returns-in-Greatest : goal.returns-in-Greatest
unfolding wanted_in
returns-in-Greatest c = rw c.in-Greatest.is c.worst_in_range.ensures
