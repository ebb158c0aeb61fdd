-- `search::sums::candidate_at` meets its contract: the sum of all differences is D(q). Assumes nothing.
use Rattle.search.proofs.Candidates.{sum-whole}
use Rattle.search.proofs.sums.candidate_at.Goals as goal

pub returns : goal.returns
returns c = sum-whole (record { is = c.gaps_from.ensures.sum; each = c.gaps_from.ensures.bound })
