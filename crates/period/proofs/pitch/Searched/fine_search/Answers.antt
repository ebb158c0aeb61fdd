-- `period::pitch::Searched::fine_search` meets its contract: the numbers computed from the rate and from `near` are those of the definition.
-- Assumes nothing.
use Rattle.std.proofs.Common.{◌≡◌, ◌+◌, ◌-◌, ◌*◌, min, max, ◌∙◌, arith}
use Rattle.search.specs.Outward.{wanted_in}
use Rattle.period.specs.Rates.{min_period, max_period, skip}
use Rattle.period.specs.Pitch.{values_of}
use Rattle.period.specs.Searches.{second_search}
use Rattle.period.proofs.pitch.Searched.fine_search.Goals as goal

pub returns : goal.returns
unfolding second_search
returns c =
    let v = c.args.self.now in
    let n = c.max_required.ensures in
    let per : c.samples.result.0 ≡ v.channels = omega (arith, c.samples.ensures) in
    let low : c.max.result ≡ max (c.args.near - 4 * skip v.rate) (min_period v.rate) = omega arith in
    let high : c.min.result ≡ min (c.args.near + 4 * skip v.rate) (max_period v.rate) = omega arith in
    c.search_values.ensures ∙ (λ i. wanted_in c.args.wanted (values_of v.samples.now (n i) (per i)) (low i) (high i))
