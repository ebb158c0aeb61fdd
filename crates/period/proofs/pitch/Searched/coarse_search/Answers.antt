-- `period::pitch::Searched::coarse_search` meets its contract: the numbers computed from the rate are those of the definition. Assumes nothing.
use Rattle.std.proofs.Common.{◌≡◌, ◌*◌, ◌/◌, ◌∙◌, ap, arith}
use native.Mathlib.Nat.{mul-le-mul}
use Rattle.search.specs.Outward.{wanted_in}
use Rattle.period.specs.Rates.{skip}
use Rattle.period.specs.Pitch.{values_of}
use Rattle.period.specs.Searches.{first_search}
use Rattle.period.proofs.Ranges.{coarse-searchable, coarse-averageable}
use Rattle.period.proofs.pitch.Searched.coarse_search.Goals as goal

pub samples-requires : goal.samples-requires
samples-requires c = omega (arith, mul-le-mul c.skip-skip.ensures.few c.args.self.now.in_limits.channels_high)

pub search_values-requires : goal.search_values-requires
search_values-requires c =
    let v = c.args.self.now in
    record {
      averageable = coarse-averageable v.in_limits v.enough c.requires c.skip-skip.ensures.value c.max_required.ensures c.samples.ensures;
      searchable = coarse-searchable v.in_limits c.skip-skip.ensures.value c.min_period.ensures c.max_period.ensures c.max_required.ensures;
    }

pub returns : goal.returns
unfolding first_search
returns c =
    let v = c.args.self.now in
    let k = c.skip-skip.ensures.value in
    let n = c.max_required.ensures in
    let per : c.samples.result.0 ≡ skip v.rate * v.channels = c.samples.ensures ∙ ap (λ t. t * v.channels) k in
    c.search_values.ensures
    ∙ (λ i. wanted_in c.args.wanted (values_of v.samples.now (n i / k i) (per i)) (c.min_period.ensures i / k i) (c.max_period.ensures i / k i))
