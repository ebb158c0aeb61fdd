-- `period::pitch::find_pitch_period` meets its contract: the least mean, and where the choice hangs on it the greatest (`proofs/Halves.antt`).
-- Assumes nothing.
use Rattle.std.proofs.Common.{◌≡◌, ◌/◌, refl, true, false, sym, ◌∙◌, ap, rules}
use borrow.Author.Tests.{le-leb, lt-leb}
use Rattle.search.specs.declared.Candidate.{Candidate}
use Rattle.search.specs.declared.outward.Wanted.TheVariants.{Greatest}
use Rattle.period.specs.Searches.{last_search, prev_might_be_better}
use Rattle.period.proofs.Halves.{near-in, answered}
use Rattle.period.proofs.pitch.find_pitch_period.Goals as goal

pub greatest_at-worst-requires : goal.greatest_at-worst-requires
greatest_at-worst-requires c =
    let near = near-in _ _ _ _ c.requires.in_limits c.least_at-near.ensures.near in
    record { near_high = near.0; near_low = near.1; fits = search rules }

pub returns-then-mean-min_diff : goal.returns-then-mean-min_diff
returns-then-mean-min_diff c =
    let a = c.args in
    let r = c.requires in
    let mean = ap (λ (b : Candidate). b.diff / b.period) c.best.view_is ∙ sym c.mean-min_diff.ensures.value in
    let might : prev_might_be_better a.prev c.mean-min_diff.result ≡ true = sym c.prev_might_be_better.ensures ∙ c.if-prev_might_be_better.true in
    let worst = c.greatest_at-worst.ensures ∙ ap (last_search Greatest _ _ _) c.least_at-near.ensures.near in
    let all = answered a.ties a.samples.now a.prev r.in_limits r.prev_in_order.period_in (c.best.view_is ∙ c.least_at-near.ensures.best) mean
    c.mean-min_diff.ensures.bound worst (sym c.mean.ensures.value) true (rw (might, le-leb _ _ c.if-mean-min_diff.true)) in
    record { value = all.0; in_range = all.1; prev_in_order = all.2 }

pub returns-else-mean-min_diff : goal.returns-else-mean-min_diff
returns-else-mean-min_diff c =
    let a = c.args in
    let r = c.requires in
    let mean = ap (λ (b : Candidate). b.diff / b.period) c.best.view_is ∙ sym c.mean-min_diff.ensures.value in
    let might : prev_might_be_better a.prev c.mean-min_diff.result ≡ true = sym c.prev_might_be_better.ensures ∙ c.if-prev_might_be_better.true in
    let worst = c.greatest_at-worst.ensures ∙ ap (last_search Greatest _ _ _) c.least_at-near.ensures.near in
    let all = answered a.ties a.samples.now a.prev r.in_limits r.prev_in_order.period_in (c.best.view_is ∙ c.least_at-near.ensures.best) mean
    c.mean-min_diff.ensures.bound worst (sym c.mean.ensures.value) false (rw (might, lt-leb _ _ c.if-mean-min_diff.false)) in
    record { value = all.0; in_range = all.1; prev_in_order = all.2 }

pub returns-else-prev_might_be_better : goal.returns-else-prev_might_be_better
returns-else-prev_might_be_better c =
    let a = c.args in
    let r = c.requires in
    let mean = ap (λ (b : Candidate). b.diff / b.period) c.best.view_is ∙ sym c.mean-min_diff.ensures.value in
    let never : prev_might_be_better a.prev c.mean-min_diff.result ≡ false = sym c.prev_might_be_better.ensures ∙ c.if-prev_might_be_better.false in
    let all = answered a.ties a.samples.now a.prev r.in_limits r.prev_in_order.period_in (c.best.view_is ∙ c.least_at-near.ensures.best) mean
    c.mean-min_diff.ensures.bound refl refl false (rw never) in
    record { value = all.0; in_range = all.1; prev_in_order = all.2 }
