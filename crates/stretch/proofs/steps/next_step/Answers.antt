-- `stretch::steps::next_step` meets its contract: the cases of `DueStep`. Assumes nothing.
use mathlib.Core.Path.{◌≡◌, sym, ap, ◌∙◌}
use Rattle.period.specs.declared.Chosen.{Chosen}
use Rattle.stretch.specs.declared.Step.TheVariants.{Copied}
use Rattle.stretch.specs.Steps.{search_at, period_step, next_step, prev_after, sum_after}
use Rattle.stretch.proofs.DueStep.{next_step-copied, next_step-searched, prev_after-period, sum_after-period}
use Rattle.stretch.proofs.steps.next_step.Goals as goal

pub returns-then-copying_due : goal.returns-then-copying_due
unfolding prev_after sum_after
returns-then-copying_due c =
    let u = c.args.ready.call in
    let x = c.args.input.now in
    let h = c.args.place in
    let due = sym c.copying_due.ensures ∙ c.if-copying_due.true in
    let step : Copied c.copy_count.result ≡ next_step u x h =
    (λ i. Copied (record { 0 = c.copy_count.ensures.value i })) ∙ sym (next_step-copied u x h due) in
    record { step = step; prev = ap (prev_after u x h) step; sum = ap (sum_after u x h) step; prev_in_order = c.requires.prev_in_order }

pub returns : goal.returns
returns c =
    let u = c.args.ready.call in
    let x = c.args.input.now in
    let h = c.args.place in
    let due = next_step-searched u x h (sym c.copying_due.ensures ∙ c.if-copying_due.false) in
    let searched = c.search_at-chosen.ensures.value in
    let period = (search_at u x h).period in
    let step = c.period_step.ensures ∙ ap (λ (z : Chosen). period_step u.speed u.step_over z.period) searched ∙ sym due in
    let prev = ap (prev_after u x h) due ∙ prev_after-period u x h u.speed u.step_over period in
    let sum = ap (sum_after u x h) due ∙ sum_after-period u x h u.speed u.step_over period in
    record {
      step = step;
      prev = ap (λ (z : Chosen). z.prev) searched ∙ sym prev;
      sum = ap (λ (z : Chosen). z.sum) searched ∙ sym sum;
      prev_in_order = c.search_at-chosen.ensures.prev_in_order;
    }
