-- `period::pitch::Searched::greatest_at` meets its contract: the last search is the first or the second. Assumes nothing.
use Rattle.std.proofs.Common.{sym, ◌∙◌}
use borrow.Author.Tests.{eq-eqb, ne_eqb}
use Rattle.period.specs.Searches.{last_search}
use Rattle.period.proofs.pitch.Searched.greatest_at.Goals as goal

pub returns-then-skip-eq1 : goal.returns-then-skip-eq1
unfolding last_search
returns-then-skip-eq1 c = rw (eq-eqb _ 1 (sym c.skip.ensures.value ∙ c.if-skip-eq1.true)) c.coarse_search.ensures

pub returns : goal.returns
unfolding last_search
returns c = rw (ne_eqb _ 1 (λ z. c.if-skip-eq1.false (c.skip.ensures.value ∙ z))) c.fine_search.ensures
