-- `jobs::arguments::checked` meets its contract: one test after the other. Assumes nothing.
use Rattle.std.proofs.Common.{sym, ◌∙◌}
use Rattle.jobs.specs.Arguments.{asked_of}
use Rattle.jobs.proofs.arguments.checked.Goals as goal

pub returns-then-rate_bad : goal.returns-then-rate_bad
unfolding asked_of
returns-then-rate_bad c = simp (sym c.rate_bad.ensures ∙ c.if-rate_bad.true)

pub returns-then-channels_bad : goal.returns-then-channels_bad
unfolding asked_of
returns-then-channels_bad c =
    simp (sym c.rate_bad.ensures ∙ c.if-rate_bad.false, sym c.channels_bad.ensures ∙ c.if-channels_bad.true)

pub returns-then-not-is_within : goal.returns-then-not-is_within
unfolding asked_of
returns-then-not-is_within c =
    simp (
      sym c.rate_bad.ensures ∙ c.if-rate_bad.false,
      sym c.channels_bad.ensures ∙ c.if-channels_bad.false,
      sym c.is_within.ensures ∙ c.if-not-is_within.true,
    )

pub returns-then-not-is_within-2 : goal.returns-then-not-is_within-2
unfolding asked_of
returns-then-not-is_within-2 c =
    simp (
      sym c.rate_bad.ensures ∙ c.if-rate_bad.false,
      sym c.channels_bad.ensures ∙ c.if-channels_bad.false,
      sym c.is_within.ensures ∙ c.if-not-is_within.false,
      sym c.is_within-2.ensures ∙ c.if-not-is_within-2.true,
    )

pub returns-then-not-is_within-3 : goal.returns-then-not-is_within-3
unfolding asked_of
returns-then-not-is_within-3 c =
    simp (
      sym c.rate_bad.ensures ∙ c.if-rate_bad.false,
      sym c.channels_bad.ensures ∙ c.if-channels_bad.false,
      sym c.is_within.ensures ∙ c.if-not-is_within.false,
      sym c.is_within-2.ensures ∙ c.if-not-is_within-2.false,
      sym c.is_within-3.ensures ∙ c.if-not-is_within-3.true,
    )

pub returns : goal.returns
unfolding asked_of
returns c =
    simp (
      sym c.rate_bad.ensures ∙ c.if-rate_bad.false,
      sym c.channels_bad.ensures ∙ c.if-channels_bad.false,
      sym c.is_within.ensures ∙ c.if-not-is_within.false,
      sym c.is_within-2.ensures ∙ c.if-not-is_within-2.false,
      sym c.is_within-3.ensures ∙ c.if-not-is_within-3.false,
    )
