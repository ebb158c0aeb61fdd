-- `stream::SonicStream::with_ties` meets its contract. Assumes nothing.
use Rattle.std.proofs.Common.{sym, ◌∙◌}
use lib.Ieee.{of_bits}
use Rattle.stream.specs.Stream.{stream_of, zero_stream}
use Rattle.stream.specs.Settings.{fresh, open_call}
use Rattle.stream.proofs.InOrder.{limits-in}
use Rattle.stream.proofs.SonicStream.with_ties.Goals as goal

pub returns-then-rate_bad : goal.returns-then-rate_bad
unfolding open_call zero_stream of_bits
returns-then-rate_bad c = simp (sym c.rate_bad.ensures ∙ c.if-rate_bad.true)

pub returns-then-channels_bad : goal.returns-then-channels_bad
unfolding open_call zero_stream of_bits
returns-then-channels_bad c =
    simp (sym c.rate_bad.ensures ∙ c.if-rate_bad.false, sym c.channels_bad.ensures ∙ c.if-channels_bad.true)

pub sample_period-requires : goal.sample_period-requires
sample_period-requires c =
    let rate = sym c.rate_bad.ensures ∙ c.if-rate_bad.false in
    let l = limits-in _ _ rate (sym c.channels_bad.ensures ∙ c.if-channels_bad.false) in
    (l.rate_low, l.rate_high)

pub returns : goal.returns
unfolding open_call stream_of fresh zero_stream of_bits
returns c =
    simp (
      sym c.rate_bad.ensures ∙ c.if-rate_bad.false,
      sym c.channels_bad.ensures ∙ c.if-channels_bad.false,
      c.sample_period.ensures,
      c.from.ensures,
    )
