-- `sinc::ratio_frame` meets its contract. Assumes nothing.
use mathlib.Core.Path.{ap, ◌∙◌}
use lib.ListN.{drop}
use lib.Seq.{paste}
use Rattle.sinc.proofs.Weights.{weights-small, weighted_frame-is}
use Rattle.sinc.proofs.ratio_frame.Goals as goal

pub write_frame-requires-clause-small : goal.write_frame-requires-clause-small
write_frame-requires-clause-small c = weights-small c.coefficients-weights.ensures c.args.ratio.below

pub returns : goal.returns
returns c =
    let a = c.args in
    c.write_frame.ensures
    ∙ ap (λ f. paste a.output.now a.to.0 f a.window.channels) (weighted_frame-is c.coefficients-weights.ensures (drop a.window.from.0 a.window.stage.now) a.window.channels)
