use Rattle.std.proofs.Common.{◌≡◌, ℕ, ◌+◌, ◌/◌, ◌≤◌, List, map, length, sym, ◌∙◌, subst, arith}
use lib.Ieee.{Float}
use lib.ListN.{length-map}
use Rattle.frames.specs.Areas.{Areas}
use Rattle.floats.specs.Write.{sample_out}
use Rattle.reels.specs.Lent.{lent}
use Rattle.serving.specs.Steady.{AreasSized}
use Rattle.blocks.proofs.Serving.{write-serving}
use Rattle.blocks.proofs.write.Goals as goal

pub returns-clause-serving : goal.returns-clause-serving
returns-clause-serving g c =
    let a = c.args in
    let z = c.requires.served in
    let values : List Float = map sample_out a.samples.now in
    let areas : Areas = lent a.areas.now in
    let sized : AreasSized a.plan.small areas =
    record { input = omega arith; stage = omega (arith, z.0.stage_is); output = omega (arith, z.0.output_is); scratch = omega arith } in
    let within : a.reel.stream.held.0 + length values / a.plan.channels ≤ a.plan.limit =
    subst (λ (k : ℕ). a.reel.stream.held.0 + k / a.plan.channels ≤ a.plan.limit) (sym (length-map a.samples.now sample_out)) z.4 in
    let w = c.write_i16-answer.ensures in
    write-serving a.plan a.reel _ values areas _ c.write_i16-answer.result sized z.3 within z.2 z.1 w.call_ensures.answer w.order_after
    c.answered.ensures.stream_is c.answered.ensures.state_is
