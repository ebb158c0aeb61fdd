use Rattle.std.proofs.Common.{arith}
use Rattle.adding.specs.Calls.{flush_call}
use Rattle.reels.specs.Lent.{lent}
use Rattle.skimming.proofs.Turning.{complete, complete-mapped}
use Rattle.skimming.proofs.finish.Goals as goal

pub returns : goal.returns
returns g c =
    let k = c.closed-ended in
    let f = c.flush-flushed.ensures in
    let done =
    complete {answer = (flush_call k.result.stream (lent c.args.areas.now)).answer} _ (omega arith) (omega (arith, c.requires.served.1.output_is)) k.ensures.0 k.ensures.1
    f.flushed f.serving c.drain-drained.ensures in
    complete-mapped done c.end.ensures
