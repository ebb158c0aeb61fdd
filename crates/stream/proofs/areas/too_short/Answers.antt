-- `stream::areas::too_short` meets its contract. Assumes nothing.
use lib.ListN.{length}
use Rattle.stream.proofs.AreaTests.{over-same}
use Rattle.stream.proofs.areas.too_short.Goals as goal

pub returns : goal.returns
returns c =
    let s = c.before.before.before in
    rw c.frames.ensures (over-same (length s.args.area.now) s.args.count.0 s.args.channels s.requires)
