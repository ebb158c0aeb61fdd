-- `sonic_c::calls::kelpladder_flush` meets its contract. Assumes nothing.
use Rattle.sonic_c.proofs.Answering.{wrote-ensures}
use Rattle.sonic_c.proofs.calls.kelpladder_flush.Goals as goal

pub returns : goal.returns
returns c = wrote-ensures c.flush.result c.from.result c.from.ensures c.flush.ensures.call_ensures
