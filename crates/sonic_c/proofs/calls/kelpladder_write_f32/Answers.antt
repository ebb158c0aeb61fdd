-- `sonic_c::calls::kelpladder_write_f32` meets its contract. Assumes nothing.
use Rattle.sonic_c.proofs.Answering.{wrote-ensures}
use Rattle.sonic_c.proofs.calls.kelpladder_write_f32.Goals as goal

pub returns : goal.returns
returns c = wrote-ensures c.write_f32.result c.from.result c.from.ensures c.write_f32.ensures.call_ensures
