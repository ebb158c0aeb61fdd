-- `sonic_c::calls::kelpladder_read_f32` meets its contract. Assumes nothing.
use Rattle.sonic_c.proofs.Answering.{gave-ensures}
use Rattle.sonic_c.proofs.calls.kelpladder_read_f32.Goals as goal

pub returns : goal.returns
returns c = gave-ensures c.read_f32.result c.from.result c.from.ensures c.read_f32.ensures
