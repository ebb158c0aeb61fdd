-- `chunks::head::put_data` meets its contract: the size stands behind the id. Assumes nothing.
use Rattle.std.proofs.Common.{arith}
use Rattle.chunks.specs.Numbers.{four_bytes}
use Rattle.chunks.specs.Chunks.{data_id}
use Rattle.chunks.proofs.Laying.{Laid, behind, four-same}
use Rattle.chunks.proofs.head.put_data.Goals as goal

pub returns : goal.returns
returns c =
    let a = c.args in
    let laid : Laid a.dest.now 36 data_id c.put.new.dest = record { is = c.put.ensures } in
    (behind laid (four_bytes a.size) c.put-2.new.dest (rw (c.to_le_bytes.ensures, four-same a.size) at c.put-2.ensures) (omega arith)).is
