-- `stream::areas::input_full` meets its contract. Assumes nothing.
use lib.ListN.{length}
use Rattle.frames.proofs.Room.{frames-le}
use Rattle.stream.proofs.AreaTests.{room-same}
use Rattle.stream.proofs.areas.input_full.Goals as goal

pub overflow_sub-result : goal.overflow_sub-result
overflow_sub-result c =
    let e = c.before.before.before in
    let s = e.args.stream in
    rw c.frames.ensures (frames-le s.channels s.held.0 (length e.args.input.now) e.requires.0 e.requires.1)

pub returns : goal.returns
returns c =
    let e = c.before.before.before.before in
    let s = e.args.stream in
    rw c.frames.ensures
    (room-same (length e.args.input.now) s.held.0 e.args.n.0 s.channels e.requires.0 e.requires.1)
