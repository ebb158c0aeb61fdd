-- `adding::process_added` meets its contract. Assumes nothing.
use Rattle.adding.proofs.Joining.{accepted-held, accepted-ready}
use Rattle.adding.proofs.process_added.Goals as goal

pub joined-joined-requires : goal.joined-joined-requires
joined-joined-requires c = (accepted-held c.requires.accepted, c.requires.period_is)

pub process_stream_input-requires : goal.process_stream_input-requires
process_stream_input-requires c =
    let ready = accepted-ready c.requires.accepted in record {
      stream_ready = rw c.joined-joined.ensures ready.0;
      fill_ready = rw c.joined-joined.ensures ready.1;
    }

pub returns : goal.returns
returns c =
    rw c.joined-joined.ensures at c.process_stream_input.ensures
