-- `process::finish::convert` meets its contract. Assumes nothing.
use Rattle.std.proofs.Common.{[], arith}
use lib.Ieee.{of_bits}
use Rattle.frames.specs.Areas.{areas}
use Rattle.stream.specs.Stream.{state_of}
use Rattle.process.proofs.Finishing.{staged-placed, straight-done, staged_done}
use Rattle.process.proofs.finish.convert.Goals as goal

pub returns-then-stream : goal.returns-then-stream
unfolding of_bits
returns-then-stream c =
    let lent = areas [] c.args.stage.now c.args.output.now [] in
    straight-done c.args.stream c.args.new.0 lent c.requires c.if-stream.true

pub adjust_rate-requires : goal.adjust_rate-requires
unfolding of_bits state_of
adjust_rate-requires c =
    let lent = areas [] c.args.stage.now c.args.output.now [] in
    let o = c.requires.ready.state in
    record {
      exact = omega (arith, o.limits.rate_high);
      other = c.if-stream.false;
      order = o.position;
      lent = record {
        some = o.limits.channels_low;
        holds = staged-placed c.args.stream c.args.new.0 lent c.requires c.if-stream.false;
        waits = c.requires.waiting_fits;
      };
    }

pub returns : goal.returns
unfolding of_bits
returns c =
    let lent = areas [] c.args.stage.now c.args.output.now [] in
    staged_done c.args.stream c.args.new.0 lent c.requires c.if-stream.false c.adjust_rate.new.output c.adjust_rate.result
    c.adjust_rate.ensures
