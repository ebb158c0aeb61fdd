-- `process::finish::scale_made` meets its contract. Assumes nothing.
use borrow.Author.Rules.{rules}
use Rattle.volume.specs.Volume.{scaled}
use Rattle.stream.specs.Stream.{state_of}
use Rattle.process.proofs.Finishing.{mapped-behind}
use Rattle.process.proofs.finish.scale_made.Goals as goal

pub returns : goal.returns
returns c =
    let x = c.args.stream in
    mapped-behind (scaled x.volume) x.channels x.waiting.0 c.args.made.0 c.args.output.now c.scale_samples.new.area c.requires.1
    (rw (c.samples-2.ensures, c.samples.ensures) at c.scale_samples.ensures)

pub scale_samples-requires : goal.scale_samples-requires
unfolding state_of
scale_samples-requires c = search rules
