-- `fill::stretches::stepped` meets its contract. Assumes nothing.
use mathlib.Core.Path.{refl}
use Rattle.frames.proofs.Framing.{length-frames_of}
use Rattle.stream.specs.Stream.{state_of, stream_of}
use Rattle.fill.specs.Taking.{stepped}
use Rattle.fill.proofs.stretches.stepped.Goals as goal

pub returns-then-stretch : goal.returns-then-stretch
unfolding stepped state_of stream_of
returns-then-stretch c =
    rw c.if-stretch.true
    (record {
      frames = refl;
      used = refl;
      balance = refl;
      stream = λ input stage. simp length-frames_of (rw c.requires.2);
      told = refl;
    })

pub returns : goal.returns
unfolding stepped state_of
returns c =
    rw c.if-stretch.false
    (record { frames = refl; used = refl; balance = c.balance_of.ensures; stream = c.removed.ensures; told = refl })
