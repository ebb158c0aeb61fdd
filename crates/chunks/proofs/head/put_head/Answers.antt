-- `chunks::head::put_head` meets its contract: its three parts stand behind each other. Assumes nothing.
use native.Mathlib.Omega.{arith}
use Rattle.chunks.specs.Head.{riff_part, format_part, data_part, head_of}
use Rattle.chunks.proofs.Laying.{Laid, behind}
use Rattle.chunks.proofs.head.put_head.Goals as goal

pub returns : goal.returns
unfolding head_of
returns c =
    let a = c.args in
    let riff : Laid a.dest.now 0 (riff_part a.size) c.put_riff.new.dest = record { is = c.put_riff.ensures } in
    let formatted = behind riff (format_part a.rate a.channels) c.put_format.new.dest c.put_format.ensures (omega arith) in
    (behind formatted (data_part a.size) c.put_data.new.dest c.put_data.ensures (omega arith)).is
