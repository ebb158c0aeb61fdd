-- `read::read_f32` meets its contract. Assumes nothing.
use mathlib.Core.Path.{sym, ◌∙◌}
use Rattle.stream.proofs.InOrder.{good_of, bad-of, limits_of}
use Rattle.read.specs.Reading.{read_count}
use Rattle.read.proofs.Giving.{stream-refused, output-refused}
use Rattle.read.proofs.read_f32.Goals as goal

pub returns-in_default : goal.returns-in_default
returns-in_default c =
    let a = c.args in
    stream-refused a.stream a.most.0 a.slice.now a.output.now (bad-of a.stream (sym c.ordered.ensures ∙ c.in_default.is))

pub output_bad-requires : goal.output_bad-requires
output_bad-requires c =
    let ordered = good_of c.args.stream _ (sym c.ordered.ensures ∙ c.in-Some.is) in
    (limits_of c.args.stream ordered.0).channels_low

pub returns-then-output_bad : goal.returns-then-output_bad
returns-then-output_bad c =
    let a = c.args in
    let ordered = good_of a.stream _ (sym c.ordered.ensures ∙ c.in-Some.is) in
    output-refused a.stream a.most.0 a.slice.now a.output.now ordered.0 (sym c.output_bad.ensures ∙ c.if-output_bad.true)

pub frames-whole-requires : goal.frames-whole-requires
frames-whole-requires c =
    let ordered = good_of c.args.stream _ (sym c.ordered.ensures ∙ c.in-Some.is) in
    (limits_of c.args.stream ordered.0).channels_low

pub give-requires : goal.give-requires
unfolding read_count
give-requires c =
    record {
      stream_value = good_of c.args.stream _ (sym c.ordered.ensures ∙ c.in-Some.is);
      output_value = (
        sym c.output_bad.ensures ∙ c.if-output_bad.false,
        rw (c.min-2.ensures, c.min.ensures, c.frames-whole.ensures),
      );
    }
