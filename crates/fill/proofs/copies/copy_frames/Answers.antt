-- `fill::copies::copy_frames` meets its contract. Assumes nothing.
use Rattle.std.proofs.Common.{[], true, false, refl, arith}
use native.Mathlib.Nat.{add-mul}
use lib.Ieee.{of_bits}
use Rattle.frames.specs.Areas.{areas}
use Rattle.fill.proofs.Destinations.{short, copy-fits, copied-straight, copied-staged}
use Rattle.fill.proofs.copies.copy_frames.Goals as goal

pub samples-place-requires : goal.samples-place-requires
samples-place-requires c =
    let s = c.args.stream in
    let lent = areas c.args.input.now c.args.stage.now c.args.output.now [] in
    omega (arith, add-mul c.args.kept.0 s.held.0 s.channels, c.requires.2, short s lent c.requires.0)

pub copy-requires : goal.copy-requires
unfolding of_bits
copy-requires c =
    let s = c.args.stream in
    let lent = areas c.args.input.now c.args.stage.now c.args.output.now [] in
    rw (c.samples-place.ensures, c.samples-count.ensures) (omega (arith, c.requires.0.held), copy-fits s lent c.args.kept.0 true c.requires.2 c.if-stream.true)

pub copy-requires-2 : goal.copy-requires-2
unfolding of_bits
copy-requires-2 c =
    let s = c.args.stream in
    let lent = areas c.args.input.now c.args.stage.now c.args.output.now [] in
    rw (c.samples-place.ensures, c.samples-count.ensures) (omega (arith, c.requires.0.held), copy-fits s lent c.args.kept.0 false c.requires.2 c.if-stream.false)

pub returns-then-stream : goal.returns-then-stream
unfolding of_bits
returns-then-stream c =
    let lent = areas c.args.input.now c.args.stage.now c.args.output.now [] in
    copied-straight c.args.stream lent (areas lent.input lent.stage c.copy.new.area []) c.args.kept.0 c.requires.1 c.if-stream.true
    (rw (c.samples-place.ensures, c.samples-count.ensures) at c.copy.ensures) refl

pub returns : goal.returns
unfolding of_bits
returns c =
    let lent = areas c.args.input.now c.args.stage.now c.args.output.now [] in
    copied-staged c.args.stream lent (areas lent.input c.copy-2.new.area lent.output []) c.args.kept.0 c.requires.1 c.if-stream.false
    (rw (c.samples-place.ensures, c.samples-count.ensures) at c.copy-2.ensures) refl
