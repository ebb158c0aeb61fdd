-- `fill::stretches::stretch_frames` meets its contract. Assumes nothing.
use Rattle.std.proofs.Common.{ℕ, ◌*◌, true, false, refl, ap, ◌∙◌, arith}
use lib.Ieee.{of_bits}
use Rattle.frames.specs.Areas.{areas}
use Rattle.stream.specs.Stream.{state_of}
use Rattle.fill.proofs.Filling.{ready-limits}
use Rattle.fill.proofs.Destinations.{target-fits, short, room-there, put-straight, put-staged}
use Rattle.fill.proofs.stretches.stretch_frames.Goals as goal

pub samples-requires : goal.samples-requires
samples-requires c =
    let s = c.args.stream in
    let lent = areas c.args.samples.now c.args.stage.now c.args.output.now c.args.scratch.now in
    let r = c.requires in
    let room = room-there s lent r.lent.2 (ready-limits r.of_stream.0).channels_low in
    rw (r.of_stream.2, r.lent.3) (omega (arith, room, short s lent r.lent.2))

pub change_speed-requires : goal.change_speed-requires
unfolding of_bits state_of
change_speed-requires c =
    let s = c.args.stream in
    let lent = areas c.args.samples.now c.args.stage.now c.args.output.now c.args.scratch.now in
    let r = c.requires in
    let fits = target-fits s lent c.args.ready.call c.args.to c.samples.result.0 true r.lent.2 (ready-limits r.of_stream.0).channels_low r.lent.3 c.samples.ensures r.of_stream.2
    c.if-stream.true in
    record {
      prev_in_order = rw r.of_stream.1 r.of_stream.0.state.prev;
      held_lent = r.lent.0;
      scratch_fits = rw r.of_stream.1 r.lent.1;
      target_fits = fits.0;
      few = fits.1;
    }

pub change_speed-requires-2 : goal.change_speed-requires-2
unfolding of_bits state_of
change_speed-requires-2 c =
    let s = c.args.stream in
    let lent = areas c.args.samples.now c.args.stage.now c.args.output.now c.args.scratch.now in
    let r = c.requires in
    let fits = target-fits s lent c.args.ready.call c.args.to c.samples.result.0 false r.lent.2 (ready-limits r.of_stream.0).channels_low r.lent.3 c.samples.ensures r.of_stream.2
    c.if-stream.false in
    record {
      prev_in_order = rw r.of_stream.1 r.of_stream.0.state.prev;
      held_lent = r.lent.0;
      scratch_fits = rw r.of_stream.1 r.lent.1;
      target_fits = fits.0;
      few = fits.1;
    }

pub returns-then-stream : goal.returns-then-stream
unfolding of_bits
returns-then-stream c =
    let lent = areas c.args.samples.now c.args.stage.now c.args.output.now c.args.scratch.now in
    let r = c.requires in
    let place = c.samples.ensures ∙ ap (λ (n : ℕ). c.args.to.kept.0 * n) r.of_stream.2 in
    let told = c.change_speed.ensures in
    put-straight c.args.stream c.args.ready.call lent (areas lent.input lent.stage c.change_speed.new.area c.change_speed.new.scratch)
    c.change_speed.result c.args.to r.lent.3 c.if-stream.true (told.0, rw place at told.1) refl

pub returns : goal.returns
unfolding of_bits
returns c =
    let lent = areas c.args.samples.now c.args.stage.now c.args.output.now c.args.scratch.now in
    let r = c.requires in
    let place = c.samples.ensures ∙ ap (λ (n : ℕ). c.args.to.kept.0 * n) r.of_stream.2 in
    let told = c.change_speed-2.ensures in
    put-staged c.args.stream c.args.ready.call lent (areas lent.input c.change_speed-2.new.area lent.output c.change_speed-2.new.scratch)
    c.change_speed-2.result c.args.to r.lent.3 c.if-stream.false (told.0, rw place at told.1) refl
