-- `fill::stretches::stretch_input` meets its contract: what the stretch is handed, the goals that it answers. Assumes
-- nothing.
use Rattle.std.proofs.Common.{◌≡◌, ◌*◌, ◌≤◌, true, refl, sym, ap, ◌∙◌, Float, arith, length, take, length-take}
use Rattle.std.proofs.lemmas.Result.{err_from_is_err_and}
use Rattle.frames.specs.Areas.{Areas, areas}
use Rattle.frames.proofs.Room.{frames-le}
use Rattle.floats.specs.Write.{speed_changes}
use Rattle.search.specs.Ties.{ties_of}
use Rattle.period.specs.Rates.{max_required}
use Rattle.stream.specs.declared.SonicStream.{SonicStream}
use Rattle.stream.specs.Order.{StreamReady}
use Rattle.fill.specs.declared.destination.Destination.{Destination}
use Rattle.fill.specs.Filling.{speed_of, destination_in, filled_area, FillReady}
use Rattle.fill.proofs.Results.{was_some, was_none}
use Rattle.fill.proofs.Filling.{ready-limits}
use Rattle.fill.proofs.Stretching.{StretchDue, call-ready, lent-long, answered-as, stretched-over, stretched-used, stretched-full, stretched-filled}
use Rattle.fill.proofs.Destinations.{room-is, fits}
use Rattle.fill.proofs.stretches.stretch_input.Goals as goal

due-of : (s : SonicStream) (speed : Float) (a : Areas) → StreamReady s × FillReady s a
    → (max_required s.rate ≤ s.held.0) × (speed ≡ speed_of s) × (speed_changes speed ≡ true)
    → StretchDue s speed (destination_in s a).kept.0 a.input (filled_area s a)
due-of s speed a r d =
    record { ready = r.0; fit = fits s a r.1.fit; enough = d.0; speed_is = d.1; changes = d.2 }

pub invariant_of-ready : goal.invariant_of-ready
invariant_of-ready c =
    let s = c.args.stream in
    let lent = areas c.args.input.now c.args.stage.now c.args.output.now c.args.scratch.now in
    let r = call-ready (due-of s c.args.speed lent c.requires.ready c.requires.stretches) c.from.result in
    record { ready = record { opened = r.opened; period_is = r.period_is; speed_fits = r.speed_fits; few = r.few } }

pub destination_of-to-requires : goal.destination_of-to-requires
destination_of-to-requires c =
    let s = c.args.stream in
    let some = (ready-limits c.requires.ready.0).channels_low in
    let fit = c.requires.ready.1.fit in
    (some, frames-le s.channels s.tail.0 _ some fit.tail, frames-le s.channels s.waiting.0 _ some fit.waiting)

pub stretch_frames-requires : goal.stretch_frames-requires
stretch_frames-requires c =
    let s = c.args.stream in
    let lent = areas c.args.input.now c.args.stage.now c.args.output.now c.args.scratch.now in
    let fit = c.requires.ready.1.fit in
    let due = due-of s c.args.speed lent c.requires.ready c.requires.stretches in
    let held : s.held.0 * s.channels ≤ length (take c.samples-count.result.0 lent.input) = rw c.samples-count.ensures (lent-long due) in
    record {
      of_stream = (c.requires.ready.0, refl, refl);
      lent = (
        held,
        c.requires.ready.1.scratch_fits,
        record {
          held = held;
          tail = fit.tail;
          waiting = fit.waiting;
          input_short = omega (arith, length-take c.samples-count.result.0 lent.input, fit.input_short);
          stage_short = fit.stage_short;
          output_short = fit.output_short;
        },
        c.destination_of-to.ensures,
      );
    }

pub returns-in_err-made : goal.returns-in_err-made
returns-in_err-made c =
    let s = c.args.stream in
    let lent = areas c.args.input.now c.args.stage.now c.args.output.now c.args.scratch.now in
    let to = destination_in s lent in
    let last = c.stretch_frames.new in
    let left = areas lent.input last.stage last.output last.scratch in
    let due = due-of s c.args.speed lent c.requires.ready c.requires.stretches in
    let is = answered-as s c.args.speed lent left c.from.result _ c.stretch_frames.result c.from.ensures c.samples-count.ensures c.stretch_frames.ensures in
    let none = was_none c.stretch_frames.result _ _ (sym c.ok_or.ensures.value ∙ c.in_err-made.was) in
    let p = err_from_is_err_and c.from_residual.result c.from_residual.ensures.1 in
    rw (p.1, p.2, ← none.1) (stretched-over due to.most.0 (filled_area s left) (rw none.0 at is) lent.stage, c.stretch_frames.ensures.2)

pub returns-then-to-made : goal.returns-then-to-made
returns-then-to-made c =
    let s = c.args.stream in
    let lent = areas c.args.input.now c.args.stage.now c.args.output.now c.args.scratch.now in
    let to = destination_in s lent in
    let last = c.stretch_frames.new in
    let left = areas lent.input last.stage last.output last.scratch in
    let due = due-of s c.args.speed lent c.requires.ready c.requires.stretches in
    let is = answered-as s c.args.speed lent left c.from.result _ c.stretch_frames.result c.from.ensures c.samples-count.ensures c.stretch_frames.ensures in
    let made = was_some c.stretch_frames.result _ _ (sym c.ok_or.ensures.value ∙ c.in_ok-made.was) in
    let room = ap (λ (d : Destination). d.room.0) c.destination_of-to.ensures ∙ room-is s lent in
    (stretched-full due to.most.0 (filled_area s left) _ (rw made at is) (omega (arith, c.if-to-made.true, room)) lent.stage, c.stretch_frames.ensures.2)

pub stepped-requires : goal.stepped-requires
stepped-requires c =
    let s = c.args.stream in
    let lent = areas c.args.input.now c.args.stage.now c.args.output.now c.args.scratch.now in
    let to = destination_in s lent in
    let last = c.stretch_frames.new in
    let left = areas lent.input last.stage last.output last.scratch in
    let due = due-of s c.args.speed lent c.requires.ready c.requires.stretches in
    let is = answered-as s c.args.speed lent left c.from.result _ c.stretch_frames.result c.from.ensures c.samples-count.ensures c.stretch_frames.ensures in
    let made = was_some c.stretch_frames.result _ _ (sym c.ok_or.ensures.value ∙ c.in_ok-made.was) in
    (stretched-used due to.most.0 (filled_area s left) _ (rw made at is), (call-ready due (ties_of s.ties)).few, c.requires.ready.0.period_is)

pub returns : goal.returns
returns c =
    let s = c.args.stream in
    let lent = areas c.args.input.now c.args.stage.now c.args.output.now c.args.scratch.now in
    let to = destination_in s lent in
    let last = c.stretch_frames.new in
    let left = areas lent.input last.stage last.output last.scratch in
    let due = due-of s c.args.speed lent c.requires.ready c.requires.stretches in
    let is = answered-as s c.args.speed lent left c.from.result _ c.stretch_frames.result c.from.ensures c.samples-count.ensures c.stretch_frames.ensures in
    let made = was_some c.stretch_frames.result _ _ (sym c.ok_or.ensures.value ∙ c.in_ok-made.was) in
    let room = ap (λ (d : Destination). d.room.0) c.destination_of-to.ensures ∙ room-is s lent in (
      stretched-filled due to.most.0 (filled_area s left) _ (rw made at is) c.stepped.result (omega (arith, c.if-to-made.false, room)) c.stepped.ensures lent.stage,
      c.stretch_frames.ensures.2,
    )
