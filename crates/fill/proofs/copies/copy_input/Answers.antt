-- `fill::copies::copy_input` meets its contract: the counts of the destination, the goals that it answers. Assumes nothing.
use mathlib.Core.Path.{refl, ap}
use mathlib.Core.List.{[]}
use native.Mathlib.Nat.{le_refl}
use native.Mathlib.Omega.{arith}
use lib.ListN.{length}
use Rattle.frames.specs.Areas.{areas}
use Rattle.frames.proofs.Room.{frames-le, room-over, room-under}
use Rattle.fill.specs.declared.destination.Destination.{Destination}
use Rattle.fill.specs.Filling.{destination_in, filled_area}
use Rattle.fill.proofs.Filling.{ready-limits, held_few, copied-over, copied-full, copied-filled}
use Rattle.fill.proofs.Destinations.{room-is, fits}
use Rattle.fill.proofs.copies.copy_input.Goals as goal

pub destination_of-to-requires : goal.destination_of-to-requires
destination_of-to-requires c =
    let x = c.args.stream in
    let some = (ready-limits c.requires.ready.0).channels_low in
    let fit = c.requires.ready.1 in
    (some, frames-le x.channels x.tail.0 _ some fit.tail, frames-le x.channels x.waiting.0 _ some fit.waiting)

pub returns-then-to-held : goal.returns-then-to-held
returns-then-to-held c =
    let x = c.args.stream in
    let lent = areas c.args.input.now c.args.stage.now c.args.output.now [] in
    let to = destination_in x lent in
    let r = c.requires in
    let most = ap (λ (d : Destination). d.most.0) c.destination_of-to.ensures in (
      copied-over x to.kept.0 to.most.0 r.ready.0 lent.input (filled_area x lent) (fits x lent r.ready.1) r.copies.0 r.copies.1
          (omega (arith, c.if-to-held.true, most)) lent.stage,
      refl,
    )

pub returns-then-to-held-2 : goal.returns-then-to-held-2
returns-then-to-held-2 c =
    let x = c.args.stream in
    let lent = areas c.args.input.now c.args.stage.now c.args.output.now [] in
    let to = destination_in x lent in
    let r = c.requires in
    let most = ap (λ (d : Destination). d.most.0) c.destination_of-to.ensures in
    let room = ap (λ (d : Destination). d.room.0) c.destination_of-to.ensures in
    let over = room-over x.channels to.kept.0 x.held.0 (length (filled_area x lent)) (ready-limits r.ready.0).channels_low
    (omega (arith, c.if-to-held-2.true, room, room-is x lent)) in (
      copied-full x to.kept.0 to.most.0 r.ready.0 lent.input (filled_area x lent) (fits x lent r.ready.1) r.copies.0 r.copies.1
          (omega (arith, c.if-to-held.false, most)) over lent.stage,
      refl,
    )

pub copy_frames-requires : goal.copy_frames-requires
copy_frames-requires c =
    let x = c.args.stream in
    let lent = areas c.args.input.now c.args.stage.now c.args.output.now [] in
    let to = destination_in x lent in
    let r = c.requires.ready in
    let room = ap (λ (d : Destination). d.room.0) c.destination_of-to.ensures in
    let kept = ap (λ (d : Destination). d.kept.0) c.destination_of-to.ensures in
    let enough = room-under x.channels to.kept.0 x.held.0 (length (filled_area x lent)) (ready-limits r.0).channels_low (fits x lent r.1).kept_fit
    (omega (arith, c.if-to-held-2.false, room, room-is x lent)) in
    (r.1, kept, rw kept enough)

pub removed-requires : goal.removed-requires
removed-requires c =
    let x = c.args.stream in
    let lent = areas c.args.input.now c.args.stage.now c.args.output.now [] in
    let r = c.requires.ready in
    (le_refl x.held.0, held_few r.0 (fits x lent r.1), r.0.period_is)

pub returns : goal.returns
returns c =
    let x = c.args.stream in
    let lent = areas c.args.input.now c.args.stage.now c.args.output.now [] in
    let to = destination_in x lent in
    let r = c.requires in
    let fit = fits x lent r.ready.1 in
    let most = ap (λ (d : Destination). d.most.0) c.destination_of-to.ensures in
    let room = ap (λ (d : Destination). d.room.0) c.destination_of-to.ensures in
    let enough = room-under x.channels to.kept.0 x.held.0 (length (filled_area x lent)) (ready-limits r.ready.0).channels_low fit.kept_fit
    (omega (arith, c.if-to-held-2.false, room, room-is x lent)) in
    let last = c.copy_frames.new in
    let after = areas lent.input last.stage last.output [] in (
      rw c.nothing.ensures (copied-filled x to.kept.0 to.most.0 r.ready.0 lent.input (filled_area x lent) fit r.copies.0 r.copies.1
          (omega (arith, c.if-to-held.false, most)) (filled_area x after) c.removed.result enough c.copy_frames.ensures.0 c.removed.ensures lent.stage),
      c.copy_frames.ensures.1,
    )
