-- `fill::fill_area` meets its contract. Assumes nothing.
use mathlib.Core.Path.{◌≡◌, refl, sym, ap, ◌∙◌}
use mathlib.Core.Bool.{true}
use mathlib.Core.List.{[]}
use Prim.Native.Nat.{◌≤◌}
use native.Mathlib.Omega.{arith}
use lib.Ieee.{Float}
use Rattle.floats.specs.Write.{local_speed, speed_changes}
use Rattle.period.specs.Rates.{max_required}
use Rattle.frames.specs.Areas.{areas}
use Rattle.stream.specs.declared.SonicStream.{SonicStream}
use Rattle.stream.specs.Order.{StreamReady}
use Rattle.fill.specs.Filling.{speed_of, destination_in, filled_area, AreasFit}
use Rattle.fill.proofs.Destinations.{fits}
use Rattle.fill.proofs.Filling.{held_few, empty-filled, waiting-filled}
use Rattle.fill.proofs.fill_area.Goals as goal

-- the local speed, and the test on it, as the code finds them
speed_is : (x : SonicStream) (speed : Float) → StreamReady x → speed ≡ local_speed x.held.0 x.sample_period x.input_play_time → speed ≡ speed_of x
speed_is x speed r e = e ∙ ap (λ (p : Float). local_speed x.held.0 p x.input_play_time) r.period_is

pub returns-then-n-eq0 : goal.returns-then-n-eq0
returns-then-n-eq0 c =
    let x = c.args.stream in
    let lent = areas c.args.input.now c.args.stage.now c.args.output.now c.args.scratch.now in
    let to = destination_in x lent in
    rw c.nothing.ensures (
      empty-filled x to.kept.0 to.most.0 c.requires.0 lent.input (filled_area x lent) (fits x lent c.requires.1.fit) c.if-n-eq0.true lent.stage,
      refl,
    )

pub local_speed-speed-requires : goal.local_speed-speed-requires
local_speed-speed-requires c =
    let lent = areas c.args.input.now c.args.stage.now c.args.output.now c.args.scratch.now in
    held_few c.requires.0 (fits c.args.stream lent c.requires.1.fit)

pub returns-then-n-max_required : goal.returns-then-n-max_required
returns-then-n-max_required c =
    let x = c.args.stream in
    let lent = areas c.args.input.now c.args.stage.now c.args.output.now c.args.scratch.now in
    let to = destination_in x lent in
    let changes = c.speed_changes.ensures ∙ ap speed_changes (speed_is x c.local_speed-speed.result c.requires.0 c.local_speed-speed.ensures) in
    let far : speed_changes (speed_of x) ≡ true = sym changes ∙ c.if-speed_changes.true in
    rw c.nothing-then-n-max_required.ensures (
      waiting-filled x to.kept.0 to.most.0 c.requires.0 lent.input (filled_area x lent) (fits x lent c.requires.1.fit) (omega (arith, c.if-n-eq0.false)) far
          (omega (arith, c.if-n-max_required.true, c.max_required.ensures)) lent.stage,
      refl,
    )

pub stretch_input-requires : goal.stretch_input-requires
stretch_input-requires c =
    let x = c.args.stream in
    let long : max_required x.rate ≤ x.held.0 = omega (arith, c.if-n-max_required.false, c.max_required.ensures) in
    record {
      ready = c.requires;
      stretches = (long, speed_is x c.local_speed-speed.result c.requires.0 c.local_speed-speed.ensures, sym c.speed_changes.ensures ∙ c.if-speed_changes.true);
    }

pub copy_input-requires : goal.copy_input-requires
copy_input-requires c =
    let x = c.args.stream in
    let fit = c.requires.1.fit in
    let same : AreasFit x (areas c.args.input.now c.args.stage.now c.args.output.now []) = record {
      held = fit.held;
      tail = fit.tail;
      waiting = fit.waiting;
      input_short = fit.input_short;
      stage_short = fit.stage_short;
      output_short = fit.output_short;
    } in
    let changes = c.speed_changes.ensures ∙ ap speed_changes (speed_is x c.local_speed-speed.result c.requires.0 c.local_speed-speed.ensures) in
    record {
      ready = (c.requires.0, same);
      copies = (omega (arith, c.if-n-eq0.false), sym changes ∙ c.if-speed_changes.false);
    }
