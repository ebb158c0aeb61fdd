-- `rate::scan::make_frame` meets its contract: by the coefficients kept for the phase, or by those of its ratio. Assumes nothing.
use mathlib.Core.Path.{◌≡◌, sym, ap, ◌∙◌}
use mathlib.Core.List.{List}
use Prim.Native.Nat.{ℕ, ◌+◌, ◌-◌, ◌*◌, ◌≤◌, ◌<◌}
use native.Mathlib.Nat.{mul-le-mul_left, mul-le-mul_right}
use native.Mathlib.Omega.{arith}
use lib.IntN.{ℤ}
use lib.ListN.{length, drop, length-drop}
use lib.Seq.{paste}
use Rattle.std.proofs.lemmas.List.{take_rest}
use Rattle.frames.specs.Framing.{frames_of}
use Rattle.sinc.specs.Sinc.{sinc_filter_points, interpolate_frame}
use Rattle.sinc.specs.Weights.{weighted_frame, CoefficientsOf}
use Rattle.sinc.proofs.Weights.{weights-small, weighted_frame-is}
use Rattle.rate.specs.declared.phases.Cycle.{Cycle}
use Rattle.rate.specs.Tail.{interpolate_window}
use Rattle.rate.specs.Phases.{PhaseReady}
use Rattle.rate.proofs.Window.{interpolate_window-is}
use Rattle.rate.proofs.scan.make_frame.Goals as goal

-- the ratio of a phase
module _ (c : Cycle) (k : ℕ) (r : PhaseReady c k) where
  abbrev ratio : ℕ
  ratio = c.step * (k + 1) - 1

  abbrev width : ℕ
  width = c.step * c.new

  ratio-lt : ratio < width
  ratio-lt =
      let below : k + 1 ≤ c.new = omega (arith, r.below) in
      let some : 1 ≤ c.step * (k + 1) = omega (arith, mul-le-mul_right (k + 1) r.some) in
      omega (arith, mul-le-mul_left c.step below)

  -- the frame at the ratio, of the samples from the first tail frame on, in its place
  module _ (ch first : ℕ) (stage : List ℤ) (holds : (first + sinc_filter_points) * ch ≤ length stage) (output : List ℤ) (to : ℕ) where
    abbrev samples : List ℤ
    samples = drop (first * ch) stage

    abbrev placed : List ℤ → List ℤ
    placed f = paste output to f ch

    frame_is : interpolate_frame samples ch ratio width ≡ interpolate_window (frames_of ch sinc_filter_points samples) ratio width
    frame_is =
        let long : ch ≤ length samples = omega (arith, length-drop (first * ch) stage, holds) in
        sym (interpolate_window-is ch ratio width samples long)

    -- by kept weights
    kept-is : (weights : List ℤ) → CoefficientsOf ratio width weights
        → placed (weighted_frame samples ch weights) ≡ placed (interpolate_window (frames_of ch sinc_filter_points samples) ratio width)
    kept-is weights h = ap placed (weighted_frame-is h samples ch ∙ frame_is)

    -- by those of the ratio, which is the phase
    computed-is : c.step ≡ 1
        → placed (interpolate_frame samples ch k c.new) ≡ placed (interpolate_window (frames_of ch sinc_filter_points samples) ratio width)
    computed-is one =
        let same : k ≡ ratio = rw one (omega arith) in
        let wide : c.new ≡ width = rw one (omega arith) in
        ap placed ((λ i. interpolate_frame samples ch (same i) (wide i)) ∙ frame_is)

pub weighted_frame-requires-clause-small : goal.weighted_frame-requires-clause-small
weighted_frame-requires-clause-small c =
    let s = rw c.in-Kept.is at c.requires.phase_ready.0 in
    let r = c.requires.phase_ready.1 in
    rw take_rest (weights-small (s.1 c.args.phase r.below) (ratio-lt c.args.cycle c.args.phase r))

pub returns-in-Kept : goal.returns-in-Kept
returns-in-Kept c =
    let a = c.args in
    let s = rw c.in-Kept.is at c.requires.phase_ready.0 in
    let r = c.requires.phase_ready.1 in
    rw (take_rest, c.samples-from.ensures, c.samples-place.ensures) at c.weighted_frame.ensures
    ∙ kept-is a.cycle a.phase r a.channels a.first.0 a.stage.now c.requires.channels_in_bounds.0 a.output.now (a.to.0 * a.channels) _ (s.1 a.phase r.below)

pub returns-in-Computed : goal.returns-in-Computed
returns-in-Computed c =
    let a = c.args in
    let s = rw c.in-Computed.is at c.requires.phase_ready.0 in
    let r = c.requires.phase_ready.1 in
    rw (c.samples-from.ensures, c.samples-place.ensures, s.1) at c.ratio_frame.ensures
    ∙ computed-is a.cycle a.phase r a.channels a.first.0 a.stage.now c.requires.channels_in_bounds.0 a.output.now (a.to.0 * a.channels) s.0
