-- `crossfade::crossfades::crossfade_frame` meets its contract. The loop's invariant: the samples passed stand in the area. Assumes nothing.
use Prim.Native.Nat.{ℕ, ◌+◌, ◌*◌}
use native.Mathlib.Omega.{arith}
use borrow.Author.Rules.{rules}
use lib.IntN.{pos}
use lib.ListN.{get_or}
use mir.Syntax.{w16}
use mir.Val.{SFits}
use Rattle.crossfade.proofs.Crossfading.{frame_on}
use Rattle.crossfade.proofs.crossfades.crossfade_frame.Goals as goal

pub loop-i-preserved : goal.loop-i-preserved
loop-i-preserved c =
    let a = c.args in
    let x = a.fade.input.now in
    let i = c.loop-i.i in
    let from : ℕ = a.fade.down.0 + a.t * a.fade.channels in
    let into : ℕ = a.fade.up.0 + a.t * a.fade.channels in
    let down : SFits w16 (get_or x (from + i) (pos 0)) = search rules in
    let up : SFits w16 (get_or x (into + i) (pos 0)) = search rules in
    let call = c.crossfade_sample-sample in
    frame_on x a.area.now from into a.to.0 a.fade.k.of a.t i (omega arith)
    (record { down_sample = down; up_sample = up; sample = record { sfits = call.type_inv }; value = call.ensures }) c.loop-i.invariant
