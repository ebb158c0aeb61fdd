-- `crossfade::crossfades::crossfade_frames` meets its contract. The loop's invariant: the frames passed stand in the area. Assumes nothing.
use mathlib.Core.Path.{◌≡◌, refl, ap, ◌∙◌}
use Prim.Native.Nat.{ℕ, ◌+◌, ◌*◌, ◌≤◌}
use native.Mathlib.Nat.{mul-le-mul_right}
use native.Mathlib.Omega.{arith}
use lib.ListN.{drop}
use lib.Seq.{paste}
use Rattle.crossfade.specs.Crossfade.{crossfade_to}
use Rattle.crossfade.proofs.Crossfading.{crossfade-on, crossfade-all}
use Rattle.crossfade.proofs.crossfades.crossfade_frames.Goals as goal

pub loop-t-preserved : goal.loop-t-preserved
loop-t-preserved c =
    let a = c.args in
    let x = a.fade.input.now in
    let t = c.loop-t.t in
    let past : ℕ = t * a.fade.channels in
    let more : (t + 1) * a.fade.channels ≤ a.fade.k.of * a.fade.channels = mul-le-mul_right a.fade.channels (omega arith) in
    let next : past + a.fade.channels ≡ (t + 1) * a.fade.channels = omega arith in
    crossfade-on x a.area.now a.fade.down.0 a.fade.up.0 a.to.0 a.fade.k.of a.fade.channels t past refl (omega (arith, more, c.requires)) c.loop-t.invariant
    c.crossfade_frame.ensures
    ∙ ap (paste a.area.now a.to.0 (crossfade_to a.fade.k.of a.fade.channels (drop a.fade.down.0 x) (drop a.fade.up.0 x) (t + 1))) next

pub returns : goal.returns
returns c =
    let a = c.args in
    crossfade-all a.fade.input.now a.area.now a.fade.down.0 a.fade.up.0 a.to.0 a.fade.k.of a.fade.channels refl (omega arith) c.loop-t.invariant
