-- `crossfade::crossfades::crossfade_mono` meets its contract. The loop's invariant: the samples passed stand in the area. Assumes nothing.
use mathlib.Core.Path.{◌≡◌, ◌∙◌}
use Prim.Native.Nat.{◌+◌}
use native.Mathlib.Omega.{arith}
use borrow.Author.Rules.{rules}
use lib.IntN.{pos}
use lib.ListN.{drop, get_or}
use lib.Seq.{paste}
use mir.Syntax.{w16}
use mir.Val.{SFits}
use Rattle.crossfade.specs.Crossfade.{crossfade_to, overlap_add}
use Rattle.crossfade.proofs.Crossfading.{mono_on}
use Rattle.crossfade.proofs.crossfades.crossfade_mono.Goals as goal

pub loop-t-preserved : goal.loop-t-preserved
loop-t-preserved c =
    let a = c.args in
    let x = a.fade.input.now in
    let t = c.loop-t.t in
    let down : SFits w16 (get_or x (a.fade.down.0 + t) (pos 0)) = search rules in
    let up : SFits w16 (get_or x (a.fade.up.0 + t) (pos 0)) = search rules in
    let call = c.crossfade_sample-sample in
    mono_on x a.area.now a.fade.down.0 a.fade.up.0 a.to.0 a.fade.k.of t (omega arith)
    (record { down_sample = down; up_sample = up; sample = record { sfits = call.type_inv }; value = call.ensures }) c.loop-t.invariant

pub returns : goal.returns
unfolding overlap_add
returns c =
    let l = c.loop-t in
    let a = c.args in
    let e : l.t ≡ a.fade.k.of = omega arith in
    let x = a.fade.input.now in
    l.invariant ∙ (λ j. paste a.area.now a.to.0 (crossfade_to a.fade.k.of 1 (drop a.fade.down.0 x) (drop a.fade.up.0 x) (e j)) (e j))
