-- `volume::scale_samples` meets its contract. Assumes nothing.
use mathlib.Core.Path.{◌≡◌, sym, ap, ◌∙◌}
use mathlib.Core.Bool.{true, false}
use mathlib.Core.List.{List, map}
use Prim.Native.Nat.{ℕ, ◌+◌, ◌<◌}
use native.Mathlib.Omega.{arith}
use lib.Ieee.{Float, eq, of_bits}
use lib.IntN.{ℤ, pos}
use lib.ListN.{length, drop, get_or, set}
use lib.Seq.{paste}
use mir.Syntax.{w16, w32}
use mir.Val.{to_z, of_z}
use Rattle.std.proofs.Common.{rules, to_z-of_z}
use Rattle.floats.specs.Numbers.{one}
use Rattle.floats.specs.Scales.{gain}
use Rattle.volume.specs.Volume.{amplified, scaled}
use Rattle.volume.proofs.Scaling.{unscaled-is, scaled-turn, paste-same, paste-cong}
use Rattle.volume.proofs.scale_samples.Goals as goal

-- at volume 1.0 a sample is as it is, else amplified by the volume's gain
scaled-one : (v : Float) (x : ℤ) → eq v one ≡ true → scaled v x ≡ x
unfolding scaled
scaled-one v x e = rw e

scaled-gain : (v : Float) (x : ℤ) → eq v one ≡ false → scaled v x ≡ amplified (pos (gain v)) x
unfolding scaled
scaled-gain v x e = rw e

pub returns-then-volume : goal.returns-then-volume
unfolding of_bits
returns-then-volume c =
    let a = c.args in
    sym (paste-same (scaled a.volume) a.area.now a.at.0 a.count.0 (λ x. scaled-one a.volume x c.if-volume.true))

pub loop-i-preserved : goal.loop-i-preserved
loop-i-preserved c =
    let l = c.loop-i in
    let a = c.args in
    let z : ℤ = to_z w32 (of_z w32 c.fixed_point-gain.result) in
    let d : List ℤ = a.area.now in
    let k : ℕ = a.at.0 + l.i in
    let h : k < length d = omega arith in
    let x : ℤ = get_or l.area k (pos 0) in
    let same : x ≡ get_or d k (pos 0) = ap (λ (r : List ℤ). get_or r k (pos 0)) l.invariant ∙ unscaled-is (amplified z) (pos 0) d a.at.0 l.i h in
    let read : to_z w16 (of_z w16 x) ≡ x = search (rules, to_z-of_z) in
    let made = to_z-of_z {w = w16} {z = c.amplify.result} (record { sfits = c.amplify.type_inv }) ∙ c.amplify.ensures ∙ ap (amplified z) (read ∙ same) in
    (λ i. set (l.invariant i) k (made i)) ∙ scaled-turn (amplified z) (pos 0) d a.at.0 l.i h

pub returns : goal.returns
unfolding of_bits
returns c =
    let l = c.loop-i in
    let a = c.args in
    let z : ℤ = to_z w32 (of_z w32 c.fixed_point-gain.result) in
    let gain-is : z ≡ pos (gain a.volume) =
    to_z-of_z {w = w32} {z = c.fixed_point-gain.result} (record { sfits = c.fixed_point-gain.type_inv }) ∙ c.fixed_point-gain.ensures.value in
    let e : l.i ≡ a.count.0 = omega arith in
    let same : (x : ℤ) → amplified z x ≡ scaled a.volume x =
    λ x. ap (λ (g : ℤ). amplified g x) gain-is ∙ sym (scaled-gain a.volume x c.if-volume.false) in
    l.invariant ∙ ap (paste a.area.now a.at.0 (map (amplified z) (drop a.at.0 a.area.now))) e
    ∙ paste-cong (amplified z) a.area.now a.at.0 a.count.0 (scaled a.volume) same
