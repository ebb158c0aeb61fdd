-- `volume::hold` meets its contract. Assumes nothing.
use Rattle.std.proofs.Common.{rules, ◌≡◌, Bool, true, false, cond, ℤ, refl, ◌∙◌, ap, to_z, of_z, w16, w32, to_z-of_z}
use Rattle.std.specs.Int.{int_min, int_max}
use lib.Signed.{lt_z}
use Rattle.frames.specs.Clamp.{clamp_z}
use Rattle.volume.specs.Volume.{lowest, highest}
use Rattle.volume.proofs.hold.Goals as goal

held : (v : ℤ) → int_max lowest (int_min v highest) ≡ clamp_z lowest highest v
unfolding clamp_z
held v = by (lt_z highest v)
  where
    by : (above : Bool) → int_max lowest (cond above highest v) ≡ cond above highest (cond (lt_z v lowest) lowest v)
    by true = refl
    by false = refl

pub returns : goal.returns
returns c =
    let r = c.clamp.result in
    let read : to_z w16 (of_z w16 (to_z w32 (of_z w32 r))) ≡ r = search (rules, to_z-of_z) in
    read ∙ c.clamp.ensures.value ∙ ap (λ (v : ℤ). int_max lowest (int_min v highest)) (to_z-of_z {w = w32} c.ranges.value) ∙ held c.args.value
