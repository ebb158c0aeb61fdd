-- `sinc::hold` meets its contract. Assumes nothing.
use mathlib.Core.Path.{◌≡◌, refl, ◌∙◌}
use mathlib.Core.Bool.{true, false, cond}
use native.Mathlib.Omega.{arith}
use lib.IntN.{ℤ, pos, negsuc}
use lib.Dec.{leb→le}
use lib.Signed.{lt_z, ◌≤ℤ◌}
use mir.Syntax.{w16, w64}
use mir.Val.{SFits}
use mir.Facts.{to_z-of_z}
use Rattle.std.specs.Int.{int_max, int_min}
use Rattle.frames.specs.Clamp.{clamp_z}
use Rattle.sinc.specs.Sinc.{held_sample}
use Rattle.sinc.proofs.hold.Goals as goal

-- the library's clamp is that of the rules
clamped : (z : ℤ) → int_max (negsuc 32767) (int_min z (pos 32767)) ≡ clamp_z (negsuc 32767) (pos 32767) z
unfolding clamp_z
clamped z =
    elim (lt_z (pos 32767) z) as
    (λ b. cond (lt_z (cond b (pos 32767) z) (negsuc 32767)) (negsuc 32767) (cond b (pos 32767) z)
    ≡ cond b (pos 32767) (cond (lt_z z (negsuc 32767)) (negsuc 32767) z)) [ true ↦ refl | false ↦ refl ]

between-fits : (z : ℤ) → negsuc 32767 ≤ℤ z → z ≤ℤ pos 32767 → SFits w16 z
between-fits (pos n) low high = record { sfits = omega (arith, leb→le n 32767 high.le) }
between-fits (negsuc n) low high = record { sfits = omega (arith, leb→le n 32767 low.le) }

pub returns : goal.returns
unfolding held_sample
returns c =
    let small : SFits w16 c.clamp.result = between-fits c.clamp.result c.clamp.ensures.lower_bound c.clamp.ensures.upper_bound in
    rw (to_z-of_z {w = w64} (record { sfits = c.clamp.type_inv }), to_z-of_z small)
    (rw (to_z-of_z c.ranges.z) at c.clamp.ensures.value ∙ clamped c.args.z)
