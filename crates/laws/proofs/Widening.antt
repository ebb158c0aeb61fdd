-- A signed number as a register holds it, read back; and one that is cast to a wider type: it fits there, and reads back as it was.
-- Assumes nothing.
use mathlib.Core.Path.{◌≡◌}
use lib.Dec.{T, leb}
use lib.IntN.{ℤ}
use mir.Syntax.{Width, w16, w32, w64}
use mir.Val.{SFits, hbits, to_z, of_z}
use mir.Facts.{to_z-of_z, sfits_widen}

-- z in an i16, in an i32, in an i64, read back
abbrev pub i16 : ℤ → ℤ
i16 z = to_z w16 (of_z w16 z)

abbrev pub i32 : ℤ → ℤ
i32 z = to_z w32 (of_z w32 z)

abbrev pub i64 : ℤ → ℤ
i64 z = to_z w64 (of_z w64 z)

pub widened-fits : {w w' : Width} {z : ℤ} → T (leb (hbits w) (hbits w')) → SFits w z → SFits w' (to_z w (of_z w z))
widened-fits t h = rw (to_z-of_z h) (sfits_widen t h)

pub widened-reads : {w : Width} (w' : Width) {z : ℤ} → T (leb (hbits w) (hbits w')) → SFits w z → to_z w' (of_z w' (to_z w (of_z w z))) ≡ z
widened-reads w' t h = rw (to_z-of_z h, to_z-of_z (sfits_widen t h))
