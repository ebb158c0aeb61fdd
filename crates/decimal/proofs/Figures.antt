-- Texts and what they give, over the definitions of `specs/`. One table; each row computes. No proof cites this file. Assumes nothing.
use Rattle.std.proofs.Common.{◌≡◌, [], ◌∷◌, None, Some, refl}
use lib.Ieee.{of_int, div, round, of_bits}
use Rattle.floats.specs.Numbers.{half, narrow}
use Rattle.floats.specs.Settings.{min_pitch, max_pitch, min_volume, max_volume}
use Rattle.decimal.specs.Decimal.{digits_from, whole_of, places_from, decimal_of, quotient, value_of}

pub table : (decimal_of (49 ∷ 46 ∷ 50 ∷ 53 ∷ []) ≡ Some (record { digits = 125; places = 2 }))  -- 1.25
    × (value_of (48 ∷ 46 ∷ 53 ∷ []) ≡ Some half)  -- 0.5
    × (value_of (48 ∷ 46 ∷ 48 ∷ 53 ∷ []) ≡ Some min_pitch)  -- the ends of the settings' ranges: 0.05, 20, 0.01, 100
    × (value_of (50 ∷ 48 ∷ []) ≡ Some max_pitch)
    × (value_of (48 ∷ 46 ∷ 48 ∷ 49 ∷ []) ≡ Some min_volume)
    × (value_of (49 ∷ 48 ∷ 48 ∷ []) ≡ Some max_volume)
    × (decimal_of [] ≡ None)  -- nothing, .5, 1. and 1.2.3
    × (decimal_of (46 ∷ 53 ∷ []) ≡ None)
    × (decimal_of (49 ∷ 46 ∷ []) ≡ None)
    × (decimal_of (49 ∷ 46 ∷ 50 ∷ 46 ∷ 51 ∷ []) ≡ None)
unfolding value_of decimal_of whole_of places_from digits_from quotient narrow of_int div round of_bits
table = (refl, refl, refl, refl, refl, refl, refl, refl, refl, refl)
