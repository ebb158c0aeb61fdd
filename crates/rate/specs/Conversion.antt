-- docs/RULES.md, "Rate": what becomes of the new frames of a call. `adjust_rate` of the original. Definitions only.
use Rattle.std.specs.Prelude.{cond, List, [], ◌∷◌, ◌++◌, ℕ, Float, drop}
use Rattle.std.specs.Float.Ieee.{eq}
use Rattle.floats.specs.Numbers.{one}
use Rattle.frames.specs.Framing.{Frame}
use Rattle.rate.specs.declared.Rates.{Rates}
use Rattle.rate.specs.declared.Position.{Position}
use Rattle.rate.specs.Halving.{rates_of}
use Rattle.rate.specs.Tail.{scan, steps, consumable}

-- the frames made, the tail that is left, the positions
pub record Conversion : Type 0 where
  pub made : List Frame
  pub rest : List Frame
  pub at : Position

-- of the tail l
unfoldable pub convert : Rates → Position → List Frame → Conversion
convert r s l = record { made = scan r (consumable l) s l; rest = drop (consumable l) l; at = steps r (consumable l) s }

-- the new frames join the tail; a call without new frames does nothing here
unfoldable pub join_tail : Rates → Position → List Frame → List Frame → Conversion
join_tail r s tail [] = record { made = []; rest = tail; at = s }
join_tail r s tail (f ∷ fs) = convert r s (tail ++ (f ∷ fs))

-- at pitch 1.0 the new frames go straight out and any tail stays; at another they join the tail
unfoldable pub adjust_rate : ℕ → Float → Position → List Frame → List Frame → Conversion
adjust_rate rate pitch s tail fs =
    cond (eq pitch one) (record { made = fs; rest = tail; at = s }) (join_tail (rates_of rate pitch) s tail fs)
