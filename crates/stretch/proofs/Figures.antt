-- Figures of docs/RULES.md, and of C-18, that the definitions of the stretch steps give, computed. Assumes nothing.
use mathlib.Core.Path.{◌≡◌, refl}
use mathlib.Core.Bool.{true, false}
use lib.IntN.{pos, negsuc}
use lib.Ieee.{fin, of_int, to_unsigned, round, neg, sum, add, sub, mul, div, lt, le, eq}
use Rattle.floats.specs.Steps.{skip_count, insert_count}
use Rattle.stretch.specs.declared.Step.TheVariants.{Skipped, Inserted, Passed}
use Rattle.stretch.specs.Steps.{period_step, stalls}

-- period 20: s = 21 gives 1 frame, s = 22 stalls, or is passed over, s = 0.25 inserts 6
pub period-steps : (period_step (fin false 21 (pos 0)) true (record { 0 = 20 }) ≡ Skipped (record { 0 = 20 }) (record { 0 = 1 }))
    × (stalls (period_step (fin false 22 (pos 0)) false (record { 0 = 20 })) ≡ true)
    × (period_step (fin false 22 (pos 0)) true (record { 0 = 20 }) ≡ Passed (record { 0 = 20 }))
    × (period_step (fin false 1 (negsuc 1)) true (record { 0 = 20 }) ≡ Inserted (record { 0 = 20 }) (record { 0 = 6 }))
unfolding skip_count insert_count of_int to_unsigned round neg sum add sub mul div lt le eq
period-steps = (refl, refl, refl, refl)
