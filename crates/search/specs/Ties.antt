-- docs/RULES.md, "Ties to the longer period": the choice between several periods with the same mean, as a number.
-- Definitions only. Assumes nothing.
use Rattle.std.specs.Prelude.{ℕ, cond, ltb}
use Rattle.search.specs.declared.Ties.{Ties}
use Rattle.search.specs.declared.Ties.TheVariants.{Smallest, Largest}

-- 0 says the smallest, any other number the largest
abbrev pub ties_of : ℕ → Ties
ties_of number = cond (ltb 0 number) Largest Smallest

abbrev pub ties_number : Ties → ℕ
ties_number Smallest = 0
ties_number Largest = 1

-- the other choice
abbrev pub other : Ties → Ties
other Smallest = Largest
other Largest = Smallest
