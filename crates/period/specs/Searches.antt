-- The searches of `find_pitch_period` for one candidate each (specs/Pitch.antt has them with both means), and the tests
-- of the previous period that need no greatest mean. Definitions only. Assumes nothing.
use Rattle.std.specs.Prelude.{ℕ, ◌+◌, ◌-◌, ◌*◌, ◌/◌, min, max, Bool, not, cond, ◌&&◌, List, ltb, eqb, ℤ}
use Rattle.search.specs.declared.Ties.{Ties}
use Rattle.search.specs.declared.Candidate.{Candidate}
use Rattle.search.specs.declared.outward.Wanted.{Wanted}
use Rattle.search.specs.declared.outward.Wanted.TheVariants.{Least}
use Rattle.search.specs.Outward.{wanted_in}
use Rattle.period.specs.declared.PeriodRecord.{PeriodRecord}
use Rattle.period.specs.Rates.{min_period, max_period, max_required, skip}
use Rattle.period.specs.Pitch.{values_of}

-- the first search, with the values and the range of `coarse`
unfoldable pub first_search : Wanted → List ℤ → ℕ → ℕ → Candidate
first_search wanted x channels R =
    wanted_in wanted (values_of x (max_required R / skip R) (skip R * channels)) (min_period R / skip R)
    (max_period R / skip R)

-- the second search, with the values and the range of `fine`
unfoldable pub second_search : Wanted → List ℤ → ℕ → ℕ → ℕ → Candidate
second_search wanted x channels R q =
    wanted_in wanted (values_of x (max_required R) channels) (max (q - 4 * skip R) (min_period R))
    (min (q + 4 * skip R) (max_period R))

-- the last search: with skip above 1 the second, near q
unfoldable pub last_search : Wanted → List ℤ → ℕ → ℕ → ℕ → Candidate
last_search wanted x channels R q =
    cond (eqb (skip R) 1) (first_search wanted x channels R) (second_search wanted x channels R q)

-- the period near which the second search looks, and the candidate with the least mean of the last search, from
-- whatever period it is looked for
unfoldable pub nearby_of : Ties → List ℤ → ℕ → ℕ → ℕ
nearby_of ties x channels R = (first_search (Least ties 0) x channels R).period * skip R

unfoldable pub best_of : Ties → List ℤ → ℕ → ℕ → Candidate
best_of ties x channels R = last_search (Least ties 0) x channels R (nearby_of ties x channels R)

-- `prev_period_better` but for its test of the greatest mean
unfoldable pub prev_might_be_better : PeriodRecord → ℕ → Bool
prev_might_be_better prev m =
    not (eqb m 0) && (not (eqb prev.period 0) && ltb (prev.min_diff * 3) (m * 2))
