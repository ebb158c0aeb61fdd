-- docs/RULES.md, "Period search": `find_pitch_period`, on the samples from the position on: which are searched, when
-- the previous period is used, and the record; both searches go by the choice of ties, and the sum of differences of
-- the period found is passed on (C-17). Definitions only. Assumes nothing.
use Rattle.std.specs.Prelude.{ℕ, ◌+◌, ◌-◌, ◌*◌, ◌/◌, ◌≤◌, min, max, Bool, not, cond, ◌&&◌, ◌≡◌, ◌⊎◌, List, leb, ltb}
use Rattle.std.specs.Prelude.{eqb, ℤ}
use Rattle.search.specs.declared.Ties.{Ties}
use Rattle.search.specs.declared.Found.{Found}
use Rattle.period.specs.declared.PeriodRecord.{PeriodRecord}
use Rattle.period.specs.declared.Chosen.{Chosen}
use Rattle.period.specs.Rates.{min_period, max_period, max_required, skip}
use Rattle.search.specs.Search.{find_pitch_period_in_range, widest_gap}
use Rattle.averages.specs.Averages.{down_sample_input}

-- what is searched where `per` samples make one value: the samples themselves (mono with skip 1), otherwise n averages
unfoldable pub values_of : List ℤ → ℕ → ℕ → List ℤ
values_of x n per = cond (eqb per 1) x (down_sample_input x n per)

-- the first search, over min/skip..=max/skip, of averages of skip frames each
unfoldable pub coarse : Ties → List ℤ → ℕ → ℕ → Found
coarse ties x channels R =
    find_pitch_period_in_range ties (values_of x (max_required R / skip R) (skip R * channels)) (min_period R / skip R)
    (max_period R / skip R)

-- the second search, at full rate within 4·skip of q, inside the range (several channels averaged)
unfoldable pub fine : Ties → List ℤ → ℕ → ℕ → ℕ → Found
fine ties x channels R q =
    find_pitch_period_in_range ties (values_of x (max_required R) channels) (max (q - 4 * skip R) (min_period R))
    (min (q + 4 * skip R) (max_period R))

-- with skip above 1 the answer is that of the second search
unfoldable pub found : Ties → List ℤ → ℕ → ℕ → Found
found ties x channels R =
    let first : Found = coarse ties x channels R in
    cond (eqb (skip R) 1) first (fine ties x channels R (first.period * skip R))

-- `prev_period_better`: the previous period and the new least mean are nonzero, greatest ≤ 3·least and 2·least >
-- 3·previous least
unfoldable pub prev_period_better : PeriodRecord → Found → Bool
prev_period_better prev f =
    not (eqb f.min_diff 0)
    && (not (eqb prev.period 0) && (leb f.max_diff (f.min_diff * 3)
    && ltb (prev.min_diff * 3) (f.min_diff * 2)))

-- the period used, and the record: it takes the period found, even when the previous one was used, and the new least
-- mean; the sum too is that of the period found
unfoldable pub chosen : PeriodRecord → Found → Chosen
chosen prev f =
    record {
      period = record { 0 = cond (prev_period_better prev f) prev.period f.period };
      prev = record { period = f.period; min_diff = f.min_diff };
      sum = f.sum;
    }

unfoldable pub find_pitch_period : Ties → List ℤ → ℕ → ℕ → PeriodRecord → Chosen
find_pitch_period ties x channels R prev = chosen prev (found ties x channels R)

-- a period in the range of the rate
pub record InRange (R q : ℕ) : Type 0 where
  pub low : min_period R ≤ q
  pub high : q ≤ max_period R

-- a record without a period, or with one in the range
abbrev pub PeriodIn : ℕ → PeriodRecord → Type 0
PeriodIn R prev = (prev.period ≡ 0) ⊎ InRange R prev.period

-- the record is in order: its period, and a mean of 16-bit differences
pub record PrevInOrder (R : ℕ) (prev : PeriodRecord) : Type 0 where
  pub period_in : PeriodIn R prev
  pub min_diff_in : prev.min_diff ≤ widest_gap
