-- docs/RULES.md, "Period search" and "Ties to the longer period": `find_pitch_period_in_range`. For period q the sum
-- D(q) of |x[i] − x[i+q]|, i < q. Answer: the smallest or, by choice, the largest q with least D(q)/q, the whole parts
-- of the least and the greatest D(q)/q, and D(q). `proofs/SearchRule.antt` shows that the definition says this of every
-- q of the range. Definitions only. Assumes nothing.
use Rattle.std.specs.Prelude.{ℕ, zero, suc, ◌+◌, ◌-◌, ◌*◌, ◌/◌, ◌≤◌, Bool, cond, List, ltb, leb}
use Rattle.std.specs.Prelude.{ℤ, pos, ◌-ℤ◌, nat_abs, get_or}
use Rattle.search.specs.declared.Ties.{Ties}
use Rattle.search.specs.declared.Ties.TheVariants.{Smallest, Largest}
use Rattle.search.specs.declared.Found.{Found}

-- a period, and a sum of its differences: a `Candidate` of the search is one that is `Bounded`
pub record PeriodSum : Type 0 where
  pub period : ℕ
  pub diff : ℕ

-- the first n terms of D(q)
unfoldable pub diffs : List ℤ → ℕ → ℕ → ℕ
diffs x q zero = 0
diffs x q (suc n) = diffs x q n + nat_abs (get_or x n (pos 0) -ℤ get_or x (n + q) (pos 0))

-- D(q)
abbrev pub D : List ℤ → ℕ → ℕ
D x q = diffs x q q

-- a period with its D(q)
abbrev pub candidate : List ℤ → ℕ → PeriodSum
candidate x q = record { period = q; diff = D x q }

-- whether a new candidate goes before an old one of a smaller period: by a smaller D(q)/q; at a tie if the largest
-- period is to be found (C-17)
unfoldable pub better : Ties → PeriodSum → PeriodSum → Bool
better Smallest old new = ltb (new.diff * old.period) (old.diff * new.period)
better Largest old new = leb (new.diff * old.period) (old.diff * new.period)

-- of two candidates the one that goes before the other
abbrev pub lesser : Ties → PeriodSum → PeriodSum → PeriodSum
lesser ties old new = cond (better ties old new) new old

-- of two candidates the one with the greater D(q)/q; at a tie the old one
unfoldable pub greater : PeriodSum → PeriodSum → PeriodSum
greater old new = cond (ltb (old.diff * new.period) (new.diff * old.period)) new old

-- the candidate that stays when `pick` goes through the periods low, low + 1, .., low + n
unfoldable pub sweep : (PeriodSum → PeriodSum → PeriodSum) → List ℤ → ℕ → ℕ → PeriodSum
sweep pick x low zero = candidate x low
sweep pick x low (suc n) = pick (sweep pick x low n) (candidate x (low + suc n))

-- the candidates of low..=high with the least and with the greatest D(q)/q
abbrev pub best : Ties → List ℤ → ℕ → ℕ → PeriodSum
best ties x low high = sweep (lesser ties) x low (high - low)

abbrev pub worst : List ℤ → ℕ → ℕ → PeriodSum
worst x low high = sweep greater x low (high - low)

-- the answer for the two
abbrev pub found_of : PeriodSum → PeriodSum → Found
found_of b w =
    record {
      period = b.period;
      min_diff = b.diff / b.period;
      max_diff = w.diff / w.period;
      sum = b.diff;
    }

-- the search over low..=high
unfoldable pub find_pitch_period_in_range : Ties → List ℤ → ℕ → ℕ → Found
find_pitch_period_in_range ties x low high = found_of (best ties x low high) (worst x low high)

-- the longest period of any rate, in frames: 500,000 Hz over 65 Hz
abbrev pub longest_period : ℕ
longest_period = 7692

-- the largest difference of two samples
abbrev pub widest_gap : ℕ
widest_gap = 65535

-- what a search over n values is handed: a range of periods that the values are enough for
pub record Searchable (n low high : ℕ) : Type 0 where
  pub some : 1 ≤ low
  pub order : low ≤ high
  pub short : high ≤ longest_period
  pub enough : 2 * high ≤ n

-- what is true of every candidate of a search: each of its q differences is at most the widest
pub record Bounded (c : PeriodSum) : Type 0 where
  pub some : 1 ≤ c.period
  pub short : c.period ≤ longest_period
  pub each : c.diff ≤ widest_gap * c.period
