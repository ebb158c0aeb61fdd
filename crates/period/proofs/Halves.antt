-- The answer of the search in two halves: the candidate with the least mean, and the one with the greatest, which the choice of the previous period
-- hangs on only where its other tests pass. Sections: the period nearby, the candidate with the least mean, both halves, the answer. Assumes nothing.
use mathlib.Core.Path.{◌≡◌, refl, sym, ap, ◌∙◌, subst}
use mathlib.Core.Bool.{Bool, true, false, not, cond, ◌&&◌}
use mathlib.Core.List.{List}
use Prim.Native.Nat.{ℕ, ◌+◌, ◌*◌, ◌/◌, ◌≤◌, ◌<◌}
use native.Mathlib.Omega.{arith}
use borrow.Author.Tests.{eq-eqb, ne_eqb}
use lib.Dec.{leb, eqb}
use lib.IntN.{ℤ}
use Rattle.search.specs.declared.Ties.{Ties}
use Rattle.search.specs.declared.Found.{Found}
use Rattle.search.specs.declared.Candidate.{Candidate}
use Rattle.search.specs.declared.outward.Wanted.TheVariants.{Least, Greatest}
use Rattle.period.specs.declared.PeriodRecord.{PeriodRecord}
use Rattle.period.specs.declared.Chosen.{Chosen}
use Rattle.search.specs.Search.{found_of, find_pitch_period_in_range, widest_gap}
use Rattle.search.specs.Outward.{wanted_in}
use Rattle.period.specs.Rates.{min_period, max_period, skip, InLimits}
use Rattle.period.specs.Pitch.{coarse, fine, found, prev_period_better, chosen, find_pitch_period, InRange, PeriodIn, PrevInOrder}
use Rattle.period.specs.Searches.{first_search, second_search, last_search, nearby_of, best_of, prev_might_be_better}
use Rattle.period.proofs.Ranges.{near-high, near-low}
use Rattle.period.proofs.Record.{find_pitch_period-in, find_pitch_period-record-in}

module _ (ties : Ties) (x : List ℤ) (channels R : ℕ) where
  -- ---- the period nearby
  near-is : nearby_of ties x channels R ≡ (coarse ties x channels R).period * skip R
  unfolding nearby_of first_search wanted_in coarse find_pitch_period_in_range
  near-is = refl

  pub near-in : {near : ℕ} → InLimits R channels → near ≡ nearby_of ties x channels R → (near ≤ max_period R) × (min_period R < near + skip R)
  near-in o e = (omega (arith, near-is, near-high ties x o), omega (arith, near-is, near-low ties x o))

  -- ---- the candidate with the least mean, from whatever period it is looked for
  pub near_of : (from : ℕ) {s : ℕ} {first : Candidate} → first ≡ first_search (Least ties from) x channels R → s ≡ skip R
      → first.period * s ≡ nearby_of ties x channels R
  unfolding nearby_of first_search wanted_in
  near_of from e k = λ i. (e i).period * k i

  pub best-first : (from : ℕ) → skip R ≡ 1 → first_search (Least ties from) x channels R ≡ best_of ties x channels R
  unfolding best_of last_search first_search wanted_in
  best-first from e = rw (eq-eqb _ 1 e)

  pub best-second : (from : ℕ) {q : ℕ} → (skip R ≡ 1 → ⊥) → q ≡ nearby_of ties x channels R
      → second_search (Least ties from) x channels R q ≡ best_of ties x channels R
  unfolding best_of last_search second_search wanted_in
  best-second from n e = rw (ne_eqb _ 1 n, e)

  -- ---- both halves
  abbrev pub worst_of : Candidate
  worst_of = last_search Greatest x channels R (nearby_of ties x channels R)

  halves : (t : Bool) (q : ℕ)
      → cond t (coarse ties x channels R) (fine ties x channels R q)
      ≡ found_of (cond t (first_search (Least ties 0) x channels R) (second_search (Least ties 0) x channels R q))
      (cond t (first_search Greatest x channels R) (second_search Greatest x channels R q))
  unfolding coarse fine first_search second_search wanted_in find_pitch_period_in_range
  halves true q = refl
  halves false q = refl

  found-is : found ties x channels R ≡ found_of (best_of ties x channels R) worst_of
  unfolding found best_of last_search
  found-is =
      let t = eqb (skip R) 1 in
      ap (λ (q : ℕ). cond t (coarse ties x channels R) (fine ties x channels R q)) (sym near-is) ∙ halves t (nearby_of ties x channels R)

-- ---- the answer
third_last : (a b c d : Bool) → (a && (b && (c && d))) ≡ ((a && (b && d)) && c)
third_last true true true true = refl
third_last true true true false = refl
third_last true true false true = refl
third_last true true false false = refl
third_last true false c d = refl
third_last false b c d = refl

-- the test of the greatest mean may come last
better-is : (prev : PeriodRecord) (f : Found)
    → prev_period_better prev f ≡ (prev_might_be_better prev f.min_diff && leb f.max_diff (f.min_diff * 3))
unfolding prev_period_better prev_might_be_better
better-is prev f = third_last (not (eqb f.min_diff 0)) (not (eqb prev.period 0)) _ _

-- m is the least mean, v the greatest
abbrev pub answer : Bool → PeriodRecord → Candidate → ℕ → Chosen
answer t prev b m =
    record {
      period = record { 0 = cond t prev.period b.period };
      prev = record { period = b.period; min_diff = m };
      sum = b.diff;
    }

module _ (ties : Ties) (x : List ℤ) (prev : PeriodRecord) {channels R : ℕ} (o : InLimits R channels) (p : PeriodIn R prev) {b w : Candidate} {m v : ℕ}
    (best-is : b ≡ best_of ties x channels R) (m-is : b.diff / b.period ≡ m) (small : m ≤ widest_gap) (worst-is : w ≡ worst_of ties x channels R)
    (v-is : w.diff / w.period ≡ v) (t : Bool) (test : (prev_might_be_better prev m && leb v (m * 3)) ≡ t) where
  answer_is : answer t prev b m ≡ find_pitch_period ties x channels R prev
  unfolding find_pitch_period chosen
  answer_is =
      let f : found ties x channels R ≡ found_of b w = found-is ties x channels R ∙ (λ i. found_of (sym best-is i) (sym worst-is i)) in
      rw (f, better-is prev (found_of b w), m-is, v-is, test)

  pub answered : (answer t prev b m ≡ find_pitch_period ties x channels R prev) × InRange R (answer t prev b m).period.0
      × PrevInOrder R (answer t prev b m).prev
  answered =
      let r : PeriodIn R (answer t prev b m).prev =
      subst (λ (a : Chosen). PeriodIn R a.prev) (sym answer_is) (find_pitch_period-record-in ties x prev o p) in (
        answer_is,
        subst (λ (a : Chosen). InRange R a.period.0) (sym answer_is) (find_pitch_period-in ties x prev o p),
        record { period_in = r; min_diff_in = small },
      )
