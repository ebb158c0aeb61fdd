-- The period used lies in the range of the rate, and so does the period of the record after the search. Assumes nothing.
use mathlib.Core.Path.{◌≡◌, refl, sym, ◌∙◌}
use mathlib.Core.Bool.{Bool, true, false, not, cond, ◌&&◌, false≢true}
use mathlib.Core.List.{List}
use mathlib.Core.Logic.{inr, ⊎_elim}
use Prim.Native.Nat.{ℕ}
use borrow.Author.Tests.{eq-eqb, not-true}
use lib.Dec.{eqb}
use lib.IntN.{ℤ}
use Rattle.search.specs.declared.Ties.{Ties}
use Rattle.search.specs.declared.Found.{Found}
use Rattle.period.specs.declared.PeriodRecord.{PeriodRecord}
use Rattle.period.specs.Rates.{InLimits}
use Rattle.period.specs.Pitch.{found, prev_period_better, chosen, find_pitch_period, InRange, PeriodIn}
use Rattle.period.proofs.Ranges.{found_in}

-- a chain of tests that came out true passed its second
second-true : (a b c : Bool) → (a && (b && c)) ≡ true → b ≡ true
second-true true true c e = refl
second-true true false c e = absurd (false≢true e)
second-true false b c e = absurd (false≢true e)

-- the previous period is used only where there is one
prev_in : {R : ℕ} (prev : PeriodRecord) (f : Found) → PeriodIn R prev → prev_period_better prev f ≡ true → InRange R prev.period
unfolding prev_period_better
prev_in prev f p e =
    let n : not (eqb prev.period 0) ≡ true = second-true (not (eqb f.min_diff 0)) _ _ e in
    ⊎_elim (λ z. absurd (false≢true (sym (not-true _ n) ∙ eq-eqb prev.period 0 z))) (λ r. r) p

used-cases : {R : ℕ} (t : Bool) (prev : PeriodRecord) (f : Found) → PeriodIn R prev → InRange R f.period → prev_period_better prev f ≡ t
    → InRange R (cond t prev.period f.period)
used-cases true prev f p i e = prev_in prev f p e
used-cases false prev f p i e = i

module _ (ties : Ties) (x : List ℤ) {R channels : ℕ} (prev : PeriodRecord) (o : InLimits R channels) (p : PeriodIn R prev) where
  pub find_pitch_period-in : InRange R (find_pitch_period ties x channels R prev).period.0
  unfolding find_pitch_period chosen
  find_pitch_period-in = used-cases (prev_period_better prev (found ties x channels R)) prev (found ties x channels R) p (found_in ties x o) refl

  pub find_pitch_period-record-in : PeriodIn R (find_pitch_period ties x channels R prev).prev
  unfolding find_pitch_period chosen
  find_pitch_period-record-in = inr (found_in ties x o)
