-- Ranges that follow from the rate: what the two searches are handed, and where the period lies that they find. Assumes nothing.
use mathlib.Core.Path.{◌≡◌, refl, ap, ◌∙◌}
use mathlib.Core.Bool.{Bool, true, false, cond}
use mathlib.Core.List.{List}
use Prim.Native.Nat.{ℕ, ◌+◌, ◌-◌, ◌*◌, ◌/◌, ◌≤◌, ◌<◌, min, max}
use native.Mathlib.Nat.{le_trans, div-one, div-le_self, div-mul-le_self, le-div_iff_mul-le, lt-div-mul-add, mul-le-mul, mul-le-mul_right, mul_assoc}
use native.Mathlib.Omega.{arith}
use borrow.Author.Tests.{ltb-true, eqb-true}
use lib.Dec.{ltb, eqb}
use lib.IntN.{ℤ}
use Rattle.period.specs.Rates.{min_period, max_period, max_required, amdf_freq, skip, InLimits}
use Rattle.search.specs.declared.Ties.{Ties}
use Rattle.search.specs.Search.{Searchable}
use Rattle.averages.specs.Averages.{Averageable}
use Rattle.period.specs.Pitch.{values_of, coarse, fine, found, InRange}
use Rattle.search.proofs.SearchRule.{search-rule}

-- ---- the skip of a rate
pub record Skip (R s : ℕ) : Type 0 where
  pub some : 1 ≤ s
  pub few : s ≤ 125
  pub lowest : s ≤ min_period R

skip-cases : (t : Bool) (R : ℕ) → ltb amdf_freq R ≡ t → 1000 ≤ R → R ≤ 500000 → Skip R (cond t (R / amdf_freq) 1)
skip-cases true R e l h =
    let g : amdf_freq < R = ltb-true amdf_freq R e in
    record { some = omega arith; few = omega arith; lowest = omega arith }
skip-cases false R e l h = record { some = omega arith; few = omega arith; lowest = omega arith }

pub skip-in : {R channels s : ℕ} → InLimits R channels → s ≡ skip R → Skip R s
unfolding skip
skip-in {R} o e = rw e (skip-cases (ltb amdf_freq R) R refl o.rate_low o.rate_high)

-- ---- division by the skip
div_mono : (a b s : ℕ) → 1 ≤ s → a ≤ b → a / s ≤ b / s
div_mono a b s h k = (le-div_iff_mul-le h).1 (le_trans (div-mul-le_self a s) k)

div-twice : (a s : ℕ) → 1 ≤ s → 2 * (a / s) ≤ 2 * a / s
div-twice a s h = (le-div_iff_mul-le h).1 (omega (arith, div-mul-le_self a s))

-- ---- what the searches are handed, in the code's numbers: s is the skip, low and high the range, n the frames required
module _ {R channels s low high n : ℕ} (o : InLimits R channels) (s-is : s ≡ skip R) (low-is : low ≡ min_period R) (high_is : high ≡ max_period R)
    (n-is : n ≡ max_required R) where
  pub coarse-searchable : Searchable (n / s) (low / s) (high / s)
  coarse-searchable =
      let k = skip-in o refl in
      rw (s-is, low-is, high_is, n-is)
      (record {
        some = (le-div_iff_mul-le k.some).1 (omega (arith, k.lowest));
        order = div_mono (min_period R) (max_period R) (skip R) k.some (omega arith);
        short = omega (arith, div-le_self (max_period R) (skip R), o.rate_high);
        enough = div-twice (max_period R) (skip R) k.some;
      })

module _ {R channels given room : ℕ} (o : InLimits R channels) (enough : max_required R * channels ≤ given) (fits : max_required R ≤ room) where
  pub coarse-averageable : {s n per : ℕ} → s ≡ skip R → n ≡ max_required R → per ≡ s * channels → Averageable given room (n / s) per
  coarse-averageable s-is n-is per-is =
      let k = skip-in o refl in
      let m = max_required R / skip R in
      let all : m * skip R * channels ≤ max_required R * channels = mul-le-mul_right channels (div-mul-le_self (max_required R) (skip R)) in
      rw (per-is, s-is, n-is)
      (record {
        some = mul-le-mul k.some o.channels_low;
        few = mul-le-mul k.few o.channels_high;
        enough = omega (arith, mul_assoc m (skip R) channels);
        fits = le_trans (div-le_self (max_required R) (skip R)) fits;
      })

  pub fine-averageable : {n per : ℕ} → n ≡ max_required R → per ≡ 1 * channels → Averageable given room n per
  fine-averageable n-is per-is =
      rw (per-is, n-is) (record { some = omega (arith, o.channels_low); few = omega (arith, o.channels_high); enough = omega (arith, enough); fits = fits })

-- near is a period of the range, or at most a skip shorter
pub fine-searchable : {R channels near low high n : ℕ} → InLimits R channels → near ≤ max_period R → min_period R < near + skip R
    → low ≡ max (near - 4 * skip R) (min_period R) → high ≡ min (near + 4 * skip R) (max_period R) → n ≡ max_required R → Searchable n low high
fine-searchable o near-high near-low low-is high_is n-is =
    record { some = omega (arith, o.rate_low); order = omega arith; short = omega (arith, o.rate_high); enough = omega arith }

-- ---- the period found lies in the range
module _ (ties : Ties) (x : List ℤ) {R channels : ℕ} (o : InLimits R channels) where
  coarse-in : (min_period R / skip R ≤ (coarse ties x channels R).period) × ((coarse ties x channels R).period ≤ max_period R / skip R)
  unfolding coarse
  coarse-in =
      let r = coarse-searchable o refl refl refl refl in
      (search-rule ties _ _ _ r.some r.order).in_range

  abbrev near : ℕ
  near = (coarse ties x channels R).period * skip R

  pub near-high : near ≤ max_period R
  near-high = le_trans (mul-le-mul_right (skip R) coarse-in.1) (div-mul-le_self (max_period R) (skip R))

  pub near-low : min_period R < near + skip R
  near-low = omega (arith, lt-div-mul-add {a = min_period R} {b = skip R} (skip-in o refl).some, mul-le-mul_right (skip R) coarse-in.0)

  fine-in : InRange R (fine ties x channels R near).period
  unfolding fine
  fine-in =
      let s = fine-searchable o near-high near-low refl refl refl in
      let r = (search-rule ties (values_of x (max_required R) channels) _ _ s.some s.order).in_range in
      record { low = omega (arith, r.0); high = omega (arith, r.1) }

  coarse-whole : skip R ≡ 1 → InRange R (coarse ties x channels R).period
  coarse-whole e =
      let l : min_period R / skip R ≡ min_period R = ap (λ (n : ℕ). min_period R / n) e ∙ div-one (min_period R) in
      let h : max_period R / skip R ≡ max_period R = ap (λ (n : ℕ). max_period R / n) e ∙ div-one (max_period R) in
      record { low = omega (arith, coarse-in.0); high = omega (arith, coarse-in.1) }

  found-cases : (t : Bool) → eqb (skip R) 1 ≡ t → InRange R (cond t (coarse ties x channels R) (fine ties x channels R near)).period
  found-cases true e = coarse-whole (eqb-true (skip R) 1 e)
  found-cases false e = fine-in

  pub found_in : InRange R (found ties x channels R).period
  unfolding found
  found_in = found-cases (eqb (skip R) 1) refl
