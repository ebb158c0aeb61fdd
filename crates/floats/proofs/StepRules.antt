-- The counts of the stretch steps on every float: a copying step copies one frame at least (`copy_count-ge`); k of a skip is at most the period
-- (`skip_count-le`); k of an insert is from 1 to the period (`insert_count-ge`, `insert_count-le`). Assumes nothing.
use Rattle.std.proofs.Common.{◌≡◌, ℕ, ◌^◌, ◌<◌, ◌≤◌, max, Bool, true, false, cond, ◌&&◌, ◌||◌, T, ◌⊎◌, refl, inl, inr, ⊎_elim, le_refl, arith}
use mathlib.Core.Bool.{false≢true}
use lib.Ieee.{Float, binary32, sub, mul, div, lt, le, fits, to_unsigned}
use lib.Ieee.Positive.{between}
use Rattle.floats.specs.Numbers.{zero, half, one, two, count}
use Rattle.floats.specs.Settings.{sample_period}
use Rattle.floats.specs.Steps.{copying_due, to_copy, copy_count, skip_count, insert_count}
use Rattle.floats.proofs.Cut.{yes}
use Rattle.floats.proofs.Signs.{lt→le}
use Rattle.floats.proofs.Bounds.{skip-le}
use Rattle.floats.proofs.SamplePeriod.{period-range}
use Rattle.floats.proofs.CopyingStep.{copies-fast, copies-slow}
use Rattle.floats.proofs.CopyCount.{copy-ge}
use Rattle.floats.proofs.InsertStep.{insert-le}

-- ---- a copying step
three : (a b c : Bool) → (a && (b && c)) ≡ true → T a × T b × T c
three true true true e = (tt, tt, tt)
three true true false e = absurd (false≢true e)
three true false c e = absurd (false≢true e)
three false b c e = absurd (false≢true e)

one_of : (a b : Bool) → (a || b) ≡ true → (a ≡ true) ⊎ (b ≡ true)
one_of true b e = inl refl
one_of false b e = inr e

-- wherever a copying step is taken it copies one frame at least
pub copy_count-ge : (R : ℕ) (error s : Float) (left : ℕ) → 1000 ≤ R → R ≤ 500000 → T (fits binary32 s)
    → copying_due s error ≡ true → 1 ≤ left → 1 ≤ copy_count error s (sample_period R) left
unfolding copying_due
copy_count-ge R error s left low high f due some =
    copy-ge error s (sample_period R) left some
    (⊎_elim fast slow (one_of (lt one s && (lt s two && lt error zero)) (lt s one && (lt half s && lt zero error)) due))
  where
    fast : (lt one s && (lt s two && lt error zero)) ≡ true → T (le one (to_copy error s (sample_period R)))
    fast w =
        let t = three (lt one s) (lt s two) (lt error zero) w in
        let p = period-range R low high in
        copies-fast error s (sample_period R) f p.1 t.2 t.0 t.1 p.0

    slow : (lt s one && (lt half s && lt zero error)) ≡ true → T (le one (to_copy error s (sample_period R)))
    slow w =
        let t = three (lt s one) (lt half s) (lt zero error) w in
        let p = period-range R low high in
        let positive = between half s one tt tt (lt→le half s t.1) (lt→le s one t.0) in
        copies-slow error s (sample_period R) f p.1 t.2 positive t.0 p.0

-- ---- a skip
pub skip_count-le : (s : Float) (p : ℕ) → p ≤ 2 ^ 24 → skip_count s p ≤ p
unfolding skip_count
skip_count-le s p h = go (le two s) refl
  where
    go : (b : Bool) → le two s ≡ b → cond b (to_unsigned 64 (div binary32 (count p) (sub binary32 s one))) p ≤ p
    go true e = skip-le p s h (yes e)
    go false e = le_refl p

-- ---- an insert
pub insert_count-ge : (s : Float) (p : ℕ) → 1 ≤ insert_count s p
unfolding insert_count
insert_count-ge s p = omega arith

pub insert_count-le : (s : Float) (p : ℕ) → 1 ≤ p → p < 2 ^ 24 → insert_count s p ≤ p
unfolding insert_count
insert_count-le s p some h = go (le s half) refl
  where
    go : (b : Bool) → le s half ≡ b → max 1 (cond b (to_unsigned 64 (div binary32 (mul binary32 (count p) s) (sub binary32 one s))) p) ≤ p
    go true e = omega (arith, insert-le s p h (yes e))
    go false e = omega arith
