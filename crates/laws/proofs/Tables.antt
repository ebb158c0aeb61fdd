-- A rule of a table, proved at all of its entries by one test that is computed, one entry after the other.
-- Assumes nothing.
use mathlib.Core.Path.{◌∙◌, subst, sym}
use mathlib.Core.Bool.{Bool, true, ◌&&◌}
use mathlib.Core.List.{List, [], ◌∷◌}
use Prim.Native.Nat.{ℕ, zero, suc, ◌+◌, ◌<◌}
use native.Mathlib.Nat.{add-zero, zero-add, add-suc, suc-add, le_of_suc-le-suc, not-suc-le-zero}
use lib.Dec.{T}
use lib.ListN.{length, get_or}
use mir.Facts.{and_yes}

module _ {A : Type 0} where
  -- the test passes at each entry and its place, counted from i
  abbrev pub every : (ℕ → A → Bool) → ℕ → List A → Bool
  every test i [] = true
  every test i (x ∷ xs) = test i x && every test (suc i) xs

  every-from : (test : ℕ → A → Bool) (xs : List A) (d : A) (i : ℕ) → T (every test i xs) → (k : ℕ) → k < length xs → T (test (i + k) (get_or xs k d))
  every-from test [] d i t k h = absurd (not-suc-le-zero h)
  every-from test (x ∷ xs) d i t zero h = subst (λ (m : ℕ). T (test m x)) (sym (add-zero i)) (and_yes (test i x) (every test (suc i) xs) t).0
  every-from test (x ∷ xs) d i t (suc k) h =
      subst (λ (m : ℕ). T (test m (get_or xs k d))) (suc-add i k ∙ sym (add-suc i k))
      (every-from test xs d (suc i) (and_yes (test i x) (every test (suc i) xs) t).1 k (le_of_suc-le-suc h))

  -- what the test says of the entry at k
  pub every-at : (test : ℕ → A → Bool) (xs : List A) (d : A) → T (every test 0 xs) → (k : ℕ) → k < length xs → T (test k (get_or xs k d))
  every-at test xs d t k h = subst (λ (m : ℕ). T (test m (get_or xs k d))) (zero-add k) (every-from test xs d 0 t k h)
