-- docs/RULES.md, "Ties to the longer period": after a call's steps the sum is that of its last search (sum-of-last); copying steps make none, and
-- leave it (sum_kept). Assumes nothing.
use mathlib.Core.Path.{◌≡◌, refl, sym, ◌∙◌}
use mathlib.Core.Bool.{Bool, true, false, ◌||◌, false≢true}
use mathlib.Core.List.{List, [], ◌∷◌, ◌++◌}
use lib.IntN.{ℤ}
use Rattle.stretch.specs.declared.StretchCall.{StretchCall}
use Rattle.stretch.specs.declared.Place.{Place}
use Rattle.stretch.specs.declared.Step.{Step}
use Rattle.stretch.specs.declared.Step.TheVariants.{Copied, Skipped, Inserted, Passed}
use Rattle.stretch.specs.Steps.{search_at, sum_after, place_after, after}
use Rattle.stretch.specs.Speed.{last_place}

-- whether a step makes a search, and whether one of several does
abbrev pub searches : Step → Bool
searches (Copied n) = false
searches (Skipped period k) = true
searches (Inserted period k) = true
searches (Passed period) = true

unfoldable pub searched : List Step → Bool
searched [] = false
searched (s ∷ ss) = searches s || searched ss

module _ (u : StretchCall) (x : List ℤ) where
  pub sum_kept : (ss : List Step) (h : Place) → searched ss ≡ false → (last_place u x h ss).sum ≡ h.sum
  unfolding searched last_place after place_after sum_after
  sum_kept [] h e = refl
  sum_kept (Copied n ∷ ss) h e = sum_kept ss (after u x h (Copied n)) e
  sum_kept (Skipped period k ∷ ss) h e = absurd (false≢true (sym e))
  sum_kept (Inserted period k ∷ ss) h e = absurd (false≢true (sym e))
  sum_kept (Passed period ∷ ss) h e = absurd (false≢true (sym e))

  sum-found : (s : Step) (h : Place) → searches s ≡ true → (after u x h s).sum ≡ (search_at u x h).sum
  unfolding after place_after sum_after
  sum-found (Copied n) h e = absurd (false≢true e)
  sum-found (Skipped period k) h e = refl
  sum-found (Inserted period k) h e = refl
  sum-found (Passed period) h e = refl

  -- s is the last of the steps that makes a search
  pub sum-of-last : (ss : List Step) (s : Step) (rest : List Step) (h : Place) → searches s ≡ true → searched rest ≡ false
      → (last_place u x h (ss ++ (s ∷ rest))).sum ≡ (search_at u x (last_place u x h ss)).sum
  unfolding last_place
  sum-of-last [] s rest h e f = sum_kept rest (after u x h s) f ∙ sum-found s h e
  sum-of-last (r ∷ ss) s rest h e f = sum-of-last ss s rest (after u x h r) e f
