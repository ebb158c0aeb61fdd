-- Laws of `tabulate`, and of a loop that fills a list from the front. Assumes nothing.
use mathlib.Core.Path.{◌≡◌, refl, sym, ap, ◌∙◌}
use mathlib.Core.List.{List}
use Prim.Native.Nat.{ℕ, zero, suc, ◌+◌, ◌<◌}
use native.Mathlib.Nat.{not-suc-le-zero, le_of_suc-le-suc}
use native.Mathlib.Numerals.{add-one}
use native.Mathlib.Omega.{arith}
use lib.IntN.{ℤ}
use lib.ListN.{length, get_or, set}
use lib.Seq.{paste, paste-suc}
use Rattle.sinc.specs.Sinc.{tabulate}

pub length-tabulate : (n : ℕ) (f : ℕ → ℤ) → length (tabulate n f) ≡ n
unfolding tabulate
length-tabulate zero f = refl
length-tabulate (suc n) f = ap suc (length-tabulate n (λ i. f (suc i)))

pub get_or-tabulate : (n : ℕ) (f : ℕ → ℤ) (i : ℕ) (d : ℤ) → i < n → get_or (tabulate n f) i d ≡ f i
unfolding tabulate
get_or-tabulate zero f i d h = absurd (not-suc-le-zero h)
get_or-tabulate (suc n) f zero d h = refl
get_or-tabulate (suc n) f (suc i) d h = get_or-tabulate n (λ j. f (suc j)) i d (le_of_suc-le-suc h)

pub tabulate-cong : (n : ℕ) (f g : ℕ → ℤ) → ((i : ℕ) → i < n → f i ≡ g i) → tabulate n f ≡ tabulate n g
unfolding tabulate
tabulate-cong zero f g e = refl
tabulate-cong (suc n) f g e = rw (e 0 (omega arith), tabulate-cong n (λ i. f (suc i)) (λ i. g (suc i)) (λ i h. e (suc i) (omega arith)))

-- one value more of a list, stored from `to` on
pub tabulate-turn : (l : List ℤ) (to n : ℕ) (f : ℕ → ℤ) (i : ℕ) (d : ℤ) → to + i < length l → i < n
    → set (paste l to (tabulate n f) i) (to + i) (f i) ≡ paste l to (tabulate n f) (i + 1)
tabulate-turn l to n f i d h k =
    ap (λ (v : ℤ). set (paste l to (tabulate n f) i) (to + i) v) (sym (get_or-tabulate n f i d k))
    ∙ paste-suc l to (tabulate n f) i d h (omega (arith, length-tabulate n f)) ∙ ap (paste l to (tabulate n f)) (sym (add-one i))
