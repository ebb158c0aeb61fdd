-- Whether two integers are equal, as a test that is computed, and what it says. Assumes nothing.
use mathlib.Core.Path.{◌≡◌, ap}
use mathlib.Core.Bool.{Bool, false}
use lib.Dec.{T, eqb, eqb→eq}
use lib.IntN.{ℤ, pos, negsuc}

unfoldable pub equal : ℤ → ℤ → Bool
equal (pos a) (pos b) = eqb a b
equal (negsuc a) (negsuc b) = eqb a b
equal (pos a) (negsuc b) = false
equal (negsuc a) (pos b) = false

pub equal_is : (a b : ℤ) → T (equal a b) → a ≡ b
unfolding equal
equal_is (pos a) (pos b) t = ap pos (eqb→eq a b t)
equal_is (negsuc a) (negsuc b) t = ap negsuc (eqb→eq a b t)
equal_is (pos a) (negsuc b) t = absurd t
equal_is (negsuc a) (pos b) t = absurd t
