-- Laws of division rounded up: `ceil_div a b` is the least whole number m with m·b ≥ a. Assumes nothing.
use mathlib.Core.Path.{◌≡◌, ◌∙◌}
use Prim.Native.Nat.{ℕ, suc, ◌+◌, ◌-◌, ◌*◌, ◌/◌, ◌≤◌, ◌<◌}
use native.Mathlib.Nat.{add-mul-div_right, div-eq_of_lt, suc-mul, div-lt_iff_lt-mul, le-div_iff_mul-le, le_refl, le_trans}
use native.Mathlib.Omega.{arith}
use Rattle.rate.specs.Tail.{ceil_div}

-- it is the least
pub ceil_div-le : (a b m : ℕ) → 0 < b → a ≤ m * b → ceil_div a b ≤ m
unfolding ceil_div
ceil_div-le a b m p h = omega (arith, (div-lt_iff_lt-mul {k = b} {x = a + (b - 1)} {y = suc m} p).1 (omega (arith, suc-mul m b)))

-- and those above it do as well
pub le-ceil_div-mul : (a b m : ℕ) → 0 < b → ceil_div a b ≤ m → a ≤ m * b
unfolding ceil_div
le-ceil_div-mul a b m p h =
    let q : (a + (b - 1)) / b < suc m = omega arith in
    let t : a + (b - 1) < suc m * b = (div-lt_iff_lt-mul {k = b} {x = a + (b - 1)} {y = suc m} p).0 q in
    omega (arith, suc-mul m b)

pub lt-ceil_div : (a b m : ℕ) → 0 < b → m * b < a → m < ceil_div a b
unfolding ceil_div
lt-ceil_div a b m p h = omega (arith, (le-div_iff_mul-le {k = b} {x = suc m} {y = a + (b - 1)} p).1 (omega (arith, suc-mul m b)))

pub ceil_div-mono : (a c b : ℕ) → 0 < b → a ≤ c → ceil_div a b ≤ ceil_div c b
ceil_div-mono a c b p h = ceil_div-le a b (ceil_div c b) p (le_trans h (le-ceil_div-mul c b (ceil_div c b) p (le_refl (ceil_div c b))))

pub ceil_div-zero : (b : ℕ) → 0 < b → ceil_div 0 b ≡ 0
unfolding ceil_div
ceil_div-zero b p = div-eq_of_lt (omega arith)

-- whole multiples go in and out
pub ceil_div-mul-add : (a b m : ℕ) → 0 < b → ceil_div (m * b + a) b ≡ m + ceil_div a b
unfolding ceil_div
ceil_div-mul-add a b m p =
    let e : m * b + a + (b - 1) ≡ (a + (b - 1)) + m * b = omega arith in
    let f : ceil_div a b + m ≡ m + ceil_div a b = omega arith in
    rw e (add-mul-div_right (a + (b - 1)) m p ∙ f)
