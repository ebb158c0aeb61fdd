-- Tests: joined by `&&` and `||`; and what the code's test of positions computes, that of `specs/Refusals.antt`.
-- Assumes nothing.
use mathlib.Core.Path.{◌≡◌, refl, sym, subst}
use mathlib.Core.Bool.{Bool, true, false, ◌&&◌, ◌||◌, true≢false, false≢true}
use Rattle.std.specs.Int.{div_ceil}
use Rattle.std.proofs.lemmas.Grind.{div_ceil_times}
use Prim.Native.Nat.{ℕ, zero, suc, ◌+◌, ◌*◌, ◌≤◌, ◌<◌}
use native.Mathlib.Nat.{div-eq_of_lt}
use native.Mathlib.Omega.{arith}
use borrow.Author.Tests.{lt-ltb, le-ltb}
use lib.Dec.{T, eqb}
use Rattle.rate.specs.declared.Rates.{Rates}
use Rattle.rate.specs.Tail.{ceil_div}
use Rattle.rate.proofs.Ceiling.{ceil_div-le, lt-ceil_div}
use Rattle.stream.specs.declared.SonicStream.{SonicStream}
use Rattle.stream.specs.Refusals.{positions_in_order}

-- ---- joined

pub both : (a b : Bool) → (a && b) ≡ true → (a ≡ true) × (b ≡ true)
both true b e = (refl, e)
both false b e = absurd (false≢true e)

pub neither : (a b : Bool) → (a || b) ≡ false → (a ≡ false) × (b ≡ false)
neither true b e = absurd (true≢false e)
neither false b e = (refl, e)

pub holds : {b : Bool} → b ≡ true → T b
holds e = subst T (sym e) tt

-- ---- positions

-- the library's quotient rounded up
div_ceil-same : (a b : ℕ) → 0 < b → div_ceil a b ≡ ceil_div a b
div_ceil-same a b h = let t = div_ceil_times a b h in go (div_ceil a b) t.0 t.1
  where
    go : (m : ℕ) → a ≤ m * b → m * b < a + b → m ≡ ceil_div a b
    go zero p q = omega (arith, ceil_div-le a b 0 h p)
    go (suc j) p q = omega (arith, ceil_div-le a b (suc j) h p, lt-ceil_div a b j h (grind arith))

-- p = 0
none-due : (new old : ℕ) → 1 ≤ old → ceil_div (0 * new) old ≡ 0
unfolding ceil_div
none-due new old h = div-eq_of_lt (omega arith)

pub position-start : (rates : Rates) (s : SonicStream) → 1 ≤ rates.old → s.old_rate_position ≡ 0
    → eqb s.new_rate_position 0 ≡ positions_in_order rates s
unfolding positions_in_order
position-start rates s h z = rw (z, lt-ltb 0 rates.old h, none-due rates.new rates.old h)

-- for the rates r as the code found them

pub position-over : (rates : Rates) (s : SonicStream) (r : Rates) → r ≡ rates → r.old ≤ s.old_rate_position → false ≡ positions_in_order rates s
unfolding positions_in_order
position-over rates s r e h = rw (← e, le-ltb s.old_rate_position r.old h)

pub position-is : (rates : Rates) (s : SonicStream) (r : Rates) → r ≡ rates → s.old_rate_position < r.old
    → eqb s.new_rate_position (div_ceil (s.old_rate_position * r.new) r.old) ≡ positions_in_order rates s
unfolding positions_in_order
position-is rates s r e h = rw (← e, lt-ltb s.old_rate_position r.old h, div_ceil-same (s.old_rate_position * r.new) r.old (omega arith))
