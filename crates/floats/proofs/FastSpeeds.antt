-- At a local speed of 2 and more no copying step is due; below that a skip gives as many frames as its period has. Assumes nothing.
use Rattle.std.proofs.Common.{◌≡◌, ℕ, ◌*◌, ◌≤◌, Bool, true, false, ◌&&◌, ◌||◌, T, ℤ, pos, refl, arith, le-ltb}
use lib.Ieee.{Float, nan, inf, fin, up, down, lt, le}
use lib.Ieee.Positive.{above_of_le}
use Rattle.floats.specs.Numbers.{one, two}
use Rattle.floats.specs.Steps.{copying_due, skip_count}
use Rattle.floats.proofs.Signs.{le-cross}

finite-fast : (m : ℕ) (e : ℤ) → T (le two (fin false m e)) → (lt (fin false m e) two ≡ false) × (lt (fin false m e) one ≡ false)
unfolding lt
finite-fast m e h =
    let large : 1 * up (pos 1) * down e ≤ m * up e * down (pos 1) = le-cross 1 (pos 1) m e h in (
      le-ltb (m * up e * down (pos 1)) (1 * up (pos 1) * down e) large,
      le-ltb (m * up e * down (pos 0)) (1 * up (pos 0) * down e) (omega (arith, large)),
    )

pub not-below : (s : Float) → T (le two s) → (lt s two ≡ false) × (lt s one ≡ false)
unfolding lt
not-below nan h = (refl, refl)
not-below (inf false) h = (refl, refl)
not-below (inf true) h = absurd (above_of_le two (inf true) tt h)
not-below (fin false m e) h = finite-fast m e h
not-below (fin true m e) h = absurd (above_of_le two (fin true m e) tt h)

pub fast-copies-none : (s error : Float) → T (le two s) → copying_due s error ≡ false
unfolding copying_due
fast-copies-none s error h = let n = not-below s h in rw (n.0, n.1) (go (lt one s))
  where
    go : (b : Bool) → ((b && false) || false) ≡ false
    go true = refl
    go false = refl

pub slow-skips-all : (s : Float) (p : ℕ) → le two s ≡ false → skip_count s p ≡ p
unfolding skip_count
slow-skips-all s p e = rw e
