-- Which frames a call takes, by what it tests; the local speed is an f32. Assumes nothing.
use mathlib.Core.Path.{◌≡◌, ◌∙◌}
use mathlib.Core.Bool.{true, false}
use Prim.Native.Nat.{ℕ, ◌≤◌, ◌<◌}
use native.Mathlib.Omega.{arith}
use borrow.Author.Tests.{lt-ltb, le-ltb, eq-eqb, ne_eqb}
use lib.Dec.{T}
use lib.Ieee.{Float, binary32, mul, fits}
use lib.Ieee.Fits.{div-fits}
use lib.ListN.{length}
use Rattle.floats.specs.Numbers.{count}
use Rattle.floats.specs.Write.{local_speed, speed_changes}
use Rattle.period.specs.Rates.{max_required}
use Rattle.stream.specs.State.{State}
use Rattle.fill.specs.declared.Outcome.TheVariants.{Empty, Waiting}
use Rattle.fill.specs.Taking.{nothing, copied, stretched, taken_at, speed_at, taken}

pub speed_fits : (held : ℕ) (period play : Float) → T (fits binary32 (local_speed held period play))
unfolding local_speed
speed_fits held period play = div-fits binary32 (mul binary32 (count held) period) play

pub taken-empty : (s : State) → length s.input ≡ 0 → taken s ≡ nothing Empty s
unfolding taken
taken-empty s h = rw (eq-eqb (length s.input) 0 h)

module _ (s : State) (some : 1 ≤ length s.input) where
  taken-some : taken s ≡ taken_at (speed_at s) s
  unfolding taken
  taken-some = rw (ne_eqb (length s.input) 0 (λ e. omega arith))

  pub taken-waiting : speed_changes (speed_at s) ≡ true → length s.input < max_required s.rate → taken s ≡ nothing Waiting s
  unfolding taken_at
  taken-waiting e h = taken-some ∙ rw (e, lt-ltb (length s.input) (max_required s.rate) h)

  pub taken-stretched : speed_changes (speed_at s) ≡ true → max_required s.rate ≤ length s.input → taken s ≡ stretched (speed_at s) s
  unfolding taken_at
  taken-stretched e h = taken-some ∙ rw (e, le-ltb (length s.input) (max_required s.rate) h)

  pub taken-copied : speed_changes (speed_at s) ≡ false → taken s ≡ copied s
  unfolding taken_at
  taken-copied e = taken-some ∙ rw e
