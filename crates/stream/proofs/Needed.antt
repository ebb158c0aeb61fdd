-- What number 6 counts (C-12): at pitch 1.0 the frames of the call alone, at another pitch the tail too. Assumes nothing.
use mathlib.Core.Path.{◌≡◌}
use mathlib.Core.Bool.{Bool, true, false, cond}
use Prim.Native.Nat.{ℕ, ◌+◌, ◌≤◌}
use native.Mathlib.Omega.{arith}
use lib.Ieee.{eq}
use Rattle.floats.specs.Numbers.{one}
use Rattle.stream.specs.declared.SonicStream.{SonicStream}
use Rattle.stream.specs.Refusals.{stage_needed}

module _ (s : SonicStream) (staged : ℕ) where
  pub needed-straight : eq s.pitch one ≡ true → stage_needed s staged ≡ staged
  unfolding stage_needed
  needed-straight e = rw e

  pub needed-joining : eq s.pitch one ≡ false → stage_needed s staged ≡ s.tail.0 + staged
  unfolding stage_needed
  needed-joining e = rw e

  -- never more than before C-12
  pub needed-le : stage_needed s staged ≤ s.tail.0 + staged
  unfolding stage_needed
  needed-le = go (eq s.pitch one)
    where
      go : (b : Bool) → cond b staged (s.tail.0 + staged) ≤ s.tail.0 + staged
      go true = omega arith
      go false = omega arith
