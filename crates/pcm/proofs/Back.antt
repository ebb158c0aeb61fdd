-- Each of the 65,536 samples comes back through the tool's bytes: the value that a read gives for it is written as the same sample. Assumes nothing.
use mathlib.Core.Path.{◌≡◌, refl}
use mathlib.Core.Logic.{inl, inr}
use Prim.Native.Nat.{◌≤◌}
use native.Mathlib.Nat.{eq-or-lt_of_le}
use native.Mathlib.Omega.{arith}
use lib.IntN.{ℤ, pos, negsuc, nat_abs}
use lib.Ieee.{div, lt, of_int}
use mir.Syntax.{w16}
use mir.Val.{SFits}
use Rattle.floats.specs.Write.{sample_out}
use Rattle.floats.proofs.SampleBack.{sample_out-not-below, sample-back}
use Rattle.pcm.specs.Pcm.{sample_read}

-- but -32768
others : (v : ℤ) → nat_abs v ≤ 32767 → sample_read (sample_out v) ≡ v
unfolding sample_read
others v h = rw (sample_out-not-below v h) (sample-back v h)

least : sample_read (sample_out (negsuc 32767)) ≡ negsuc 32767
unfolding sample_read sample_out of_int div lt
least = refl

pub sample-read-back : (v : ℤ) → SFits w16 v → sample_read (sample_out v) ≡ v
sample-read-back (pos n) h = others (pos n) (omega (arith, h.sfits))
sample-read-back (negsuc k) h =
    elim (eq-or-lt_of_le h.sfits) [
      | inl e ↦ let same : k ≡ 32767 = omega (arith, e) in rw same least
      | inr l ↦ others (negsuc k) (omega (arith, l))
    ]
