-- The lengths of the tool's arrays. Assumes nothing.
use mathlib.Core.Path.{◌≡◌, sym}
use Prim.Native.Nat.{ℕ}
use lib.Ieee.{Float}
use lib.IntN.{ℤ, pos}
use lib.ListN.{length, replicate, length-replicate}
use Rattle.plans.specs.Plans.{block_samples, block_bytes}

pub samples-length : (n : ℕ) → n ≡ length (replicate n (pos 0))
samples-length n = sym (length-replicate {A = ℤ} n (pos 0))

pub values_length : (x : Float) → block_samples ≡ length (replicate block_samples x)
values_length x = sym (length-replicate {A = Float} block_samples x)

pub bytes-length : block_bytes ≡ length {A = ℕ} (replicate block_bytes 0)
bytes-length = sym (length-replicate {A = ℕ} block_bytes 0)
