-- A read of a steady stream is never refused, and leaves it steady: read-served. Assumes nothing.
use mathlib.Core.Path.{◌≡◌}
use Rattle.std.specs.Prelude.{None}
use Prim.Native.Nat.{ℕ, ◌-◌, ◌*◌}
use native.Mathlib.Omega.{arith}
use mathlib.Core.List.{List, []}
use lib.IntN.{ℤ}
use lib.Ieee.{Float}
use lib.ListN.{length}
use borrow.Author.Tests.{le-ltb}
use Rattle.frames.specs.Framing.{Frame, frames_of}
use Rattle.stream.specs.declared.SonicStream.{SonicStream}
use Rattle.stream.specs.Stream.{state_of, stream_of}
use Rattle.stream.specs.Refusals.{read_refusal, output_bad, max_area}
use Rattle.stream.proofs.Streams.{held-is}
use Rattle.read.specs.Reading.{read_call, read_by, read_count}
use Rattle.plans.specs.Plans.{output_area, is_small}
use Rattle.plans.proofs.Sizes.{output-most}
use Rattle.serving.specs.Steady.{Steady, ReadWent}
use Rattle.serving.proofs.Fresh.{steady-read}

module _ (s : SonicStream) (y : Steady s) (output : List ℤ) (z : length output ≡ output_area (is_small s)) where
  not-refused : read_refusal s output ≡ None
  unfolding read_refusal output_bad
  not-refused =
      rw (y.in_order, le-ltb max_area (length output) (omega (arith, z, output-most (is_small s))), le-ltb (length output) (s.waiting.0 * s.channels) (omega (arith, z, y.waiting_fits)))

  went : (n : ℕ) (waiting : List Frame) → ReadWent s (read_by None s n waiting).answer
  unfolding stream_of state_of
  went n waiting = let k = steady-read s (s.waiting.0 - n) (omega arith) y in (k.0, k.1, held-is s [] [])

  pub read-served : (most : ℕ) (slice : List Float) → ReadWent s (read_call s most slice output).answer
  unfolding read_call
  read-served most slice = rw not-refused (went (read_count s most slice) (frames_of s.channels s.waiting.0 output))
