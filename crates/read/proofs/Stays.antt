-- An accepted read hands back a stream in order. For the crates above; of a write and a flush their contract says it. Assumes nothing.
use mathlib.Core.Path.{◌≡◌, refl, subst}
use mathlib.Core.Bool.{true}
use mathlib.Core.List.{List}
use Prim.Native.Nat.{ℕ, ◌-◌}
use Rattle.std.specs.Prelude.{Option, Some, None, Ok}
use lib.IntN.{ℤ}
use lib.Ieee.{Float}
use Rattle.frames.specs.Framing.{frames_of}
use Rattle.stream.specs.declared.SonicStream.{SonicStream}
use Rattle.stream.specs.declared.refusal.Refusal.{Refusal}
use Rattle.stream.specs.Stream.{stream_of, unlent}
use Rattle.stream.specs.Refusals.{is_in_order, read_refusal}
use Rattle.stream.proofs.Stays.{waiting-in-order}
use Rattle.read.specs.declared.Gave.{Gave}
use Rattle.read.specs.Reading.{read_count, read_by, read_call}
use Rattle.stream.proofs.Passing.{read-ordered}

pub read-in-order : (s : SonicStream) (most : ℕ) (slice : List Float) (output : List ℤ) (gave : Gave)
    → (read_call s most slice output).answer ≡ Ok gave → is_in_order gave.stream ≡ true
unfolding read_call
read-in-order s most slice output gave e = go (read_refusal s output) refl e
  where
    count : ℕ
    count = read_count s most slice

    go : (refusal : Option Refusal) → read_refusal s output ≡ refusal
        → (read_by refusal s count (frames_of s.channels s.waiting.0 output)).answer ≡ Ok gave → is_in_order gave.stream ≡ true
    go None z h =
        let same : stream_of (unlent s) (s.waiting.0 - count) ≡ gave.stream = cc in
        subst (λ (r : SonicStream). is_in_order r ≡ true) same (waiting-in-order s (s.waiting.0 - count) (read-ordered s output z))
    go (Some refusal) z h = cc
