-- A read, in this order:
--   Givable, givable                          how many frames it may give
--   parts, given-fits                         their samples, and those of the frames left
--   given-frames, given-rest, left-frames     what its two copies leave
--   given-ensures, stream-refused, output-refused     the contract of an accepted and of a refused read
-- Assumes nothing.
use mathlib.Core.Path.{◌≡◌, refl, sym, ap, ◌∙◌, subst}
use mathlib.Core.Bool.{true, false}
use mathlib.Core.List.{List, map}
use Prim.Native.Nat.{ℕ, ◌+◌, ◌-◌, ◌*◌, ◌/◌, ◌^◌, ◌≤◌, min}
use native.Mathlib.Nat.{add-mul, min-le_left, min-le_right}
use native.Mathlib.Omega.{arith}
use lib.IntN.{ℤ}
use lib.Ieee.{Float}
use lib.ListN.{length, take, drop, length-map}
use lib.Seq.{paste, drop-paste}
use Rattle.std.specs.Prelude.{Ok, Err}
use Rattle.frames.specs.Framing.{frames_of}
use Rattle.frames.specs.Removal.{FrontRemoved}
use Rattle.frames.proofs.Framing.{frames_of-cong, frames_of-map, take-frames_of}
use Rattle.frames.proofs.Pasted.{paste-part}
use Rattle.frames.proofs.Removal.{removed-frames}
use Rattle.frames.proofs.Room.{samples-le}
use Rattle.floats.specs.Write.{sample_out}
use Rattle.stream.specs.declared.SonicStream.{SonicStream}
use Rattle.stream.specs.Stream.{stream_of, unlent}
use Rattle.stream.specs.declared.refusal.Refusal.TheVariants.{BadStream, BadAreas}
use Rattle.stream.specs.Refusals.{is_in_order, output_bad, read_refusal}
use Rattle.stream.proofs.InOrder.{limits_of}
use Rattle.stream.proofs.AreaTests.{output-of}
use Rattle.read.specs.Reading.{read_count, read_call, ReadEnsures}

-- n frames may be given
pub record Givable (s : SonicStream) (n : ℕ) (slice : List Float) (output : List ℤ) : Type 0 where
  pub few : n ≤ s.waiting.0
  pub slice_fits : n * s.channels ≤ length slice
  pub waits : s.waiting.0 * s.channels ≤ length output
  pub short : length output ≤ 2 ^ 24

pub givable : (s : SonicStream) (most n : ℕ) (slice : List Float) (output : List ℤ) → is_in_order s ≡ true → output_bad s output ≡ false
    → n ≡ read_count s most slice → Givable s n slice output
unfolding read_count
givable s most n slice output o b e =
    let w = s.waiting.0 in
    let room = length slice / s.channels in
    let left = min-le_left (min w most) room in
    let right = min-le_right (min w most) room in
    let out = output-of s output b in
    record {
      few = omega (arith, min-le_left w most);
      slice_fits = samples-le s.channels n (length slice) (limits_of s o).channels_low (omega arith);
      waits = out.0;
      short = out.1;
    }

module _ {s : SonicStream} {n : ℕ} {slice : List Float} {output : List ℤ} (g : Givable s n slice output) where
  -- the frames given and those left are those waiting
  pub parts : n * s.channels + (s.waiting.0 - n) * s.channels ≡ s.waiting.0 * s.channels
  parts =
      let few = g.few in
      let whole : n + (s.waiting.0 - n) ≡ s.waiting.0 = omega arith in
      sym (add-mul n (s.waiting.0 - n) s.channels) ∙ ap (λ (k : ℕ). k * s.channels) whole

  given-fits : n * s.channels ≤ length (map sample_out output)
  given-fits = omega (arith, parts, g.waits, length-map output sample_out)

  -- the front of the slice, and the rest of it
  given-frames : frames_of s.channels n (paste slice 0 (map sample_out output) (n * s.channels))
      ≡ map (map sample_out) (take n (frames_of s.channels s.waiting.0 output))
  given-frames =
      let ch = s.channels in
      frames_of-cong ch n (paste slice 0 (map sample_out output) (n * ch)) (map sample_out output)
      (paste-part slice (map sample_out output) 0 (n * ch) (omega arith) given-fits)
      ∙ frames_of-map sample_out ch n output ∙ ap (map (map sample_out)) (sym (take-frames_of ch n s.waiting.0 output g.few))

  given-rest : drop (n * s.channels) (paste slice 0 (map sample_out output) (n * s.channels)) ≡ drop (n * s.channels) slice
  given-rest =
      let e : 0 + n * s.channels ≡ n * s.channels = omega arith in
      subst (λ (k : ℕ). drop k (paste slice 0 (map sample_out output) (n * s.channels)) ≡ drop k slice) e
      (drop-paste slice 0 (map sample_out output) (n * s.channels) (omega arith) given-fits)

  -- the frames left
  left-frames : {area : List ℤ} → FrontRemoved (n * s.channels) ((s.waiting.0 - n) * s.channels) output area
      → frames_of s.channels (s.waiting.0 - n) area ≡ drop n (frames_of s.channels s.waiting.0 output)
  left-frames moved =
      let few = g.few in
      let whole : n + (s.waiting.0 - n) ≡ s.waiting.0 = omega arith in
      removed-frames s.channels n (s.waiting.0 - n) moved ∙ ap (λ (k : ℕ). drop n (frames_of s.channels k output)) whole

-- ---- contracts

-- accepted: t is the stream with n frames fewer
pub given-ensures : (s t : SonicStream) (most n : ℕ) (slice exit : List Float) (output area : List ℤ) → is_in_order s ≡ true → output_bad s output ≡ false
    → n ≡ read_count s most slice → t ≡ stream_of (unlent s) (s.waiting.0 - n) → exit ≡ paste slice 0 (map sample_out output) (n * s.channels)
    → FrontRemoved (n * s.channels) ((s.waiting.0 - n) * s.channels) output area
    → ReadEnsures s.channels (read_call s most slice output) (Ok (record { frames = record { 0 = n }; stream = t })) slice exit area
unfolding read_call read_refusal stream_of
given-ensures s t most n slice exit output area o b e is slice_is moved =
    let g = givable s most n slice output o b e in
    rw (o, b, ← e, is, slice_is) (record { answer = refl; given = given-frames g; rest = given-rest g; output = left-frames g moved })

-- refused: nothing is given, nothing changes
pub stream-refused : (s : SonicStream) (most : ℕ) (slice : List Float) (output : List ℤ) → is_in_order s ≡ false
    → ReadEnsures s.channels (read_call s most slice output) (Err (record { refusal = BadStream; stream = s })) slice slice output
unfolding read_call read_refusal frames_of
stream-refused s most slice output o = rw o (record { answer = refl; given = refl; rest = refl; output = refl })

pub output-refused : (s : SonicStream) (most : ℕ) (slice : List Float) (output : List ℤ) → is_in_order s ≡ true → output_bad s output ≡ true
    → ReadEnsures s.channels (read_call s most slice output) (Err (record { refusal = BadAreas; stream = s })) slice slice output
unfolding read_call read_refusal frames_of
output-refused s most slice output o b = rw (o, b) (record { answer = refl; given = refl; rest = refl; output = refl })
