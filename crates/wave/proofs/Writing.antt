-- Writing a file, in this order:
--   whole_length, head-length, file-length     counts
--   rate-refused, channels-refused, size-refused, file-written     what `write_wave` answers, by its tests
--   size_is     the test of the size, in counts
--   file-laid     the head, and the samples behind it, laid into a destination
-- Assumes nothing.
use mathlib.Core.Path.{◌≡◌, refl, sym, ap, ◌∙◌}
use mathlib.Core.Bool.{Bool, true, false, ◌||◌}
use mathlib.Core.List.{List, ◌++◌}
use Prim.Native.Nat.{ℕ, ◌+◌, ◌*◌, ◌/◌, ◌≤◌}
use native.Mathlib.Nat.{zero-add, div-mul-le_self}
use native.Mathlib.Omega.{arith}
use lib.Dec.{ltb}
use lib.IntN.{ℤ}
use lib.ListN.{length, take, drop, length-append}
use lib.Seq.{paste, length-take-le, take-length}
use Rattle.std.specs.Prelude.{Err}
use Rattle.stream.specs.declared.refusal.Refusal.{Refusal}
use Rattle.stream.specs.declared.refusal.Refusal.TheVariants.{BadRate, BadChannels, BadSize}
use Rattle.stream.specs.Refusals.{rate_bad, channels_bad, max_area}
use Rattle.frames.proofs.Pasted.{paste-append}
use Rattle.chunks.specs.Head.{head_of}
use Rattle.wave.specs.Wave.{sample_bytes, file_bytes, whole_frames, Written, written, size_bad, write_wave}
use Rattle.wave.proofs.Sampling.{bytes-length}

-- ---- counts

pub whole_length : (channels : ℕ) (samples : List ℤ) → length (whole_frames channels samples) ≡ length samples / channels * channels
unfolding whole_frames
whole_length channels samples = length-take-le (length samples / channels * channels) samples (div-mul-le_self (length samples) channels)

pub head-length : (rate channels size : ℕ) → length (head_of rate channels size) ≡ 44
unfolding head_of
head-length rate channels size = refl

pub file-length : (rate channels : ℕ) (samples : List ℤ) → length (file_bytes rate channels samples) ≡ 44 + 2 * length samples
unfolding file_bytes
file-length rate channels samples =
    let head = head_of rate channels (2 * length samples) in
    length-append head (sample_bytes samples)
    ∙ omega (arith, head-length rate channels (2 * length samples), bytes-length samples)

-- ---- answers

abbrev pub refused : Refusal → ℕ → List ℕ → Written
refused refusal given dest = record { answer = Err (record { refusal = refusal; given = given }); dest = dest }

-- the file of the whole frames
abbrev pub whole_file : ℕ → ℕ → List ℤ → List ℕ
whole_file rate channels samples = file_bytes rate channels (whole_frames channels samples)

module _ (rate channels : ℕ) (samples : List ℤ) (dest : List ℕ) where
  -- the test of the size
  abbrev too_big : Bool
  too_big = size_bad (whole_frames channels samples) (whole_file rate channels samples) dest

  pub rate-refused : rate_bad rate ≡ true → write_wave rate channels samples dest ≡ refused BadRate rate dest
  unfolding write_wave
  rate-refused r = rw r

  module _ (rate_good : rate_bad rate ≡ false) where
    pub channels-refused : channels_bad channels ≡ true → write_wave rate channels samples dest ≡ refused BadChannels channels dest
    unfolding write_wave
    channels-refused k = rw (rate_good, k)

    module _ (channels_good : channels_bad channels ≡ false) where
      pub size-refused : too_big ≡ true → write_wave rate channels samples dest ≡ refused BadSize 0 dest
      unfolding write_wave
      size-refused s = rw (rate_good, channels_good, s)

      pub file-written : too_big ≡ false → write_wave rate channels samples dest ≡ written (whole_file rate channels samples) dest
      unfolding write_wave
      file-written s = rw (rate_good, channels_good, s)

  pub size_is : (count : ℕ) → count ≡ length samples / channels * channels
      → too_big ≡ (ltb max_area count || ltb (length dest) (44 + 2 * count))
  unfolding size_bad
  size_is count e =
      let n : length (whole_frames channels samples) ≡ count = whole_length channels samples ∙ sym e in
      let m : length (whole_file rate channels samples) ≡ 44 + 2 * count =
      file-length rate channels (whole_frames channels samples) ∙ ap (λ (k : ℕ). 44 + 2 * k) n in
      rw (m, n)

-- ---- bytes

paste_all : (d s : List ℕ) (n : ℕ) → length s ≡ n → paste d 0 s n ≡ s ++ drop (length s) d
paste_all d s n e =
    ap (paste d 0 s) (sym e) ∙ (λ i. take-length s i ++ drop (zero-add (length s) i) d)

pub file-laid : (rate channels count : ℕ) (samples : List ℤ) (dest : List ℕ) → count ≡ length samples / channels * channels
    → 44 + 2 * count ≤ length dest
    → let file = whole_file rate channels samples in
    paste (paste dest 0 (head_of rate channels (2 * count)) 44) 44 (sample_bytes (take count samples)) (2 * count) ≡ file ++ drop (length file) dest
unfolding file_bytes whole_frames
file-laid rate channels count samples dest e h =
    let samples-there = take count samples in
    let head = head_of rate channels (2 * count) in
    let bytes = sample_bytes samples-there in
    let inside : count ≤ length samples = omega (arith, e, div-mul-le_self (length samples) channels) in
    let n : length samples-there ≡ count = length-take-le count samples inside in
    let m : length bytes ≡ 2 * count = bytes-length samples-there ∙ ap (λ (k : ℕ). 2 * k) n in
    let all : length (head ++ bytes) ≡ 44 + 2 * count = length-append head bytes ∙ omega (arith, head-length rate channels (2 * count), m) in
    paste-append dest head bytes 0 44 (2 * count) (head-length rate channels (2 * count)) m (omega arith)
    ∙ paste_all dest (head ++ bytes) (44 + 2 * count) all
    ∙ ap (λ (f : List ℕ). f ++ drop (length f) dest)
    ((λ i. head_of rate channels (2 * sym n i) ++ bytes)
    ∙ ap (λ (k : ℕ). head_of rate channels (2 * length (take k samples)) ++ sample_bytes (take k samples)) e)
