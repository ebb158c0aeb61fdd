-- A file that was written is read back: `written-reads-back`. Before it, that of a head with any bytes behind it, and what an accepted write
-- has passed. Assumes nothing.
use mathlib.Core.Path.{◌≡◌, refl, sym, ap, subst, ◌∙◌}
use mathlib.Core.Bool.{Bool, true, false}
use mathlib.Core.List.{List, ◌++◌, append_assoc}
use Prim.Native.Nat.{ℕ, ◌+◌, ◌-◌, ◌*◌, ◌/◌, ◌^◌, ◌≤◌, ◌<◌}
use native.Mathlib.Nat.{mul-div-mul_left, mul-div_cancel}
use native.Mathlib.Omega.{arith}
use borrow.Author.Tests.{ltb-false}
use lib.Dec.{ltb}
use lib.IntN.{ℤ, pos}
use lib.ListN.{length, drop, get_or, length-append, length-drop}
use lib.Seq.{get_or-append-add, get_or-take}
use mir.Syntax.{w16}
use mir.Val.{SFits}
use Rattle.stream.specs.Refusals.{rate_bad, channels_bad, max_area}
use Rattle.stream.proofs.Testing.{neither}
use Rattle.pcm.specs.Pcm.{sample_of}
use Rattle.chunks.specs.Numbers.{u16_at}
use Rattle.chunks.specs.Head.{head_of}
use Rattle.chunks.proofs.Reading.{head_format, head-wave, head-format, head-data}
use Rattle.std.specs.Prelude.{Some, None, Ok, Err}
use Rattle.wave.specs.declared.WaveRefused.{WaveRefused}
use Rattle.wave.specs.Wave.{file_of, read_wave, sample_bytes, file_bytes, whole_frames, written, size_bad, write_wave}
use Rattle.wave.specs.Back.{ReadsBack}
use Rattle.wave.proofs.Walking.{walk-begun, walk-on, walk-data}
use Rattle.wave.proofs.Sampling.{bytes-length, bytes_read}
use Rattle.wave.proofs.Writing.{whole_length, head-length, whole_file, rate-refused, channels-refused, size-refused, file-written}

-- ---- ranges

rate-top : (rate : ℕ) → rate_bad rate ≡ false → rate ≤ 500000
unfolding rate_bad
rate-top rate e = ltb-false 500000 rate (neither (ltb rate 1000) (ltb 500000 rate) e).1

channels-range : (channels : ℕ) → channels_bad channels ≡ false → (1 ≤ channels) × (channels ≤ 32)
unfolding channels_bad
channels-range channels e =
    let n = neither (ltb channels 1) (ltb 32 channels) e in
    (ltb-false channels 1 n.0, ltb-false 32 channels n.1)

-- ---- a head with bytes behind it

head_read : (rate channels size : ℕ) (tail : List ℕ) → rate_bad rate ≡ false → channels_bad channels ≡ false
    → size < 2 ^ 32 → size ≤ length tail
    → read_wave (head_of rate channels size ++ tail) ≡ Ok (file_of (head_format rate channels) size 44)
head_read rate channels size tail r k s t =
    let bytes = head_of rate channels size ++ tail in
    let f = head_format rate channels in
    let n : length bytes ≡ 44 + length tail =
    length-append (head_of rate channels size) tail ∙ ap (λ (m : ℕ). m + length tail) (head-length rate channels size) in
    let n₁ : 24 ≤ length (drop 12 bytes) = omega (arith, n, length-drop 12 bytes) in
    let n₂ : 8 + size ≤ length (drop 36 bytes) = omega (arith, n, length-drop 36 bytes) in
    let rate-small : rate < 2 ^ 32 = omega (arith, rate-top rate r) in
    let channels-small : channels < 65536 = omega (arith, (channels-range channels k).1) in
    walk-begun bytes (head-wave rate channels size tail)
    ∙ walk-on bytes 12 None 24 (Some f) (omega (arith, n)) (head-format rate channels size tail (length (drop 12 bytes)) n₁ channels-small rate-small)
    ∙ walk-data (length bytes - 36) 36 (drop 36 bytes) (Some f) size f (head-data rate channels size tail (length (drop 36 bytes)) n₂ s r k)

-- a number behind so many bytes
behind : (head tail : List ℕ) (n k : ℕ) → length head ≡ n → u16_at (head ++ tail) (n + k) ≡ u16_at tail k
behind head tail n k e =
    let at : (j : ℕ) → get_or (head ++ tail) (n + j) 0 ≡ get_or tail j 0 =
    λ j. ap (λ (m : ℕ). get_or (head ++ tail) (m + j) 0) (sym e) ∙ get_or-append-add head tail j 0 in
    let next : n + k + 1 ≡ n + (k + 1) = omega arith in
    let high = ap (λ (m : ℕ). get_or (head ++ tail) m 0) next ∙ at (k + 1) in
    λ i. at k i + high i * 256

-- ---- an accepted write

record Passed (rate channels : ℕ) (samples : List ℤ) (dest : List ℕ) : Type 0 where
  rate_good : rate_bad rate ≡ false
  channels_good : channels_bad channels ≡ false
  size_good : size_bad (whole_frames channels samples) (whole_file rate channels samples) dest ≡ false

refused-done : {refused : WaveRefused} {n : ℕ} → Err refused ≡ Ok n → ⊥
refused-done e = cc

passed : (rate channels : ℕ) (samples : List ℤ) (dest : List ℕ) (n : ℕ)
    → (write_wave rate channels samples dest).answer ≡ Ok n → Passed rate channels samples dest
passed rate channels samples dest n e =
    go (rate_bad rate) (channels_bad channels) (size_bad (whole_frames channels samples) (whole_file rate channels samples) dest) refl refl refl
  where
    go : (r k s : Bool) → rate_bad rate ≡ r → channels_bad channels ≡ k
        → size_bad (whole_frames channels samples) (whole_file rate channels samples) dest ≡ s → Passed rate channels samples dest
    go true k s p q t = absurd (refused-done ((λ i. (sym (rate-refused rate channels samples dest p) i).answer) ∙ e))
    go false true s p q t = absurd (refused-done ((λ i. (sym (channels-refused rate channels samples dest p q) i).answer) ∙ e))
    go false false true p q t = absurd (refused-done ((λ i. (sym (size-refused rate channels samples dest p q t) i).answer) ∙ e))
    go false false false p q t = record { rate_good = p; channels_good = q; size_good = t }

-- ---- the file of a write

module _ (rate channels : ℕ) (samples : List ℤ) (dest : List ℕ) (p : Passed rate channels samples dest) where
  abbrev whole : List ℤ
  whole = whole_frames channels samples

  -- what stands behind the head
  abbrev tail : List ℕ
  tail = sample_bytes whole ++ drop (length (whole_file rate channels samples)) dest

  written_is : (write_wave rate channels samples dest).dest ≡ head_of rate channels (2 * length whole) ++ tail
  unfolding written file_bytes
  written_is =
      (λ i. (file-written rate channels samples dest p.rate_good p.channels_good p.size_good i).dest)
      ∙ append_assoc (head_of rate channels (2 * length whole)) (sample_bytes whole) (drop (length (whole_file rate channels samples)) dest)

  whole-few : length whole ≤ max_area
  unfolding size_bad
  whole-few =
      let long = ltb (length dest) (length (whole_file rate channels samples)) in
      ltb-false max_area (length whole) (neither (ltb max_area (length whole)) long p.size_good).0

  frames-are : 2 * length whole / (2 * channels) ≡ length samples / channels
  frames-are =
      let some : 1 ≤ channels = (channels-range channels p.channels_good).0 in
      ap (λ (n : ℕ). 2 * n / (2 * channels)) (whole_length channels samples)
      ∙ mul-div-mul_left {m = 2} (length samples / channels * channels) channels (omega arith)
      ∙ mul-div_cancel (length samples / channels) {n = channels} some

  answer_back : read_wave (head_of rate channels (2 * length whole) ++ tail)
      ≡ Ok (record { rate = rate; channels = channels; frames = record { 0 = length samples / channels }; begin = 44 })
  answer_back =
      let more = drop (length (whole_file rate channels samples)) dest in
      let there : 2 * length whole ≤ length tail = omega (arith, length-append (sample_bytes whole) more, bytes-length whole) in
      head_read rate channels (2 * length whole) tail p.rate_good p.channels_good (omega (arith, whole-few)) there
      ∙ (λ i. Ok (record { rate = rate; channels = channels; frames = record { 0 = frames-are i }; begin = 44 }))

  sample-back : ((i : ℕ) → SFits w16 (get_or samples i (pos 0))) → (i : ℕ) → i < length whole
      → sample_of (u16_at (head_of rate channels (2 * length whole) ++ tail) (44 + 2 * i)) ≡ get_or samples i (pos 0)
  unfolding whole_frames
  sample-back fits i h =
      let size = 2 * length whole in
      let same : get_or whole i (pos 0) ≡ get_or samples i (pos 0) =
      get_or-take (length samples / channels * channels) samples i (pos 0) (omega (arith, h, whole_length channels samples)) in
      ap sample_of (behind (head_of rate channels size) tail 44 (2 * i) (head-length rate channels size))
      ∙ bytes_read whole (drop (length (whole_file rate channels samples)) dest) i h (subst (SFits w16) (sym same) (fits i))
      ∙ same

-- ---- the theorem

pub written-reads-back : (rate channels : ℕ) (samples : List ℤ) (dest : List ℕ) (n : ℕ)
    → ((i : ℕ) → SFits w16 (get_or samples i (pos 0)))
    → (write_wave rate channels samples dest).answer ≡ Ok n
    → ReadsBack rate channels samples (write_wave rate channels samples dest).dest
written-reads-back rate channels samples dest n fits e =
    let p = passed rate channels samples dest n e in
    subst (ReadsBack rate channels samples) (sym (written_is rate channels samples dest p))
    (record { answer = answer_back rate channels samples dest p; sample = sample-back rate channels samples dest p fits })
