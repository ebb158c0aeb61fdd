-- docs/RULES.md, "WAVE files": a file that was written is read back. Definitions only. Assumes nothing.
use Rattle.std.specs.Prelude.{◌≡◌, List, ℕ, ◌+◌, ◌*◌, ◌/◌, ◌<◌, ℤ, pos, length, get_or, Ok}
use Rattle.pcm.specs.Pcm.{sample_of}
use Rattle.chunks.specs.Numbers.{u16_at}
use Rattle.wave.specs.Wave.{read_wave, whole_frames}

-- reading answers this rate, these channels and the samples' whole frames, and finds each of their samples
pub record ReadsBack (rate channels : ℕ) (samples : List ℤ) (bytes : List ℕ) : Type 0 where
  pub answer : read_wave bytes
      ≡ Ok
      (record { rate = rate; channels = channels; frames = record { 0 = length samples / channels }; begin = 44 })
  pub sample : (i : ℕ) → i < length (whole_frames channels samples)
      → sample_of (u16_at bytes (44 + 2 * i)) ≡ get_or samples i (pos 0)
