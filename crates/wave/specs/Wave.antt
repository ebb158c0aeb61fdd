-- docs/RULES.md, "WAVE files": what reading and writing a file answer. Definitions only. Assumes nothing.
use Rattle.std.specs.Prelude.{Bool, cond, ◌||◌, List, [], ◌∷◌, ◌++◌, ℕ, zero, suc, ◌+◌, ◌*◌, ◌/◌, ltb, ℤ}
use Rattle.std.specs.Prelude.{length, take, drop, Option, None, Result, Ok, Err}
use Rattle.stream.specs.declared.refusal.Refusal.{Refusal}
use Rattle.stream.specs.declared.refusal.Refusal.TheVariants.{BadRate, BadChannels, NotWave, BadSize, BadFormat}
use Rattle.stream.specs.Refusals.{rate_bad, channels_bad, max_area}
use Rattle.pcm.specs.Pcm.{pair_of}
use Rattle.chunks.specs.declared.Format.{Format}
use Rattle.chunks.specs.declared.Chunk.{Chunk}
use Rattle.chunks.specs.Numbers.{two_bytes}
use Rattle.chunks.specs.Chunks.{is_wave, chunk_of}
use Rattle.chunks.specs.Head.{head_of}
use Rattle.wave.specs.declared.WaveFile.{WaveFile}
use Rattle.wave.specs.declared.WaveRefused.{WaveRefused}

-- ---- reading

-- a file with samples of this format, in so many bytes from the byte `begin` on: a partial last frame is left out
abbrev pub file_of : Format → ℕ → ℕ → WaveFile
file_of f size begin =
    record { rate = f.rate; channels = f.channels; frames = record { 0 = size / (2 * f.channels) }; begin = begin }

-- what is answered at a chunk that begins at the byte `at`: behind another one the file is read on
unfoldable pub answer_at : ℕ → (ℕ → Option Format → Result WaveFile Refusal) → Result Chunk Refusal
    → Result WaveFile Refusal
answer_at at on (Err refusal) = Err refusal
answer_at at on (Ok (Chunk.Other count g)) = on count g
answer_at at on (Ok (Chunk.Data size f)) = Ok (file_of f size (at + 8))

-- chunk by chunk, at most so many, from the byte `at` on, where `rest` is the rest of the file
unfoldable pub walk : ℕ → ℕ → List ℕ → Option Format → Result WaveFile Refusal
walk zero at rest f = Err BadFormat
walk (suc most) at rest f =
    answer_at at (λ count g. walk most (at + count) (drop count rest) g) (chunk_of rest (length rest) f)

-- behind the head of 12 bytes come chunks, of at least eight bytes each: fewer than the file has bytes
unfoldable pub read_wave : List ℕ → Result WaveFile Refusal
read_wave bytes = cond (is_wave bytes) (walk (length bytes) 12 (drop 12 bytes) None) (Err NotWave)

-- ---- writing

-- the bytes of samples, two for each
unfoldable pub sample_bytes : List ℤ → List ℕ
sample_bytes [] = []
sample_bytes (v ∷ rest) = two_bytes (pair_of v) ++ sample_bytes rest

-- a file of these samples
unfoldable pub file_bytes : ℕ → ℕ → List ℤ → List ℕ
file_bytes rate channels samples = head_of rate channels (2 * length samples) ++ sample_bytes samples

-- the samples of the whole frames
unfoldable pub whole_frames : ℕ → List ℤ → List ℤ
whole_frames channels samples = take (length samples / channels * channels) samples

-- what a write leaves: its answer and the destination
pub record Written : Type 0 where
  pub answer : Result ℕ WaveRefused
  pub dest : List ℕ

-- so many bytes of a destination are those of the file
unfoldable pub written : List ℕ → List ℕ → Written
written file dest =
    record { answer = Ok (length file); dest = file ++ drop (length file) dest }

-- the number of samples, or the file, does not fit
unfoldable pub size_bad : List ℤ → List ℕ → List ℕ → Bool
size_bad samples file dest = ltb max_area (length samples) || ltb (length dest) (length file)

unfoldable pub write_wave : ℕ → ℕ → List ℤ → List ℕ → Written
write_wave rate channels samples dest =
    cond (rate_bad rate) (refused BadRate rate)
    (cond (channels_bad channels) (refused BadChannels channels)
    (cond (size_bad whole file dest) (refused BadSize 0) (written file dest)))
  where
    whole : List ℤ
    whole = whole_frames channels samples

    file : List ℕ
    file = file_bytes rate channels whole

    refused : Refusal → ℕ → Written
    refused refusal given = record { answer = Err (record { refusal = refusal; given = given }); dest = dest }
