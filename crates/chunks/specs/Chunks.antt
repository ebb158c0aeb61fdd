-- docs/RULES.md, "WAVE files": the head of a file, and one of its chunks. Definitions only. Assumes nothing.
use Rattle.std.specs.Prelude.{Bool, not, cond, ◌&&◌, List, [], ◌∷◌, ℕ, ◌+◌, ◌-◌, ◌%◌, leb, ltb, eqb, length}
use Rattle.std.specs.Prelude.{Option, Some, None, is_none, Result, Ok, Err}
use Rattle.stream.specs.declared.refusal.Refusal.{Refusal}
use Rattle.stream.specs.declared.refusal.Refusal.TheVariants.{BadSize, BadFormat}
use Rattle.stream.specs.Refusals.{rate_bad, channels_bad}
use Rattle.chunks.specs.declared.Format.{Format}
use Rattle.chunks.specs.declared.Chunk.{Chunk}
use Rattle.chunks.specs.declared.ChunkHead.{ChunkHead}
use Rattle.chunks.specs.Numbers.{u16_at, u32_at}

-- ---- ids, as their four bytes

-- RIFF
abbrev pub riff_id : List ℕ
riff_id = 82 ∷ (73 ∷ (70 ∷ (70 ∷ [])))

-- WAVE
abbrev pub wave_id : List ℕ
wave_id = 87 ∷ (65 ∷ (86 ∷ (69 ∷ [])))

-- fmt and a space
abbrev pub format_id : List ℕ
format_id = 102 ∷ (109 ∷ (116 ∷ (32 ∷ [])))

-- data
abbrev pub data_id : List ℕ
data_id = 100 ∷ (97 ∷ (116 ∷ (97 ∷ [])))

-- whether this id stands at byte `at`
abbrev pub is_id : List ℕ → ℕ → List ℕ → Bool
is_id bytes at id = eqb (u32_at bytes at) (u32_at id 0)

-- whether a file has RIFF and WAVE at its head of 12 bytes
unfoldable pub is_wave : List ℕ → Bool
is_wave bytes = leb 12 (length bytes) && (is_id bytes 0 riff_id && is_id bytes 8 wave_id)

-- ---- the format

-- that of a fmt chunk, whose head of eight bytes stands first
abbrev pub format_in : List ℕ → Format
format_in chunk =
    record {
      tag = u16_at chunk 8;
      channels = u16_at chunk 10;
      rate = u32_at chunk 12;
      bits = u16_at chunk 22;
    }

-- known after a chunk of this size: the first fmt chunk of 16 bytes or more is the one used
unfoldable pub format_after : List ℕ → ℕ → Option Format → Option Format
format_after chunk size f =
    cond (is_none f && (is_id chunk 0 format_id && leb 16 size)) (Some (format_in chunk)) f

-- whether its samples are read: tag 1, 16 bits, and a rate and channels that a stream takes
unfoldable pub is_read : Format → Bool
is_read f = eqb f.tag 1 && (eqb f.bits 16 && (not (rate_bad f.rate) && not (channels_bad f.channels)))

-- ---- a chunk

-- whether a chunk is the data chunk, and its size
abbrev pub chunk_head : List ℕ → ChunkHead
chunk_head chunk = record { is_data = is_id chunk 0 data_id; size = u32_at chunk 4 }

-- a chunk's bytes behind its head, with the byte of padding behind an odd size
abbrev pub padded : ℕ → ℕ
padded size = size + size % 2

-- samples of a data chunk of this size: a fmt chunk was found, and they are read
unfoldable pub data_of : ℕ → Option Format → Result Chunk Refusal
data_of size None = Err BadFormat
data_of size (Some format) = cond (is_read format) (Ok (Chunk.Data size format)) (Err BadFormat)

-- a chunk of this size behind whose head the file has so many bytes: data needs no padding
unfoldable pub sized_chunk : List ℕ → ℕ → ℕ → Option Format → Result Chunk Refusal
sized_chunk rest size room f =
    cond (is_id rest 0 data_id) (cond (ltb room size) (Err BadSize) (data_of size f))
    (cond (ltb room (padded size)) (Err BadSize) (Ok (Chunk.Other (8 + padded size) (format_after rest size f))))

-- what follows at the rest of a file, which has so many bytes: 10 where it ends and no data chunk was met, 9 where
-- fewer than the eight bytes of a head are left, or a chunk
unfoldable pub chunk_of : List ℕ → ℕ → Option Format → Result Chunk Refusal
chunk_of rest left f =
    cond (eqb left 0) (Err BadFormat)
    (cond (ltb left 8) (Err BadSize) (sized_chunk rest (u32_at rest 4) (left - 8) f))
