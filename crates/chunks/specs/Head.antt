-- docs/RULES.md, "WAVE files": the head of a file that is written. Definitions only. Assumes nothing.
use Rattle.std.specs.Prelude.{List, ◌++◌, ℕ, ◌+◌, ◌*◌}
use Rattle.chunks.specs.Numbers.{two_bytes, four_bytes}
use Rattle.chunks.specs.Chunks.{riff_id, wave_id, format_id, data_id}

-- RIFF, the size of what follows these eight bytes, and WAVE, of a file whose samples take `size` bytes
abbrev pub riff_part : ℕ → List ℕ
riff_part size = riff_id ++ four_bytes (36 + size) ++ wave_id

-- a fmt chunk of 16 bytes: tag 1, channels, rate, the bytes of a second, the bytes of a frame, 16 bits
abbrev pub format_part : ℕ → ℕ → List ℕ
format_part rate channels =
    format_id ++ four_bytes 16 ++ two_bytes 1 ++ two_bytes channels ++ four_bytes rate
    ++ four_bytes (2 * rate * channels) ++ two_bytes (2 * channels) ++ two_bytes 16

-- the head of the data chunk
abbrev pub data_part : ℕ → List ℕ
data_part size = data_id ++ four_bytes size

-- the 44 bytes before the samples
unfoldable pub head_of : ℕ → ℕ → ℕ → List ℕ
head_of rate channels size = riff_part size ++ format_part rate channels ++ data_part size
