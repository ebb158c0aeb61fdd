-- The size of a track that is a WAVE file. Definitions only. Assumes nothing.
use Rattle.std.specs.Prelude.{cond, ℕ, ◌*◌, ◌-◌, ◌^◌, ltb, Option, None, Some}

-- the most bytes that the sizes of a head can tell: the size behind RIFF is 36 more
abbrev pub most_bytes : ℕ
most_bytes = 2 ^ 32 - 37

-- the bytes of so many frames of so many channels, if they are no more
unfoldable pub track_bytes : ℕ → ℕ → Option ℕ
track_bytes channels frames = cond (ltb most_bytes (frames * (2 * channels))) None (Some (frames * (2 * channels)))
