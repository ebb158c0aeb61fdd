-- The bytes of an input that are read. Definitions only. Assumes nothing.
use Rattle.std.specs.Prelude.{◌≡◌, Bool, true, false, List, ℕ, ◌-◌, ◌/◌, ◌%◌, ◌^◌, ◌<◌, min, get_or}
use Rattle.inputs.specs.declared.Source.{Source}
use Rattle.inputs.specs.declared.Source.TheVariants.{Raw, Wave}

-- raw PCM of which the first bytes stand ready, as a number and their count
abbrev pub raw_source : ℕ → ℕ → Source
raw_source first ready = Raw first ready

-- a WAVE file, of whose data chunk nothing was read
abbrev pub wave_source : ℕ → Source
wave_source size = Wave size size

-- whether it is a WAVE file
abbrev pub is_wave : Source → Bool
is_wave (Raw first ready) = false
is_wave (Wave size left) = true

-- the size of the data chunk, and the bytes of it that were not read yet
abbrev pub size_of : Source → ℕ
size_of (Raw first ready) = 0
size_of (Wave size left) = size

abbrev pub left_of : Source → ℕ
left_of (Raw first ready) = 0
left_of (Wave size left) = left

-- the number of the first bytes, and how many of them stand ready
abbrev pub first_of : Source → ℕ
first_of (Raw first ready) = first
first_of (Wave size left) = 0

abbrev pub ready_of : Source → ℕ
ready_of (Raw first ready) = ready
ready_of (Wave size left) = 0

-- the bytes of a block that are read: `most`, or what is left of a WAVE file
unfoldable pub block_of : Source → ℕ → ℕ
block_of (Raw first ready) most = most
block_of (Wave size left) most = min left most

-- after a block of n bytes: none stand ready
unfoldable pub source_after : ℕ → Source → Source
source_after n (Raw first ready) = Raw first 0
source_after n (Wave size left) = Wave size (left - n)

-- a block begins with the n lowest bytes of a number, the lowest first
pub record Begins (number n : ℕ) (block : List ℕ) : Type 0 where
  pub byte : (i : ℕ) → i < n → get_or block i 0 ≡ number / 256 ^ i % 256
