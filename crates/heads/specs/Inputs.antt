-- What the skim tool's input is taken for. Definitions only. Assumes nothing.
use Rattle.std.specs.Prelude.{◌≡◌, true, false}
use Rattle.inputs.specs.Sources.{is_wave, size_of, wave_source}
use Rattle.chunks.specs.Chunks.{is_read}
use Rattle.heads.specs.declared.Input.{Input}

-- raw PCM has no data chunk; a WAVE file is of a format that is read, and nothing of its data chunk was read
abbrev pub Taken : Input → Type 0
Taken (Input.Raw source) = is_wave source ≡ false
Taken (Input.Wave source format) = (is_read format ≡ true) × (source ≡ wave_source (size_of source))
