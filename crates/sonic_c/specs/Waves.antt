-- The structs of C for the answers of reading and writing a WAVE file. Definitions only. Assumes nothing.
use Rattle.std.specs.Prelude.{ℕ, Result, Ok, Err}
use Rattle.stream.specs.declared.refusal.Refusal.{Refusal}
use Rattle.stream.specs.Refusals.{number_of}
use Rattle.wave.specs.declared.WaveFile.{WaveFile}
use Rattle.wave.specs.declared.WaveRefused.{WaveRefused}
use Rattle.sonic_c.specs.declared.waves.Wave.{Wave}
use Rattle.sonic_c.specs.declared.waves.WaveWritten.{WaveWritten}

-- refused, every number but that of the refusal is 0
unfoldable pub wave_of : Result WaveFile Refusal → Wave
wave_of (Ok file) =
    record { refusal = 0; rate = file.rate; channels = file.channels; frames = file.frames; begin = file.begin }
wave_of (Err refusal) =
    record { refusal = number_of refusal; rate = 0; channels = 0; frames = record { 0 = 0 }; begin = 0 }

unfoldable pub written_of : Result ℕ WaveRefused → WaveWritten
written_of (Ok bytes) = record { refusal = 0; given = 0; bytes = bytes }
written_of (Err r) = record { refusal = number_of r.refusal; given = r.given; bytes = 0 }
