-- What the functions of `process` say of a stream by its state. Definitions only. Assumes nothing.
use Rattle.std.specs.Prelude.{[], ℕ, replicate}
use Rattle.stream.specs.declared.SonicStream.{SonicStream}
use Rattle.stream.specs.Stream.{stream_of, unlent}
use Rattle.process.specs.Process.{joined}

-- the stream s when n frames have joined its input
abbrev pub joined_stream : ℕ → SonicStream → SonicStream
joined_stream n s = stream_of (joined (replicate n []) (unlent s)) s.waiting.0
