-- The stream of a job: a fresh one with the job's settings. Definitions only. Assumes nothing.
use Rattle.std.specs.Prelude.{ℕ}
use Rattle.stream.specs.declared.Setting.{Setting}
use Rattle.stream.specs.declared.Setting.TheVariants.{Speed, Pitch, Volume, StepOver}
use Rattle.stream.specs.declared.SonicStream.{SonicStream}
use Rattle.stream.specs.Stream.{stream_of, unlent}
use Rattle.stream.specs.Settings.{with_setting}
use Rattle.jobs.specs.declared.Job.{Job}

-- a job at the rate and with the channels of a WAVE file
unfoldable pub with_format : Job → ℕ → ℕ → Job
with_format j rate channels = record j { rate = rate; channels = channels }

-- a stream with one setting changed
abbrev pub with_one : SonicStream → Setting → SonicStream
with_one s v = stream_of (with_setting v (unlent s)) s.waiting.0

-- speed, then pitch, then volume, then whether a period that gives no frame is stepped over
abbrev pub settled : SonicStream → Job → SonicStream
settled s j =
    with_one
    (with_one (with_one (with_one s (Speed j.speed)) (Pitch j.pitch)) (Volume j.volume))
    (StepOver j.step_over)
