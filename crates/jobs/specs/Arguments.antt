-- The jobs that arguments may ask for. Definitions only. Assumes nothing.
use Rattle.std.specs.Prelude.{◌≡◌, cond, Result, Ok, Err}
use Rattle.floats.specs.Settings.{min_speed, max_speed, min_pitch, max_pitch, min_volume, max_volume}
use Rattle.stream.specs.Refusals.{rate_bad, channels_bad, within}
use Rattle.jobs.specs.declared.Job.{Job}
use Rattle.jobs.specs.declared.Asked.{Asked}
use Rattle.jobs.specs.declared.Misuse.{Misuse}
use Rattle.jobs.specs.declared.Misuse.TheVariants.{Rate, Channels, Speed, Pitch, Volume}

-- the job, or the first number that is out of its range
unfoldable pub asked_of : Job → Result Job Misuse
asked_of j =
    cond (rate_bad j.rate) (Err Rate)
    (cond (channels_bad j.channels) (Err Channels)
    (cond (within min_speed max_speed j.speed)
    (cond (within min_pitch max_pitch j.pitch)
    (cond (within min_volume max_volume j.volume) (Ok j) (Err Volume))
    (Err Pitch))
    (Err Speed)))

-- a job that is asked for has each number in its range
abbrev pub AskedInRange : Asked → Type 0
AskedInRange Asked.Help = Unit {0}
AskedInRange Asked.Version = Unit {0}
AskedInRange (Asked.Run j) = asked_of j ≡ Ok j
