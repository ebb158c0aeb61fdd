-- `jobs::arguments::asked` meets its contract: a job that is answered is the one that was checked. Assumes nothing.
use Rattle.std.proofs.Common.{◌≡◌, Bool, true, false, cond, sym, Result, Ok, Err, IfOk}
use Rattle.stream.specs.Refusals.{rate_bad, channels_bad, within}
use Rattle.floats.specs.Settings.{min_speed, max_speed, min_pitch, max_pitch, min_volume, max_volume}
use Rattle.jobs.specs.declared.Job.{Job}
use Rattle.jobs.specs.declared.Misuse.{Misuse}
use Rattle.jobs.specs.declared.Misuse.TheVariants.{Rate, Channels, Speed, Pitch, Volume}
use Rattle.jobs.specs.Arguments.{asked_of}
use Rattle.jobs.proofs.arguments.asked.Goals as goal

-- ---- what a checked job is

same-job : (j k : Job) → asked_of j ≡ Ok k → j ≡ k
unfolding asked_of
same-job j k =
    go (rate_bad j.rate) (channels_bad j.channels) (within min_speed max_speed j.speed) (within min_pitch max_pitch j.pitch)
    (within min_volume max_volume j.volume)
  where
    go : (rate channels speed pitch volume : Bool)
        → cond rate (Err Rate) (cond channels (Err Channels)
        (cond speed (cond pitch (cond volume (Ok j) (Err Volume)) (Err Pitch)) (Err Speed))) ≡ Ok k → j ≡ k
    go true _ _ _ _ e = cc
    go false true _ _ _ e = cc
    go false false false _ _ e = cc
    go false false true false _ e = cc
    go false false true true false e = cc
    go false false true true true e = cc

in-range : (j : Job) (r : Result Job Misuse) → r ≡ asked_of j → IfOk r (λ k. asked_of k ≡ Ok k)
in-range j (Ok k) e = let same = same-job j k (sym e) in cc
in-range j (Err misuse) e = tt

pub returns : goal.returns
returns g c = in-range c.job.result c.checked.result c.checked.ensures
