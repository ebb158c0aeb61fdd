-- What is told of a run. Definitions only. Assumes nothing.
use Rattle.std.specs.Prelude.{Bool, cond, ◌&&◌, ◌==◌}
use Rattle.inputs.specs.Sources.{left_of}
use Rattle.reels.specs.declared.reel.Reel.{Reel}
use Rattle.reels.specs.States.{sound, fine}
use Rattle.say.specs.declared.status.Status.{Status}
use Rattle.say.specs.declared.status.Status.TheVariants.{Fine, Incomplete}

-- whether the track is whole: nothing was refused, nothing failed, and the data chunk of a WAVE file came whole
unfoldable pub whole_of : Reel → Bool
whole_of r = left_of r.source == 0 && sound r.state

-- the status: fine; or incomplete, with a partial frame, a data chunk that did not come whole, a failed read or write, a
-- refusal, or a run that ended stalled
unfoldable pub status_of : Reel → Status
status_of r = cond (r.partial == 0 && (left_of r.source == 0 && fine r.state)) Fine Incomplete
