-- A stream that was opened stays in order, and its plan serves it.
use Rattle.std.proofs.Common.{sym, subst, ◌∙◌}
use Rattle.stream.proofs.Stays.{open-in-order}
use Rattle.stream.specs.declared.SonicStream.{SonicStream}
use Rattle.stream.specs.declared.Setting.TheVariants.{Speed, Pitch, Volume, StepOver}
use Rattle.jobs.specs.declared.Job.{Job}
use Rattle.jobs.specs.Settings.{settled}
use Rattle.serving.specs.Steady.{Fresh}
use Rattle.serving.proofs.Fresh.{fresh-opened, fresh_set}
use Rattle.skimming.proofs.Starting.{ready_of}
use Rattle.skim.proofs.served.Goals as goal

-- a fresh stream with the job's settings is fresh
fresh-settled : (s : SonicStream) (job : Job) → Fresh s → Fresh (settled s job)
fresh-settled s job f =
    fresh_set _ (StepOver job.step_over) (fresh_set _ (Volume job.volume) (fresh_set _ (Pitch job.pitch) (fresh_set s (Speed job.speed) f)))

pub settle-stream-requires : goal.settle-stream-requires
settle-stream-requires c =
    let job = c.args.job in
    open-in-order job.rate job.channels job.ties _ (sym c.open.ensures ∙ c.in-Ok.is)

pub mapped-requires : goal.mapped-requires
mapped-requires c =
    let job = c.args.job in
    let opened = fresh-opened job.rate job.channels job.ties _ (sym c.open.ensures ∙ c.in-Ok.is) in
    let fresh = subst Fresh (sym c.settle-stream.ensures.settled) (fresh-settled _ job opened) in
    (λ map. ready_of c.settle-stream.result c.args.source map c.in-Some.plan fresh c.in-Some.ensures)
