-- C-18, proved over whole runs: `never-stalls`. The claim is in `specs/StepOver.antt`. With it `balance` and `reconciled` hold of
-- every run that steps over. Assumes nothing.
use mathlib.Core.Path.{◌≡◌, refl, sym, ap, ◌∙◌, subst}
use mathlib.Core.Bool.{true, false, false≢true}
use mathlib.Core.List.{List, [], ◌∷◌, ◌++◌}
use Rattle.stream.specs.declared.Setting.{Setting}
use Rattle.stream.specs.declared.Setting.TheVariants.{Speed, Pitch, Volume, StepOver}
use Rattle.stream.specs.State.{State, steps_over}
use Rattle.stream.specs.Settings.{with_setting}
use Rattle.fill.specs.declared.Outcome.{Outcome}
use Rattle.fill.specs.declared.Outcome.TheVariants.{Empty, Copied, Waiting, Stretched, Stalled}
use Rattle.process.specs.Process.{joined, process, write_work, flush_work, cleared}
use Rattle.process.proofs.Claims.{Held}
use Rattle.process.proofs.Telling.{told-exactly}
use Rattle.runs.specs.Ledger.{Call, setting, write, flush, read, Ledger, begun, entry}
use Rattle.runs.specs.Demand.{accepted_of, All, NoWrite, NoFlush}
use Rattle.runs.specs.Balance.{NotStalled}
use Rattle.runs.specs.StepOver.{KeepsOn, StaysOn, NeverStallsClaim}
use Rattle.runs.proofs.Work.{process-over}
use Rattle.runs.proofs.Tracking.{HeldCall}
use Rattle.runs.proofs.Simulation.{calls-held}
use Rattle.runs.proofs.Quiet.{Tells}
use Rattle.runs.proofs.Entries.{EachCall, entries-told}
use Rattle.runs.proofs.Claims.{outcomes-are-book}

abbrev On : State → Type 0
On s = steps_over s.step_over ≡ true

-- ---- one call

work-goes : (s : State) → Held s → On s → NotStalled (process s).told.outcome
work-goes s h on = go (process s).told.outcome (λ e. ((told-exactly s h).stalled.0 e).0)
  where
    go : (o : Outcome) → (o ≡ Stalled → steps_over s.step_over ≡ false) → NotStalled o
    go Empty f = tt
    go Copied f = tt
    go Waiting f = tt
    go Stretched f = tt
    go Stalled f = false≢true (sym (f refl) ∙ on)

call-goes : (l : Ledger) (c : Call) → On l.state → HeldCall l c → Tells NotStalled l c
unfolding write_work flush_work joined
call-goes l (setting v) on h = tt
call-goes l (write samples) on h = work-goes _ h on
call-goes l flush on h = work-goes _ h on
call-goes l (read most) on h = tt

setting-on : (v : Setting) (s : State) → KeepsOn v → On s → On (with_setting v s)
unfolding with_setting
setting-on (Speed x) s k on = on
setting-on (Pitch x) s k on = on
setting-on (Volume x) s k on = on
setting-on (StepOver b) s k on = rw k refl

entry-on : (l : Ledger) (c : Call) → StaysOn c → On l.state → On (entry l c).state
unfolding entry write_work flush_work joined cleared
entry-on l (setting v) k on = setting-on v l.state k on
entry-on l (write samples) k on = ap steps_over (process-over _) ∙ on
entry-on l flush k on = ap steps_over (process-over _) ∙ on
entry-on l (read most) k on = on

-- ---- call after call

behind-goes : (l : Ledger) (cs : List Call) → On l.state → All StaysOn cs → EachCall HeldCall l cs → EachCall (Tells NotStalled) l cs
behind-goes l [] on k h = tt
behind-goes l (c ∷ cs) on k h = (call-goes l c on h.0, behind-goes (entry l c) cs (entry-on l c k.0 on) k.1 h.1)

all_go : (l : Ledger) (before behind : List Call) → All NoWrite before → All NoFlush before → All StaysOn behind
    → EachCall HeldCall l (before ++ setting (StepOver true) ∷ behind) → EachCall (Tells NotStalled) l (before ++ setting (StepOver true) ∷ behind)
unfolding entry with_setting
all_go l [] behind w f k h = (tt, behind-goes (entry l (setting (StepOver true))) behind refl k h.1)
all_go l (setting v ∷ cs) behind w f k h = (tt, all_go (entry l (setting v)) cs behind w.1 f.1 k h.1)
all_go l (write samples ∷ cs) behind w f k h = absurd w.0
all_go l (flush ∷ cs) behind w f k h = absurd f.0
all_go l (read most ∷ cs) behind w f k h = (tt, all_go l cs behind w.1 f.1 k h.1)

pub never-stalls : NeverStallsClaim
unfolding begun
never-stalls rate channels ties a before behind e w f k =
    let start : Ledger = begun rate channels ties in
    let held = subst (EachCall HeldCall start) e (calls-held rate channels ties a.stream a.opens a.events a.allowed) in
    let goes = subst (EachCall (Tells NotStalled) start) (sym e) (all_go start before behind w f k held) in
    subst (All NotStalled) (sym (outcomes-are-book a)) (entries-told NotStalled start (accepted_of a) goes tt)
