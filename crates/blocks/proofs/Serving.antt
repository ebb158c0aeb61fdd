-- A reel of a served job, in a write: takes_one, it has room for a frame; write-serving, it is of a served job again. Assumes nothing.
use Rattle.std.proofs.Common.{◌≡◌, ℕ, ◌+◌, ◌*◌, ◌/◌, ◌<◌, ◌≤◌, Bool, true, false, cond, ◌⊎◌, List, length, sym, refl, ap, ◌∙◌, subst, ⊎_elim, true≢false, arith, leb-true, Result}
use lib.Ieee.{Float}
use Rattle.frames.specs.Areas.{Areas}
use Rattle.period.specs.Rates.{max_required}
use Rattle.stream.specs.declared.SonicStream.{SonicStream}
use Rattle.fill.specs.declared.Told.{Told}
use Rattle.fill.specs.declared.Outcome.TheVariants.{Stalled}
use Rattle.stream.specs.declared.refusal.Refused.{Refused}
use Rattle.process.specs.declared.Wrote.{Wrote}
use Rattle.adding.specs.Calls.{write_call, stream_after, OrderAfter}
use Rattle.plans.specs.declared.Plan.{Plan}
use Rattle.plans.specs.Plans.{block_samples, is_small, limit_of}
use Rattle.serving.specs.Steady.{AreasSized, WriteWent}
use Rattle.serving.proofs.Claims.{write-served}
use Rattle.reels.specs.declared.reel.Reel.{Reel}
use Rattle.reels.specs.declared.state.RunState.{RunState}
use Rattle.reels.specs.States.{takes, kept, state_in, is_stalled}
use Rattle.reels.specs.Serving.{FewHeld, Serving}
use Rattle.reels.specs.Reels.{takes_more}
use Rattle.reels.proofs.Going.{takes-sound}
use Rattle.reels.proofs.Serving.{becomes, answered-serving}

-- ---- room for a frame

room : (p : Plan) (held : ℕ) (s : RunState) → FewHeld p held s → takes p held s ≡ true → held + 1 ≤ p.limit
room p held RunState.Going few e = omega (arith, few, p.calls_fit)
room p held (RunState.Stalled at) few e = omega (arith, leb-true (held + (1 + 2 * p.required)) p.limit e)
room p held (RunState.FlushStalled at) few e = absurd (true≢false (sym e))
room p held (RunState.Refused refusal) few e = absurd (true≢false (sym e))
room p held RunState.ReadFailed few e = absurd (true≢false (sym e))
room p held RunState.WriteFailed few e = absurd (true≢false (sym e))

pub takes_one : (p : Plan) (r : Reel) → Serving p r → takes_more p r ≡ true → r.stream.held.0 + 1 ≤ p.limit
takes_one p r y e = room p r.stream.held.0 r.state y.few_held e

-- ---- a write

-- what is left after a write that stalled, or did not
few-after : (p : Plan) (s : SonicStream) (at n : ℕ) → p.required ≡ max_required s.rate → (o : Told) (t : SonicStream) (b : Bool) → is_stalled o.outcome ≡ b
    → ((o.outcome ≡ Stalled) × (t.held.0 ≡ s.held.0 + n)) ⊎ (t.held.0 < max_required s.rate)
    → FewHeld p t.held.0 (cond b (RunState.Stalled at) RunState.Going)
few-after p s at n required o t true e left = tt
few-after p s at n required o t false e left =
    ⊎_elim (λ h. absurd (true≢false (ap is_stalled (sym h.0) ∙ e))) (λ h. rw required h) left

pub write-serving : (p : Plan) (r t : Reel) (samples : List Float) (a : Areas) (at : ℕ) (given : Result Wrote Refused) → AreasSized p.small a
    → r.stream.waiting.0 ≤ block_samples / p.channels → r.stream.held.0 + length samples / p.channels ≤ p.limit
    → takes_more p r ≡ true → Serving p r → given ≡ (write_call r.stream samples a).answer → OrderAfter given
    → t.stream ≡ stream_after given → t.state ≡ kept r.state (state_in (RunState.Stalled at) given) → Serving p t
write-serving p r t samples a at given z waits few e y same order stream state =
    let s = r.stream in
    let within : s.held.0 + length samples / s.channels ≤ limit_of s =
    subst (λ (m : ℕ). s.held.0 + length samples / s.channels ≤ m) y.plan_is.limit_is
    (subst (λ (n : ℕ). s.held.0 + length samples / n ≤ p.limit) y.plan_is.channels_is few) in
    let block : s.waiting.0 ≤ block_samples / s.channels = subst (λ (n : ℕ). s.waiting.0 ≤ block_samples / n) y.plan_is.channels_is waits in
    let sized : AreasSized (is_small s) a = subst (λ (small : Bool). AreasSized small a) y.plan_is.small_is z in
    let never = write-served s y.steady a sized block samples within given same order in
    let sound = takes-sound p s.held.0 r.state e in
    answered-serving p s y.steady y.plan_is _ (WriteWent s (length samples / s.channels)) tt
    (λ o u g. (g.steady, g.same, few-after p s _ _ y.plan_is.required_is o u (is_stalled o.outcome) refl g.left)) t given never stream
    (state ∙ becomes r.state _ sound)
