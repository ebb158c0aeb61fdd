-- A reel of a served job, after the flush: flush-serving. Assumes nothing.
use mathlib.Core.Path.{◌≡◌, refl, sym, ◌∙◌, subst}
use mathlib.Core.Bool.{Bool, true, false, cond, true≢false}
use Prim.Native.Nat.{ℕ, ◌+◌, ◌*◌, ◌/◌, ◌≤◌, ◌<◌}
use native.Mathlib.Omega.{arith}
use borrow.Author.Tests.{leb-true}
use Rattle.std.specs.Prelude.{Result}
use Rattle.frames.specs.Areas.{Areas}
use Rattle.period.specs.Rates.{max_required}
use Rattle.stream.specs.declared.refusal.Refused.{Refused}
use Rattle.process.specs.declared.Wrote.{Wrote}
use Rattle.adding.specs.Calls.{flush_call, stream_after, OrderAfter}
use Rattle.plans.specs.declared.Plan.{Plan}
use Rattle.plans.specs.Plans.{block_samples, is_small, limit_of}
use Rattle.serving.specs.Steady.{AreasSized, FlushWent}
use Rattle.serving.proofs.Claims.{flush-served}
use Rattle.reels.specs.declared.reel.Reel.{Reel}
use Rattle.reels.specs.declared.state.RunState.{RunState}
use Rattle.reels.specs.States.{takes, kept, flush_stall, state_in, is_stalled}
use Rattle.reels.specs.Serving.{OnlyTotals, FewHeld, Serving}
use Rattle.reels.specs.Reels.{takes_more, first_held}
use Rattle.reels.proofs.Going.{takes-sound}
use Rattle.reels.proofs.Serving.{becomes, answered-serving}
use Rattle.skimming.specs.Skimming.{Underway}

-- room for the silence of a flush
room : (p : Plan) (held : ℕ) (s : RunState) → FewHeld p held s → takes p held s ≡ true → held + 2 * p.required ≤ p.limit
room p held RunState.Going few e = omega (arith, few, p.calls_fit)
room p held (RunState.Stalled at) few e = omega (arith, leb-true (held + (1 + 2 * p.required)) p.limit e)
room p held (RunState.FlushStalled at) few e = absurd (true≢false (sym e))
room p held (RunState.Refused refusal) few e = absurd (true≢false (sym e))
room p held RunState.ReadFailed few e = absurd (true≢false (sym e))
room p held RunState.WriteFailed few e = absurd (true≢false (sym e))

-- what a flush that stalls leaves
only-stall : (place : ℕ) (s : RunState) → OnlyTotals s → OnlyTotals (flush_stall place s)
only-stall place RunState.Going o = tt
only-stall place (RunState.Stalled at) o = tt
only-stall place (RunState.FlushStalled at) o = tt
only-stall place (RunState.Refused refusal) o = o
only-stall place RunState.ReadFailed o = tt
only-stall place RunState.WriteFailed o = tt

few-stall : (p : Plan) (held place : ℕ) (s : RunState) → FewHeld p held (flush_stall place s)
few-stall p held place RunState.Going = tt
few-stall p held place (RunState.Stalled at) = tt
few-stall p held place (RunState.FlushStalled at) = tt
few-stall p held place (RunState.Refused refusal) = tt
few-stall p held place RunState.ReadFailed = tt
few-stall p held place RunState.WriteFailed = tt

few-after : (p : Plan) (held place : ℕ) (s : RunState) (b : Bool) → held ≡ 0 → 0 < p.required → FewHeld p held (cond b (flush_stall place s) RunState.Going)
few-after p held place s true none some = few-stall p held place s
few-after p held place s false none some = omega (arith, none, some)

module _ (p : Plan) (r t : Reel) (a : Areas) (given : Result Wrote Refused) (z : AreasSized p.small a) (l : Underway p r) where
  pub flush-serving : takes_more p r ≡ true → given ≡ (flush_call r.stream a).answer → OrderAfter given
      → t.stream ≡ stream_after given → t.state ≡ kept r.state (state_in (flush_stall (first_held r.written r.stream) r.state) given) → Serving p t
  flush-serving e same order stream state =
      let s = r.stream in
      let y = l.serving in
      let going = takes-sound p s.held.0 r.state e in
      let few : s.held.0 + 2 * max_required s.rate ≤ limit_of s =
      omega (arith, room p s.held.0 r.state y.few_held e, y.plan_is.required_is, y.plan_is.limit_is) in
      let waits : s.waiting.0 ≤ block_samples / s.channels = omega (arith, l.none_waits going) in
      let sized : AreasSized (is_small s) a = subst (λ (small : Bool). AreasSized small a) y.plan_is.small_is z in
      let never = flush-served s y.steady a sized waits few given same order in
      let some : 0 < p.required = omega (arith, p.required_some) in
      answered-serving p s y.steady y.plan_is _ (FlushWent s) (only-stall (first_held r.written s) r.state y.only_totals)
      (λ o v g. (g.steady, g.same, few-after p v.held.0 (first_held r.written s) r.state (is_stalled o.outcome) g.none some)) t
      given never stream (state ∙ becomes r.state _ going)
