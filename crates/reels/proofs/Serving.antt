-- A reel of a served job, output-of, stays one: serving-moved and serving-stays, in a state that stayed or failed; answered-serving, after a call. Assumes nothing.
use Rattle.std.proofs.Common.{◌≡◌, ℕ, Bool, true, false, cond, sym, refl, ap, ◌∙◌, subst, Result, Ok, Err}
use Rattle.stream.specs.declared.SonicStream.{SonicStream}
use Rattle.fill.specs.declared.Told.{Told}
use Rattle.stream.specs.declared.refusal.Refused.{Refused}
use Rattle.process.specs.declared.Wrote.{Wrote}
use Rattle.adding.specs.Calls.{stream_after}
use Rattle.plans.specs.Plans.{is_small, output_area, IsPlanOf}
use Rattle.plans.specs.declared.Plan.{Plan}
use Rattle.serving.specs.Steady.{Steady, SameJob, NeverRefused}
use Rattle.serving.proofs.Served.{plan-same}
use Rattle.reels.specs.declared.reel.Reel.{Reel}
use Rattle.reels.specs.declared.state.RunState.{RunState}
use Rattle.reels.specs.States.{sound, kept, is_stalled, state_in}
use Rattle.reels.specs.Serving.{OnlyTotals, FewHeld, Serving}

-- its output is that of its plan
pub output-of : (p : Plan) (r : Reel) (samples : ℕ) → Serving p r → samples ≡ output_area p.small → samples ≡ output_area (is_small r.stream)
output-of p r samples y z = z ∙ ap output_area y.plan_is.small_is

-- a state that is sound is the one before
few-stays : (p : Plan) (held : ℕ) (s t : RunState) → (sound t ≡ true → t ≡ s) → FewHeld p held s → FewHeld p held t
few-stays p held s RunState.Going same f = subst (FewHeld p held) (sym (same refl)) f
few-stays p held s (RunState.Stalled at) same f = tt
few-stays p held s (RunState.FlushStalled at) same f = tt
few-stays p held s (RunState.Refused refusal) same f = tt
few-stays p held s RunState.ReadFailed same f = tt
few-stays p held s RunState.WriteFailed same f = tt

pub only_kept : (s next : RunState) → OnlyTotals next → OnlyTotals s → OnlyTotals (kept s next)
only_kept s next n o = go (sound s)
  where
    go : (b : Bool) → OnlyTotals (cond b next s)
    go true = n
    go false = o

module _ (p : Plan) (r r' : Reel) (stays : sound r'.state ≡ true → r'.state ≡ r.state) (only : OnlyTotals r.state → OnlyTotals r'.state) where
  -- of a stream of the same job, which holds as many frames
  pub serving-moved : Steady r'.stream → SameJob r.stream r'.stream → r'.stream.held.0 ≡ r.stream.held.0 → Serving p r → Serving p r'
  serving-moved steady same held y =
      record {
        steady = steady;
        plan_is = plan-same r.stream r'.stream same p y.plan_is;
        few_held =
            subst (λ (n : ℕ). FewHeld p n r'.state) (sym held) (few-stays p r.stream.held.0 r.state r'.state stays y.few_held);
        only_totals = only y.only_totals;
      }

  -- of the same stream
  pub serving-stays : r'.stream ≡ r.stream → Serving p r → Serving p r'
  serving-stays e y =
      serving-moved (subst Steady (sym e) y.steady)
      (subst (SameJob r.stream) (sym e) (record { rate = refl; channels = refl; speed = refl; pitch = refl }))
      (ap (λ (s : SonicStream). s.held.0) e) y

-- ---- a call

-- the state that a sound one becomes
pub becomes : (s next : RunState) → sound s ≡ true → kept s next ≡ next
becomes s next e = ap (λ (b : Bool). cond b next s) e

-- after a call on s that is refused for a total alone, and otherwise is done as P says, which leaves few frames unless the call stalled
module _ (p : Plan) (s : SonicStream) (y : Steady s) (plan : IsPlanOf s p) (stall : RunState) (P : Told → SonicStream → Type 0) (only : OnlyTotals stall)
    (done : (o : Told) (t : SonicStream) → P o t → Steady t × SameJob s t × FewHeld p t.held.0 (cond (is_stalled o.outcome) stall RunState.Going)) where
  only-after : (b : Bool) → OnlyTotals (cond b stall RunState.Going)
  only-after true = only
  only-after false = tt

  pub answered-serving : (r : Reel) (answer : Result Wrote Refused) → NeverRefused s P answer → r.stream ≡ stream_after answer → r.state ≡ state_in stall answer → Serving p r
  answered-serving r (Err refused) (is-total, same) stream state =
      let e : r.stream ≡ s = stream ∙ same in
      record {
        steady = subst Steady (sym e) y;
        plan_is = subst (λ (t : SonicStream). IsPlanOf t p) (sym e) plan;
        few_held = subst (FewHeld p r.stream.held.0) (sym state) tt;
        only_totals = subst OnlyTotals (sym state) is-total;
      }
  answered-serving r (Ok wrote) went stream state =
      let o = wrote.told in
      let d = done o wrote.stream went in
      record {
        steady = subst Steady (sym stream) d.0;
        plan_is = subst (λ (t : SonicStream). IsPlanOf t p) (sym stream) (plan-same s wrote.stream d.1 p plan);
        few_held =
            subst (FewHeld p r.stream.held.0) (sym state)
            (subst (λ (u : SonicStream). FewHeld p u.held.0 (cond (is_stalled o.outcome) stall RunState.Going)) (sym stream) d.2);
        only_totals = subst OnlyTotals (sym state) (only-after (is_stalled o.outcome));
      }
