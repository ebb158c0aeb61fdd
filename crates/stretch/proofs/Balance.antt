-- What steps add up to (C-16 and C-18). Here:
--   balanced          frames out plus skipped are frames used plus inserted
--   tally-append      of two lists, one behind the other
--   position-used     the place after the last step lies behind the frames used
--   steps-surplus     a call skips or inserts, never both: what it skips or inserts follows from frames used and out
-- Assumes nothing.
use mathlib.Core.Path.{◌≡◌, refl, ap}
use mathlib.Core.Bool.{Bool, true, false, cond, ◌&&◌}
use mathlib.Core.List.{List, [], ◌∷◌, ◌++◌}
use Prim.Native.Nat.{ℕ, zero, suc, ◌+◌, ◌-◌}
use native.Mathlib.Omega.{arith}
use lib.Dec.{eqb, leb}
use lib.IntN.{ℤ}
use lib.Ieee.{lt}
use Rattle.frames.specs.declared.Frames.{Frames}
use Rattle.floats.specs.Numbers.{one}
use Rattle.floats.specs.Steps.{copying_due, skip_count}
use Rattle.period.specs.Rates.{max_required}
use Rattle.stretch.specs.declared.StretchCall.{StretchCall}
use Rattle.stretch.specs.declared.Place.{Place}
use Rattle.stretch.specs.declared.Step.{Step}
use Rattle.stretch.specs.declared.Step.TheVariants.{Copied, Skipped, Inserted, Passed}
use Rattle.stretch.specs.Steps.{frames_out, frames_used, frames_skipped, frames_inserted, stalls, search_at, next_step, after}
use Rattle.stretch.specs.Tally.{Tally, tally}
use Rattle.stretch.specs.Speed.{steps_in, steps, last_place}
use Rattle.stretch.proofs.Progress.{after-position}

-- ---- any list of steps

step-balanced : (s : Step) → frames_out s + frames_skipped s ≡ frames_used s + frames_inserted s
step-balanced (Copied n) = refl
step-balanced (Skipped period k) = omega arith
step-balanced (Inserted period k) = omega arith
step-balanced (Passed period) = omega arith

pub balanced : (ss : List Step) → (tally ss).out + (tally ss).skipped ≡ (tally ss).used + (tally ss).inserted
unfolding tally
balanced [] = refl
balanced (s ∷ ss) = omega (arith, step-balanced s, balanced ss)

-- two tallies added up
abbrev pub added : Tally → Tally → Tally
added t u =
    record {
      out = t.out + u.out;
      used = t.used + u.used;
      skipped = t.skipped + u.skipped;
      inserted = t.inserted + u.inserted;
      passed = t.passed + u.passed;
    }

same-tally : {t u : Tally} → t.out ≡ u.out → t.used ≡ u.used → t.skipped ≡ u.skipped → t.inserted ≡ u.inserted → t.passed ≡ u.passed → t ≡ u
same-tally o d s n p = λ i. record { out = o i; used = d i; skipped = s i; inserted = n i; passed = p i }

pub tally-append : (ss ts : List Step) → tally (ss ++ ts) ≡ added (tally ss) (tally ts)
unfolding tally
tally-append [] ts = same-tally (omega arith) (omega arith) (omega arith) (omega arith) (omega arith)
tally-append (s ∷ ss) ts =
    let rest = tally-append ss ts in
    let out = ap (λ (t : Tally). t.out) rest in
    let used = ap (λ (t : Tally). t.used) rest in
    let skipped = ap (λ (t : Tally). t.skipped) rest in
    let inserted = ap (λ (t : Tally). t.inserted) rest in
    let passed = ap (λ (t : Tally). t.passed) rest in
    same-tally (omega (arith, out)) (omega (arith, used)) (omega (arith, skipped)) (omega (arith, inserted)) (omega (arith, passed))

pub position-used : (u : StretchCall) (x : List ℤ) (h : Place) (ss : List Step) → (last_place u x h ss).position.0 ≡ h.position.0 + (tally ss).used
unfolding last_place tally
position-used u x h [] = omega arith
position-used u x h (s ∷ ss) = omega (arith, position-used u x (after u x h s) ss, after-position u x h s)

-- ---- the steps of a call: no step inserts if the local speed is above 1, else none skips

abbrev OneKind : Bool → Step → Type 0
OneKind true s = frames_inserted s ≡ 0
OneKind false s = frames_skipped s ≡ 0

abbrev OfOneKind : Bool → List Step → Type 0
OfOneKind true ss = (tally ss).inserted ≡ 0
OfOneKind false ss = (tally ss).skipped ≡ 0

none-kind : (b : Bool) → OfOneKind b []
unfolding tally
none-kind true = refl
none-kind false = refl

more-kind : (b : Bool) (s : Step) (ss : List Step) → OneKind b s → OfOneKind b ss → OfOneKind b (s ∷ ss)
unfolding tally
more-kind true s ss e k = omega arith
more-kind false s ss e k = omega arith

module _ (u : StretchCall) (x : List ℤ) where
  abbrev above : Bool
  above = lt one u.speed

  due-kind : (copying b over : Bool) (n period k l : Frames)
      → OneKind b (cond copying (Copied n) (cond b (cond over (Passed period) (Skipped period k)) (Inserted period l)))
  due-kind true true over n period k l = refl
  due-kind true false over n period k l = refl
  due-kind false true true n period k l = refl
  due-kind false true false n period k l = refl
  due-kind false false over n period k l = refl

  next-kind : (h : Place) → OneKind above (next_step u x h)
  unfolding next_step
  next-kind h =
      due-kind (copying_due u.speed h.time_error) above (u.step_over && eqb (skip_count u.speed (search_at u x h).period.0) 0) _ _ _ _

  steps-kind : (n : ℕ) (h : Place) → OfOneKind above (steps_in n u x h)
  unfolding steps_in
  steps-kind zero h = none-kind above
  steps-kind (suc n) h =
      by-due (leb (h.position.0 + max_required u.rate) u.held.0) (stalls (next_step u x h)) (steps_in n u x (after u x h (next_step u x h)))
      (steps-kind n (after u x h (next_step u x h)))
    where
      by-due : (due stall : Bool) (ss : List Step) → OfOneKind above ss → OfOneKind above (cond due (next_step u x h ∷ cond stall [] ss) [])
      by-due false stall ss k = none-kind above
      by-due true true ss k = more-kind above (next_step u x h) [] (next-kind h) (none-kind above)
      by-due true false ss k = more-kind above (next_step u x h) ss (next-kind h) k

kind-surplus : (b : Bool) (ss : List Step) → OfOneKind b ss
    → ((tally ss).skipped ≡ (tally ss).used - (tally ss).out) × ((tally ss).inserted ≡ (tally ss).out - (tally ss).used)
kind-surplus true ss k = (omega (arith, balanced ss), omega (arith, balanced ss))
kind-surplus false ss k = (omega (arith, balanced ss), omega (arith, balanced ss))

pub steps-surplus : (u : StretchCall) (x : List ℤ) (h : Place)
    → let t = tally (steps u x h) in (t.skipped ≡ t.used - t.out) × (t.inserted ≡ t.out - t.used)
unfolding steps
steps-surplus u x h = kind-surplus (lt one u.speed) (steps u x h) (steps-kind u x u.held.0 h)
