-- Calls that answer 'copied' or 'empty': their frames pass through rate and volume alone. Assumes nothing.
use mathlib.Core.Path.{◌≡◌, refl, sym, ap, ◌∙◌, subst}
use mathlib.Core.List.{List, [], ◌∷◌, ◌++◌, map}
use Prim.Native.Nat.{ℕ, ◌*◌}
use native.Mathlib.Omega.{arith}
use borrow.Author.Tests.{eqb-true}
use lib.IntN.{pos}
use lib.Ieee.{Float}
use lib.ListN.{length, take, replicate}
use lib.Seq.{drop-length}
use Rattle.frames.specs.Framing.{Frame}
use Rattle.floats.specs.Write.{sample_in}
use Rattle.floats.specs.Flush.{expected_frames}
use Rattle.period.specs.Rates.{max_required}
use Rattle.stretch.specs.Speed.{stalled}
use Rattle.stream.specs.declared.Setting.{Setting}
use Rattle.stream.specs.declared.Setting.TheVariants.{Speed, Pitch, Volume, StepOver}
use Rattle.stream.specs.State.{State}
use Rattle.stream.specs.Settings.{with_setting}
use Rattle.fill.specs.declared.Outcome.{Outcome}
use Rattle.fill.specs.declared.Outcome.TheVariants.{Stretched, Stalled}
use Rattle.fill.specs.Taking.{Taken, removed, nothing, copied, steps_at, stretched, speed_at, taken}
use Rattle.process.specs.Process.{Made, whole_frames, joined, counting, finished}
use Rattle.process.specs.Process.{process, write_work, flush_work, expected, cleared}
use Rattle.runs.specs.Ledger.{Call, setting, write, flush, read, Ledger, entry}
use Rattle.runs.specs.Demand.{CopiedOrEmpty}
use Rattle.runs.proofs.Work.{cond_cases, setting-cases, taken-cases, bare, taken-leaves, process-rate, process-channels}
use Rattle.runs.proofs.Passage.{Short, Passage, passed, all, passed-short}

-- ---- such a call copies its input

record Copies (s : State) (t : Taken) : Type 0 where
  frames : t.frames ≡ s.input
  input : t.state.input ≡ []

none-of-length : (fs : List Frame) → length fs ≡ 0 → fs ≡ []
none-of-length [] e = refl
none-of-length (f ∷ fs) e = absurd (omega arith)

stretched-loud : (x : Float) (s : State) → CopiedOrEmpty (stretched x s).told.outcome → ⊥
unfolding stretched
stretched-loud x s = cond_cases (λ (o : Outcome). CopiedOrEmpty o → ⊥) (stalled (steps_at x s)) Stalled Stretched (λ e q. q) (λ e q. q)

taken-copies : (s : State) → CopiedOrEmpty (taken s).told.outcome → Copies s (taken s)
unfolding nothing copied removed
taken-copies s =
    taken-cases s (λ (t : Taken). CopiedOrEmpty t.told.outcome → Copies s t)
    (λ e q.
    let none : s.input ≡ [] = none-of-length s.input (eqb-true (length s.input) 0 e) in
    record { frames = sym none; input = none })
    (λ q. absurd q) (λ q. absurd (stretched-loud (speed_at s) s q)) (λ q. record { frames = refl; input = drop-length s.input })

-- ---- and its frames pass through

abbrev passage_of : State → List Frame → Passage
passage_of s made = record { state = bare s; made = made }

abbrev pub passage_in : Ledger → Passage
passage_in l = passage_of l.state l.made

process-passes : (s : State) (made : List Frame) (cut : List Frame → List Frame) → CopiedOrEmpty (process s).told.outcome
    → (passage_of (process s).state (made ++ cut (process s).frames) ≡ passed cut (passage_of s made) s.input)
    × ((process s).state.input ≡ [])
unfolding process finished counting bare passed
process-passes s made cut q =
    let t : Taken = taken s in
    let c : Copies s t = taken-copies s q in
    let same : passage_of t.state made ≡ passage_of s made = ap (λ (x : State). record { state = x; made = made }) (taken-leaves s).rest in
    (ap (λ (x : Passage). passed cut x t.frames) same ∙ ap (passed cut (passage_of s made)) c.frames, c.input)

-- ---- calls of a ledger

-- of this rate and channels, with nothing held and a short tail
pub record NothingHeld (rate channels : ℕ) (l : Ledger) : Type 0 where
  pub rate_is : l.state.rate ≡ rate
  pub channels_is : l.state.channels ≡ channels
  pub input : l.state.input ≡ []
  pub short : Short l.state.tail

-- what is said of the outcome of a write or a flush
abbrev pub Tells : (Outcome → Type 0) → Ledger → Call → Type 0
Tells P l (setting v) = Unit {0}
Tells P l (write samples) = P (write_work samples l.state).told.outcome
Tells P l flush = P (flush_work l.state).told.outcome
Tells P l (read most) = Unit {0}

abbrev pub QuietCall : Ledger → Call → Type 0
QuietCall l c = Tells CopiedOrEmpty l c

-- after a setting
unfoldable pub passed_setting : Setting → Passage → Passage
passed_setting v q = record { state = with_setting v q.state; made = q.made }

abbrev pub samples_in : List (List Float) → List Frame
samples_in fs = map (map sample_in) fs

abbrev silence : State → List Frame
silence s = replicate (2 * max_required s.rate) (replicate s.channels (pos 0))

-- after a flush
unfoldable pub passed_flush : Passage → Passage
passed_flush q =
    let p : Passage = passed (take (expected q.state)) q (silence q.state) in
    record { state = cleared p.state; made = p.made }

bare-setting : (v : Setting) (s : State) → bare (with_setting v s) ≡ with_setting v (bare s)
unfolding bare with_setting
bare-setting (Speed x) s = refl
bare-setting (Pitch x) s = refl
bare-setting (Volume x) s = refl
bare-setting (StepOver on) s = refl

module _ {rate channels : ℕ} {l : Ledger} (h : NothingHeld rate channels l) where
  pub setting-passes : (v : Setting) → (passage_in (entry l (setting v)) ≡ passed_setting v (passage_in l)) × NothingHeld rate channels (entry l (setting v))
  unfolding entry passed_setting
  setting-passes v = (
    ap (λ (s : State). record { state = s; made = l.made }) (bare-setting v l.state),
    setting-cases (λ (s : State). NothingHeld rate channels (record { state = s; made = l.made; outcomes = l.outcomes })) l.state
        (λ speed pitch volume over at. record { rate_is = h.rate_is; channels_is = h.channels_is; input = h.input; short = h.short }) v,
  )

  pub write-passes : (samples : List Float) → QuietCall l (write samples)
      → (passage_in (entry l (write samples)) ≡ passed all (passage_in l) (samples_in (whole_frames channels samples)))
      × NothingHeld rate channels (entry l (write samples))
  unfolding entry write_work joined bare
  write-passes samples q =
      let new : ℕ → List Frame = λ k. samples_in (whole_frames k samples) in
      let fs : List Frame = new l.state.channels in
      let s : State = joined fs l.state in
      let m : Made = process s in
      let p = process-passes s l.made all q in
      let e : passage_of m.state (l.made ++ m.frames) ≡ passed all (passage_in l) (new channels) =
      p.0 ∙ ap (λ (i : List Frame). passed all (passage_in l) (i ++ fs)) h.input
      ∙ ap (λ (k : ℕ). passed all (passage_in l) (new k)) h.channels_is in
      let short : Short m.state.tail =
      subst Short (sym (ap (λ (c : Passage). c.state.tail) e)) (passed-short (passage_in l) all (new channels) h.short) in
      (e, record { rate_is = process-rate s ∙ h.rate_is; channels_is = process-channels s ∙ h.channels_is; input = p.1; short = short })

  pub flush-passes : QuietCall l flush → (passage_in (entry l flush) ≡ passed_flush (passage_in l)) × NothingHeld rate channels (entry l flush)
  unfolding entry flush_work joined cleared expected bare passed_flush
  flush-passes q =
      let fs : List Frame = silence l.state in
      let s : State = joined fs l.state in
      let m : Made = process s in
      let n : ℕ = expected l.state in
      let found : n ≡ expected (bare l.state) =
      ap (λ (i : List Frame). expected_frames (length i) (length l.state.tail) l.state.speed l.state.pitch) h.input in
      let p = process-passes s l.made (take n) q in
      let e : passage_of m.state (l.made ++ take n m.frames) ≡ passed (take (expected (bare l.state))) (passage_in l) fs =
      p.0 ∙ ap (λ (i : List Frame). passed (take n) (passage_in l) (i ++ fs)) h.input
      ∙ ap (λ (k : ℕ). passed (take k) (passage_in l) fs) found in (
        ap (λ (x : Passage). record { state = cleared x.state; made = x.made }) e,
        record { rate_is = process-rate s ∙ h.rate_is; channels_is = process-channels s ∙ h.channels_is; input = refl; short = omega arith },
      )
