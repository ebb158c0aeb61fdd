-- How many frames a call's work stages, makes and leaves. Here:
--   taken-most        it stages no more than `growth` frames of each that it holds, if its stretch does not
--   Kept, Used, Left, process-left      it stalls or holds too few and keeps its input, or leaves fewer frames than a search looks at
--   made-most         it makes m frames at most, if tail and staged frames do in the share N to O
--   tail-most         it leaves no more in the tail than rate conversion keeps
-- Assumes nothing.
use mathlib.Core.Path.{◌≡◌, refl, sym, ap}
use mathlib.Core.Bool.{Bool, true, false, cond}
use mathlib.Core.Logic.{◌⊎◌, inl, inr}
use mathlib.Core.List.{List, [], append-nil}
use Prim.Native.Nat.{ℕ, ◌+◌, ◌-◌, ◌*◌, ◌≤◌, ◌<◌}
use native.Mathlib.Nat.{mul-le-mul_right}
use native.Mathlib.Omega.{arith}
use borrow.Author.Tests.{eqb-true, eqb-false, ltb-true, ltb-false}
use lib.Dec.{T, eqb, ltb}
use lib.Ieee.{Float, le}
use lib.ListN.{length, drop, length-drop, length-map}
use Rattle.frames.specs.Framing.{Frame, flat}
use Rattle.frames.proofs.Framing.{length-frames_of}
use Rattle.floats.specs.Settings.{min_pitch, max_pitch}
use Rattle.floats.specs.Write.{play_time_left, speed_changes}
use Rattle.rate.specs.Halving.{rates_of}
use Rattle.rate.specs.Tail.{PositionInOrder}
use Rattle.rate.specs.Conversion.{Conversion, adjust_rate}
use Rattle.rate.proofs.Most.{adjust-most, adjust-rest}
use Rattle.period.specs.Rates.{max_required}
use Rattle.stretch.specs.declared.Stretch.{Stretch}
use Rattle.stretch.specs.Speed.{frames_made, last_place, stalled, answer_for}
use Rattle.stretch.proofs.Claims.{steps-complete, position-held}
use Rattle.stream.specs.State.{State}
use Rattle.fill.specs.declared.Outcome.{Outcome}
use Rattle.fill.specs.declared.Outcome.TheVariants.{Empty, Waiting, Stretched, Stalled}
use Rattle.fill.specs.Taking.{Taken, nothing, removed, copied, stretched, stepped, taken_at, taken, speed_at, call_at, place_of, steps_at}
use Rattle.process.specs.Process.{counting, finished, process}
use Rattle.process.proofs.States.{Keeps}
use Rattle.process.proofs.Taken.{taken-keeps}
use Rattle.process.proofs.Claims.{Held, held-ready}

module _ (s : State) where
  abbrev held : ℕ
  held = length s.input

  -- ---- staged

  module _ (growth : ℕ) (some : 1 ≤ growth)
      (grows : speed_changes (speed_at s) ≡ true → max_required s.rate ≤ length s.input → frames_made (steps_at (speed_at s) s) ≤ growth * length s.input) where
    abbrev Few : Taken → Type 0
    Few t = length t.frames ≤ growth * held

    nothing-few : (o : Outcome) → Few (nothing o s)
    unfolding nothing
    nothing-few o = omega arith

    copied-few : Few (copied s)
    unfolding copied
    copied-few = omega (arith, mul-le-mul_right held some)

    stretched-few : speed_changes (speed_at s) ≡ true → max_required s.rate ≤ held → Few (stretched (speed_at s) s)
    unfolding stretched
    stretched-few e h = rw length-frames_of (grows e h)

    at-few : (none changes few : Bool) → speed_changes (speed_at s) ≡ changes → ltb held (max_required s.rate) ≡ few
        → Few (cond none (nothing Empty s) (cond changes (cond few (nothing Waiting s) (stretched (speed_at s) s)) (copied s)))
    at-few true changes few e f = nothing-few Empty
    at-few false true true e f = nothing-few Waiting
    at-few false true false e f = stretched-few e (ltb-false held (max_required s.rate) f)
    at-few false false few e f = copied-few

    pub taken-most : length (taken s).frames ≤ growth * length s.input
    unfolding taken taken_at
    taken-most = at-few (eqb held 0) (speed_changes (speed_at s)) (ltb held (max_required s.rate)) refl refl

-- ---- left

-- the frames of s and their play time stay, `input` and `play`: a stall, or too few frames for a search
pub record Kept (s : State) (o : Outcome) (input : List Frame) (play : Float) : Type 0 where
  pub input_is : length input ≡ length s.input
  pub play_is : play ≡ s.input_play_time
  pub why : (o ≡ Stalled) ⊎ (length s.input < max_required s.rate)

-- some are used, and those that are left with their play time are too few for a search
pub record Used (s : State) (input : List Frame) (play : Float) : Type 0 where
  pub play_is : play ≡ play_time_left s.input_play_time (length input) (length s.input)
  pub few : length input < max_required s.rate
  pub some : length input < length s.input

abbrev pub Left : State → Outcome → List Frame → Float → Type 0
Left s o input play = Kept s o input play ⊎ Used s input play

module _ (s : State) (h : Held s) where
  abbrev n : ℕ
  n = length s.input

  required : 1 ≤ max_required s.rate
  required = omega (arith, h.limits.rate_low)

  abbrev LeftBy : Taken → Type 0
  LeftBy t = Left s t.told.outcome t.state.input t.state.input_play_time

  nothing_left : (o : Outcome) → n < max_required s.rate → LeftBy (nothing o s)
  unfolding nothing
  nothing_left o few = inl (record { input_is = refl; play_is = refl; why = inr few })

  -- k frames leave the input
  removed-left : (k : ℕ) → 1 ≤ k → k ≤ n → n < k + max_required s.rate
      → Used s (drop k s.input) (play_time_left s.input_play_time (n - k) n)
  removed-left k some within few =
      let left = length-drop k s.input in
      record {
        play_is = ap (λ (i : ℕ). play_time_left s.input_play_time i n) (sym left);
        few = omega (arith, left);
        some = omega (arith, left);
      }

  copied-left : 1 ≤ n → LeftBy (copied s)
  unfolding copied removed
  copied-left some = inr (removed-left n some (omega arith) (omega (arith, required)))

  stepped-left : (a : Stretch) (b : Bool) → a.stalled ≡ b → (b ≡ false → (1 ≤ a.used.0) × (a.used.0 ≤ n) × (n < a.used.0 + max_required s.rate))
      → Left s (cond b Stalled Stretched) (stepped a s).input (stepped a s).input_play_time
  unfolding stepped removed
  stepped-left a true e u = rw e (inl (record { input_is = refl; play_is = refl; why = inl refl }))
  stepped-left a false e u = rw e (inr (removed-left a.used.0 (u refl).0 (u refl).1 (u refl).2))

  stretched-left : max_required s.rate ≤ n → LeftBy (stretched (speed_at s) s)
  unfolding stretched answer_for
  stretched-left enough =
      let ss = steps_at (speed_at s) s in
      let x = flat s.input in
      let r = held-ready s h in
      let last = (last_place (call_at (speed_at s) s) x (place_of s) ss).position.0 in
      stepped-left (answer_for (call_at (speed_at s) s) x (place_of s) ss) (stalled ss) refl
      (λ e. let end = steps-complete x (place_of s) r h.prev e in
      let within = position-held x (place_of s) r h.prev ss [] (sym (append-nil ss)) (omega arith) in
      rw e (omega arith, within, end))

  at_left : (none changes few : Bool) → eqb n 0 ≡ none → ltb n (max_required s.rate) ≡ few
      → LeftBy (cond none (nothing Empty s) (cond changes (cond few (nothing Waiting s) (stretched (speed_at s) s)) (copied s)))
  at_left true changes few e f = nothing_left Empty (omega (arith, required, eqb-true n 0 e))
  at_left false true true e f = nothing_left Waiting (ltb-true n (max_required s.rate) f)
  at_left false true false e f = stretched-left (ltb-false n (max_required s.rate) f)
  at_left false false few e f = copied-left (positive (eqb-false n 0 e))
    where
      positive : {k : ℕ} → (k ≡ 0 → ⊥) → 1 ≤ k
      positive {k} d = omega (arith, d)

  pub process-left : Left s (process s).told.outcome (process s).state.input (process s).state.input_play_time
  unfolding process finished counting taken taken_at
  process-left = at_left (eqb n 0) (speed_changes (speed_at s)) (ltb n (max_required s.rate)) refl refl

-- ---- made, and the tail

module _ (s : State) where
  abbrev conversion : Conversion
  conversion = adjust_rate s.rate s.pitch s.at s.tail (taken s).frames

  keeps : Keeps s (taken s).state
  keeps = taken-keeps s

  process-is : process s ≡ finished (taken s) conversion
  unfolding process
  process-is =
      let k = keeps.settings in
      ap (finished (taken s)) (λ i. adjust_rate (k.rate i) (k.pitch i) (keeps.at i) (keeps.tail i) (taken s).frames)

  pub staged-is : (process s).staged ≡ length (taken s).frames
  unfolding process finished
  staged-is = refl

  pub made-most : (m : ℕ) → s.rate ≤ 500000 → T (le min_pitch s.pitch) → T (le s.pitch max_pitch) → PositionInOrder (rates_of s.rate s.pitch) s.at
      → (length s.tail + (process s).staged) * (rates_of s.rate s.pitch).new ≤ m * (rates_of s.rate s.pitch).old
      → length (process s).frames ≤ m
  unfolding finished
  made-most m rate low high o h =
      rw process-is (rw length-map (adjust-most s.rate s.pitch m s.at s.tail (taken s).frames rate low high o (rw staged-is at h)))

  pub tail-most : length s.tail ≤ 12 → length (process s).state.tail ≤ 12
  unfolding finished counting
  tail-most h = rw process-is (adjust-rest s.rate s.pitch s.at s.tail (taken s).frames h)
