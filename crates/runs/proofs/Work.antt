-- Laws of one call's work: what a setting, copying or stretching leaves alone, and how long the input and the tail are after a write or a
-- flush. Assumes nothing.
use mathlib.Core.Path.{◌≡◌, refl, ap, subst}
use mathlib.Core.Bool.{Bool, true, false, cond}
use mathlib.Core.List.{List, [], ◌∷◌, ◌++◌}
use Prim.Native.Nat.{ℕ, ◌+◌, ◌≤◌}
use native.Mathlib.Nat.{le_refl}
use native.Mathlib.Omega.{arith}
use lib.Dec.{ltb, eqb}
use lib.Ieee.{Float, eq}
use lib.ListN.{length, length-append, length-drop}
use Rattle.floats.specs.Numbers.{zero, one}
use Rattle.floats.specs.Write.{speed_changes}
use Rattle.frames.specs.Framing.{Frame, flat}
use Rattle.rate.specs.declared.Rates.{Rates}
use Rattle.rate.specs.declared.Position.{Position}
use Rattle.rate.specs.Halving.{rates_of}
use Rattle.rate.specs.Tail.{consumable}
use Rattle.rate.specs.Conversion.{convert, join_tail, adjust_rate}
use Rattle.period.specs.Rates.{max_required}
use Rattle.stretch.specs.declared.Stretch.{Stretch}
use Rattle.stretch.specs.Speed.{answer_for}
use Rattle.stream.specs.declared.Setting.{Setting}
use Rattle.stream.specs.declared.Setting.TheVariants.{Speed, Pitch, Volume, StepOver}
use Rattle.stream.specs.Balance.{none}
use Rattle.stream.specs.State.{State, with_settings, with_input, with_balance}
use Rattle.stream.specs.Settings.{with_setting}
use Rattle.fill.specs.declared.Outcome.TheVariants.{Empty, Waiting}
use Rattle.fill.specs.Taking.{Taken, removed, nothing, copied, call_at, place_of, steps_at, stepped, stretched, taken_at, speed_at, taken}
use Rattle.process.specs.Process.{counting, finished, process}

-- what holds of both holds of the one chosen
pub cond_cases : {A : Type 0} (P : A → Type 0) (b : Bool) (x y : A) → (b ≡ true → P x) → (b ≡ false → P y) → P (cond b x y)
cond_cases P true x y f g = f refl
cond_cases P false x y f g = g refl

-- ---- a setting

-- what holds whatever settings and positions become
pub setting-cases : (P : State → Type 0) (s : State) → ((speed pitch volume : Float) (over : ℕ) (at : Position) → P (with_settings s speed pitch volume over at))
    → (v : Setting) → P (with_setting v s)
unfolding with_setting
setting-cases P s f (Speed x) = f _ _ _ _ _
setting-cases P s f (Pitch x) = f _ _ _ _ _
setting-cases P s f (Volume x) = f _ _ _ _ _
setting-cases P s f (StepOver on) = f _ _ _ _ _

-- ---- copied or stretched frames

-- what holds whichever way they are taken
pub taken-cases : (s : State) (P : Taken → Type 0) → (eqb (length s.input) 0 ≡ true → P (nothing Empty s)) → P (nothing Waiting s)
    → P (stretched (speed_at s) s) → P (copied s) → P (taken s)
unfolding taken taken_at
taken-cases s P empty waits stretches copies =
    let x : Float = speed_at s in
    let few : Bool = ltb (length s.input) (max_required s.rate) in
    cond_cases P (eqb (length s.input) 0) (nothing Empty s) (taken_at x s) empty
    (λ _. cond_cases P (speed_changes x) (cond few (nothing Waiting s) (stretched x s)) (copied s)
    (λ _. cond_cases P few (nothing Waiting s) (stretched x s) (λ _. waits) (λ _. stretches)) (λ _. copies))

-- all of a state but its input, period record, play time, time error and totals
unfoldable pub bare : State → State
bare s = with_balance (with_input s [] (record { period = 0; min_diff = 0 }) zero zero) none

pub record Leaves (s t : State) : Type 0 where
  pub rest : bare t ≡ bare s
  pub totals : t.balance ≡ s.balance
  pub input : length t.input ≤ length s.input

same-leaves : (s : State) → Leaves s s
same-leaves s = record { rest = refl; totals = refl; input = le_refl (length s.input) }

removed-leaves : (k : ℕ) (s t : State) → Leaves s t → Leaves s (removed k t)
unfolding removed bare
removed-leaves k s t l = record { rest = l.rest; totals = l.totals; input = omega (arith, l.input, length-drop k t.input) }

stepped-leaves : (a : Stretch) (s : State) → Leaves s (stepped a s)
unfolding stepped bare
stepped-leaves a s =
    let t : State = with_input s s.input a.prev s.input_play_time a.time_error in
    let l : Leaves s t = record { rest = refl; totals = refl; input = le_refl (length s.input) } in
    cond_cases (Leaves s) a.stalled t (removed a.used.0 t) (λ e. l) (λ e. removed-leaves a.used.0 s t l)

pub taken-leaves : (s : State) → Leaves s (taken s).state
unfolding nothing copied stretched
taken-leaves s =
    let answer : Stretch = answer_for (call_at (speed_at s) s) (flat s.input) (place_of s) (steps_at (speed_at s) s) in
    taken-cases s (λ (t : Taken). Leaves s t.state) (λ _. same-leaves s) (same-leaves s) (stepped-leaves answer s)
    (removed-leaves (length s.input) s s (same-leaves s))

-- ---- the tail after the rate

join_tail-rest : (r : Rates) (at : Position) (tail fs : List Frame) → length (join_tail r at tail fs).rest ≤ length tail + length fs
unfolding join_tail convert
join_tail-rest r at tail [] = omega arith
join_tail-rest r at tail (f ∷ fs) = omega (arith, length-append tail (f ∷ fs), length-drop (consumable (tail ++ (f ∷ fs))) (tail ++ (f ∷ fs)))

adjust_rate-rest : (rate : ℕ) (pitch : Float) (at : Position) (tail fs : List Frame)
    → length (adjust_rate rate pitch at tail fs).rest ≤ cond (eq pitch one) (length tail) (length tail + length fs)
unfolding adjust_rate
adjust_rate-rest rate pitch at tail fs = go (eq pitch one)
  where
    go : (b : Bool)
        → length (cond b (record { made = fs; rest = tail; at = at }) (join_tail (rates_of rate pitch) at tail fs)).rest ≤ cond b (length tail) (length tail + length fs)
    go true = le_refl (length tail)
    go false = join_tail-rest (rates_of rate pitch) at tail fs

-- ---- a call's whole work

module _ (s : State) where
  pub process-rate : (process s).state.rate ≡ s.rate
  unfolding process finished counting bare
  process-rate = ap (λ (t : State). t.rate) (taken-leaves s).rest

  pub process-channels : (process s).state.channels ≡ s.channels
  unfolding process finished counting bare
  process-channels = ap (λ (t : State). t.channels) (taken-leaves s).rest

  pub process-over : (process s).state.step_over ≡ s.step_over
  unfolding process finished counting bare
  process-over = ap (λ (t : State). t.step_over) (taken-leaves s).rest

  pub process-input : length (process s).state.input ≤ length s.input
  unfolding process finished counting
  process-input = (taken-leaves s).input

  pub process-tail : length (process s).state.tail ≤ cond (eq s.pitch one) (length s.tail) (length s.tail + (process s).staged)
  unfolding process finished counting bare
  process-tail =
      let t : Taken = taken s in
      let tail : t.state.tail ≡ s.tail = ap (λ (x : State). x.tail) (taken-leaves s).rest in
      let pitch : t.state.pitch ≡ s.pitch = ap (λ (x : State). x.pitch) (taken-leaves s).rest in
      let rest : List Frame = (adjust_rate t.state.rate t.state.pitch t.state.at t.state.tail t.frames).rest in
      subst (λ (n : ℕ). length rest ≤ n) (λ i. cond (eq (pitch i) one) (length (tail i)) (length (tail i) + length t.frames))
      (adjust_rate-rest t.state.rate t.state.pitch t.state.at t.state.tail t.frames)
