-- The two bridges between a stream and a state, there and back. `process` and `sonic` cite it. Here:
--   held-is, tail_is               a stream's state has as many frames as the stream says
--   own                            the stream of a stream's own state
--   state-of-stream, state-own     the state of a state's stream, in any areas, and in those that hold its frames
--   Alike, stream_of-same, alike_of      states that differ in their samples alone: those that have one stream
--   stream_of-lent, lent_alike      the states of a stream in any areas
--   stream_of-back, back-alike      the state of a state's stream
--   KeepsAlike, changed-any, changed-back        `ChangedBy` by one pair of areas, and of a state's stream
--   settings-alike, input-alike, tail-alike, balance-alike      alike states, changed alike
--   ready-lent, ready-stream       a state in order, in any areas; its stream
--   ready-input, ready-tail, ready-balance       with another input, tail or totals
-- Assumes nothing.
use mathlib.Core.Path.{◌≡◌, refl, sym, ◌∙◌}
use mathlib.Core.List.{List, []}
use Prim.Native.Nat.{ℕ}
use lib.IntN.{ℤ}
use lib.Ieee.{Float}
use lib.ListN.{length}
use Rattle.frames.specs.Framing.{Frame, frames_of}
use Rattle.frames.proofs.Framing.{length-frames_of}
use Rattle.floats.specs.Settings.{sample_period}
use Rattle.period.specs.declared.PeriodRecord.{PeriodRecord}
use Rattle.period.specs.Pitch.{PrevInOrder}
use Rattle.rate.specs.declared.Position.{Position}
use Rattle.rate.specs.Halving.{rates_of}
use Rattle.rate.specs.Tail.{PositionInOrder}
use Rattle.stream.specs.declared.SonicStream.{SonicStream}
use Rattle.stream.specs.declared.balance.Balance.{Balance}
use Rattle.stream.specs.State.{State, with_settings, with_input, with_tail, with_balance}
use Rattle.stream.specs.Stream.{state_of, stream_of, unlent, ChangedBy}
use Rattle.stream.specs.Order.{StateReady, StreamReady}

-- ---- from a stream, and back

module _ (s : SonicStream) (input stage : List ℤ) where
  pub held-is : length (state_of s input stage).input ≡ s.held.0
  unfolding state_of
  held-is = length-frames_of s.channels s.held.0 input

  pub tail_is : length (state_of s input stage).tail ≡ s.tail.0
  unfolding state_of
  tail_is = length-frames_of s.channels s.tail.0 stage

  pub own : s.sample_period ≡ sample_period s.rate → stream_of (state_of s input stage) s.waiting.0 ≡ s
  unfolding state_of stream_of
  own e = simp (length-frames_of, ← e)

-- ---- from a state, and back

-- as many frames as the state has, from the areas
pub state-of-stream : (x : State) (w : ℕ) (input stage : List ℤ) → state_of (stream_of x w) input stage
    ≡ with_tail (with_input x (frames_of x.channels (length x.input) input) x.prev x.input_play_time x.time_error)
    (frames_of x.channels (length x.tail) stage) x.at
unfolding state_of stream_of
state-of-stream x w input stage = refl

pub state-own : (x : State) (w : ℕ) (input stage : List ℤ) → frames_of x.channels (length x.input) input ≡ x.input
    → frames_of x.channels (length x.tail) stage ≡ x.tail → state_of (stream_of x w) input stage ≡ x
unfolding state_of stream_of
state-own x w input stage h t = rw (h, t)

-- ---- states that differ in their samples alone

pub record Alike (x y : State) : Type 0 where
  pub rate : x.rate ≡ y.rate
  pub channels : x.channels ≡ y.channels
  pub speed : x.speed ≡ y.speed
  pub pitch : x.pitch ≡ y.pitch
  pub volume : x.volume ≡ y.volume
  pub step_over : x.step_over ≡ y.step_over
  pub input : length x.input ≡ length y.input
  pub tail : length x.tail ≡ length y.tail
  pub at : x.at ≡ y.at
  pub prev : x.prev ≡ y.prev
  pub input_play_time : x.input_play_time ≡ y.input_play_time
  pub time_error : x.time_error ≡ y.time_error
  pub balance : x.balance ≡ y.balance
  pub ties : x.ties ≡ y.ties

-- they have one stream
pub stream_of-same : {x y : State} → Alike x y → (w : ℕ) → stream_of x w ≡ stream_of y w
unfolding stream_of
stream_of-same a w = λ i. record {
  rate = a.rate i;
  channels = a.channels i;
  speed = a.speed i;
  pitch = a.pitch i;
  volume = a.volume i;
  sample_period = sample_period (a.rate i);
  input_play_time = a.input_play_time i;
  time_error = a.time_error i;
  old_rate_position = (a.at i).old;
  new_rate_position = (a.at i).new;
  prev_period = (a.prev i).period;
  prev_min_diff = (a.prev i).min_diff;
  held = record { 0 = a.input i };
  tail = record { 0 = a.tail i };
  waiting = record { 0 = w };
  balance = a.balance i;
  step_over = a.step_over i;
  ties = a.ties i;
}

-- and states of one stream are alike
pub alike_of : (x y : State) (w : ℕ) → stream_of x w ≡ stream_of y w → Alike x y
unfolding stream_of
alike_of x y w e =
    record {
      rate = λ i. (e i).rate;
      channels = λ i. (e i).channels;
      speed = λ i. (e i).speed;
      pitch = λ i. (e i).pitch;
      volume = λ i. (e i).volume;
      step_over = λ i. (e i).step_over;
      input = λ i. (e i).held.0;
      tail = λ i. (e i).tail.0;
      at = λ i. record { old = (e i).old_rate_position; new = (e i).new_rate_position };
      prev = λ i. record { period = (e i).prev_period; min_diff = (e i).prev_min_diff };
      input_play_time = λ i. (e i).input_play_time;
      time_error = λ i. (e i).time_error;
      balance = λ i. (e i).balance;
      ties = λ i. (e i).ties;
    }

-- the states of a stream, in any areas
pub stream_of-lent : (s : SonicStream) (w : ℕ) (input stage : List ℤ) → stream_of (state_of s input stage) w ≡ stream_of (unlent s) w
unfolding state_of stream_of
stream_of-lent s w input stage = simp length-frames_of

pub lent_alike : (s : SonicStream) (input stage input' stage' : List ℤ) → Alike (state_of s input stage) (state_of s input' stage')
lent_alike s input stage input' stage' =
    alike_of (state_of s input stage) (state_of s input' stage') 0 (stream_of-lent s 0 input stage ∙ sym (stream_of-lent s 0 input' stage'))

-- the state of a state's stream
pub stream_of-back : (x : State) (v w : ℕ) (input stage : List ℤ) → stream_of (state_of (stream_of x v) input stage) w ≡ stream_of x w
unfolding state_of stream_of
stream_of-back x v w input stage = simp length-frames_of

pub back-alike : (x : State) (v : ℕ) (input stage : List ℤ) → Alike (state_of (stream_of x v) input stage) x
back-alike x v input stage = alike_of (state_of (stream_of x v) input stage) x 0 (stream_of-back x v 0 input stage)

-- a change that goes by counts, not by samples
abbrev pub KeepsAlike : (State → State) → Type 0
KeepsAlike f = (x y : State) → Alike x y → Alike (f x) (f y)

-- known of one pair of areas, known of all
pub changed-any : (f : State → State) → KeepsAlike f → (s : SonicStream) (w : ℕ) (r : SonicStream) → r ≡ stream_of (f (unlent s)) w → ChangedBy f s w r
changed-any f k s w r e input stage = e ∙ stream_of-same (k (unlent s) (state_of s input stage) (lent_alike s [] [] input stage)) w

-- the changed stream of a state is that of the changed state
pub changed-back : (f : State → State) → KeepsAlike f → (x : State) (v w : ℕ) (r : SonicStream) → ChangedBy f (stream_of x v) w r → r ≡ stream_of (f x) w
changed-back f k x v w r c = c [] [] ∙ stream_of-same (k (unlent (stream_of x v)) x (back-alike x v [] [])) w

-- alike states, changed alike
module _ {x y : State} (h : Alike x y) where
  pub settings-alike : (speed pitch volume : Float) (over : ℕ) {p q : Position} → p ≡ q
      → Alike (with_settings x speed pitch volume over p) (with_settings y speed pitch volume over q)
  settings-alike speed pitch volume over at =
      record {
        rate = h.rate;
        channels = h.channels;
        speed = refl;
        pitch = refl;
        volume = refl;
        step_over = refl;
        input = h.input;
        tail = h.tail;
        at = at;
        prev = h.prev;
        input_play_time = h.input_play_time;
        time_error = h.time_error;
        balance = h.balance;
        ties = h.ties;
      }

  pub input-alike : (a b : List Frame) {p q : PeriodRecord} {t u e f : Float} → length a ≡ length b → p ≡ q → t ≡ u → e ≡ f
      → Alike (with_input x a p t e) (with_input y b q u f)
  input-alike a b same prev play error =
      record {
        rate = h.rate;
        channels = h.channels;
        speed = h.speed;
        pitch = h.pitch;
        volume = h.volume;
        step_over = h.step_over;
        input = same;
        tail = h.tail;
        at = h.at;
        prev = prev;
        input_play_time = play;
        time_error = error;
        balance = h.balance;
        ties = h.ties;
      }

  pub tail-alike : (a b : List Frame) {p q : Position} → length a ≡ length b → p ≡ q → Alike (with_tail x a p) (with_tail y b q)
  tail-alike a b same at =
      record {
        rate = h.rate;
        channels = h.channels;
        speed = h.speed;
        pitch = h.pitch;
        volume = h.volume;
        step_over = h.step_over;
        input = h.input;
        tail = same;
        at = at;
        prev = h.prev;
        input_play_time = h.input_play_time;
        time_error = h.time_error;
        balance = h.balance;
        ties = h.ties;
      }

  pub balance-alike : {b c : Balance} → b ≡ c → Alike (with_balance x b) (with_balance y c)
  balance-alike balance =
      record {
        rate = h.rate;
        channels = h.channels;
        speed = h.speed;
        pitch = h.pitch;
        volume = h.volume;
        step_over = h.step_over;
        input = h.input;
        tail = h.tail;
        at = h.at;
        prev = h.prev;
        input_play_time = h.input_play_time;
        time_error = h.time_error;
        balance = balance;
        ties = h.ties;
      }

-- ---- states in order

-- in any areas
pub ready-lent : (s : SonicStream) → StateReady (unlent s) → (input stage : List ℤ) → StateReady (state_of s input stage)
unfolding state_of
ready-lent s r input stage =
    record { limits = r.limits; volume_low = r.volume_low; volume_high = r.volume_high; position = r.position; prev = r.prev }

module _ {x : State} (r : StateReady x) where
  pub ready-stream : (w : ℕ) → StreamReady (stream_of x w)
  unfolding state_of stream_of
  ready-stream w =
      record {
        state = record { limits = r.limits; volume_low = r.volume_low; volume_high = r.volume_high; position = r.position; prev = r.prev };
        period_is = refl;
      }

  pub ready-input : (input : List Frame) (prev : PeriodRecord) (play error : Float) → PrevInOrder x.rate prev
      → StateReady (with_input x input prev play error)
  ready-input input prev play error p =
      record { limits = r.limits; volume_low = r.volume_low; volume_high = r.volume_high; position = r.position; prev = p }

  pub ready-tail : (tail : List Frame) (at : Position) → PositionInOrder (rates_of x.rate x.pitch) at → StateReady (with_tail x tail at)
  ready-tail tail at p = record { limits = r.limits; volume_low = r.volume_low; volume_high = r.volume_high; position = p; prev = r.prev }

  pub ready-balance : (balance : Balance) → StateReady (with_balance x balance)
  ready-balance balance =
      record { limits = r.limits; volume_low = r.volume_low; volume_high = r.volume_high; position = r.position; prev = r.prev }
