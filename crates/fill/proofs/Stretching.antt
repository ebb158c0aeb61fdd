-- Stretched frames, in the words of the contracts: how they fill the area. Here:
--   StretchDue                                  what a stretch of the frames held asks for
--   call-ready, lent-long                the call that the code makes, and the samples that it lends
--   StretchAnswered, answered-as                what `change_speed` answers
--   stretched-over, stretched-used, stretched-full, stretched-filled     by the answer
-- Assumes nothing.
use mathlib.Core.Path.{◌≡◌, refl, sym, ap, ◌∙◌, subst}
use mathlib.Core.Bool.{Bool, true, false, cond}
use mathlib.Core.List.{List, []}
use Prim.Native.Nat.{ℕ, ◌-◌, ◌*◌, ◌/◌, ◌≤◌, ◌<◌, zero-le}
use native.Mathlib.Omega.{arith}
use borrow.Author.Tests.{ltb-true, ltb-false}
use lib.Dec.{T, ltb}
use lib.IntN.{ℤ}
use lib.Ieee.{Float, binary32, fits}
use lib.ListN.{length, take, drop, length-take}
use Rattle.frames.specs.Areas.{Areas, areas}
use Rattle.frames.specs.Framing.{Frame, flat}
use Rattle.frames.proofs.Framing.{length-frames_of, flat-frames_of}
use Rattle.frames.proofs.Room.{room-under}
use Rattle.floats.specs.Settings.{sample_period}
use Rattle.floats.specs.Write.{speed_changes}
use Rattle.search.specs.declared.Ties.{Ties}
use Rattle.search.specs.Ties.{ties_of}
use Rattle.period.specs.declared.PeriodRecord.{PeriodRecord}
use Rattle.period.specs.Rates.{max_required}
use Rattle.stretch.specs.declared.StretchCall.{StretchCall}
use Rattle.stretch.specs.declared.Place.{Place}
use Rattle.stretch.specs.declared.Stretch.{Stretch}
use Rattle.std.proofs.Common.{Option, Some, None, Result, Ok, Err}
use Rattle.stretch.specs.Steps.{StretchReady}
use Rattle.stretch.specs.Tally.{Tally, tally}
use Rattle.stretch.specs.Speed.{steps, frames_made, samples_of, last_place, stalled, answer_for, change_speed, stretched_frames, AreaAfter}
use Rattle.stretch.proofs.Balance.{position-used, steps-surplus}
use Rattle.stretch.proofs.Claims.{used-held}
use Rattle.stretch.proofs.Framed.{area-behind, area-full}
use Rattle.stream.specs.declared.SonicStream.{SonicStream}
use Rattle.stream.specs.Balance.{none}
use Rattle.stream.specs.State.{State, steps_over}
use Rattle.stream.specs.Stream.{state_of}
use Rattle.stream.specs.Order.{StreamReady}
use Rattle.stream.proofs.Streams.{held-is}
use Rattle.fill.specs.declared.Filled.{Filled}
use Rattle.stream.specs.declared.refusal.Refusal.{Refusal}
use Rattle.stream.specs.declared.refusal.Refusal.TheVariants.{StageFull, OutputFull}
use Rattle.fill.specs.Taking.{Taken, removed, stretched, stepped, call_at, place_of, speed_at, taken, counted}
use Rattle.fill.specs.Filling.{speed_of}
use Rattle.fill.specs.Filling.{destination_in, filled_area, place_for, surplus, SteppedAs, StretchEnsures, FilledBy}
use Rattle.fill.proofs.Branches.{speed_fits, taken-stretched}
use Rattle.fill.proofs.Destinations.{room-is}
use Rattle.fill.proofs.Filling.{AreaFits, FillsWith, ready-limits, held_few, speed-same}

-- ---- the call

-- as the code makes it, by its choice of ties, the samples that it lends, and the place where it begins
abbrev pub call_with : SonicStream → Float → Ties → StretchCall
call_with s x ties =
    record {
      channels = s.channels;
      rate = s.rate;
      sample_period = s.sample_period;
      speed = x;
      input_play_time = s.input_play_time;
      held = s.held;
      step_over = steps_over s.step_over;
      ties = ties;
    }

abbrev pub call_of : SonicStream → Float → StretchCall
call_of s x = call_with s x (ties_of s.ties)

abbrev pub lent_of : SonicStream → List ℤ → List ℤ
lent_of s input = take (s.held.0 * s.channels) input

-- a stretch of the frames held is due, at speed x
pub record StretchDue (s : SonicStream) (x : Float) (kept : ℕ) (input area : List ℤ) : Type 0 where
  pub ready : StreamReady s
  pub fit : AreaFits s kept input area
  pub enough : max_required s.rate ≤ s.held.0
  pub speed_is : x ≡ speed_of s
  pub changes : speed_changes x ≡ true

-- the room behind the frames kept
abbrev pub room_in : SonicStream → ℕ → List ℤ → ℕ
room_in s kept area = length area / s.channels - kept

-- `change_speed`, handed such a call, the samples l and the place h, answered r and left the area as `exit`
abbrev AnsweredTo : StretchCall → List ℤ → Place → SonicStream → ℕ → ℕ → List ℤ → List ℤ → Option Stretch → Type 0
AnsweredTo c l h s kept most area exit r =
    (r ≡ change_speed c l h most) × AreaAfter c l h (room_in s kept area) most area exit (kept * s.channels)

abbrev pub StretchAnswered : SonicStream → Float → ℕ → ℕ → List ℤ → List ℤ → List ℤ → Option Stretch → Type 0
StretchAnswered s x kept most input area exit r = AnsweredTo (call_of s x) (lent_of s input) (place_for s) s kept most area exit r

module _ {s : SonicStream} {x : Float} {kept : ℕ} {input area : List ℤ} (d : StretchDue s x kept input area) where
  pub call-ready : (ties : Ties) → StretchReady (call_with s x ties)
  call-ready ties =
      record {
        opened = ready-limits d.ready;
        period_is = d.ready.period_is;
        speed_fits = subst (λ (y : Float). T (fits binary32 y)) (sym d.speed_is) (speed_fits s.held.0 (sample_period s.rate) s.input_play_time);
        few = held_few d.ready d.fit;
      }

  pub lent-long : s.held.0 * s.channels ≤ length (lent_of s input)
  lent-long = omega (arith, length-take (s.held.0 * s.channels) input, d.fit.held)

-- what is ensured of a stretch that was lent n samples of the input, of areas that go from a to b
pub answered-as : (s : SonicStream) (x : Float) (a b : Areas) (ties : Ties) (n : ℕ) (r : Option Stretch) → ties ≡ ties_of s.ties → n ≡ s.held.0 * s.channels
    → StretchEnsures s (call_with s x ties) (areas (take n a.input) a.stage a.output a.scratch) b r
    → StretchAnswered s x (destination_in s a).kept.0 (destination_in s a).most.0 a.input (filled_area s a) (filled_area s b) r
answered-as s x a b ties n r chosen count told =
    let to = destination_in s a in
    let Answer : Ties → ℕ → ℕ → Type 0 = λ t k room.
    (r ≡ change_speed (call_with s x t) (take k a.input) (place_for s) to.most.0)
    × AreaAfter (call_with s x t) (take k a.input) (place_for s) room to.most.0 (filled_area s a) (filled_area s b) (to.kept.0 * s.channels) in
    subst (λ (t : Ties). Answer t (s.held.0 * s.channels) (room_in s to.kept.0 (filled_area s a))) chosen
    (subst (λ (k : ℕ). Answer ties k (room_in s to.kept.0 (filled_area s a))) count (subst (Answer ties n) (room-is s a) (told.0, told.1)))

-- the call and the samples lent are those of the state, whatever the tail is

module _ {s : SonicStream} {x : Float} {kept : ℕ} {input area : List ℤ} (d : StretchDue s x kept input area) (most : ℕ) (stage : List ℤ) where
  abbrev state : State
  state = state_of s input stage

  call-is : call_of s x ≡ call_at x state
  unfolding state_of
  call-is = λ i. record {
    channels = s.channels;
    rate = s.rate;
    sample_period = d.ready.period_is i;
    speed = x;
    input_play_time = s.input_play_time;
    held = record { 0 = sym (length-frames_of s.channels s.held.0 input) i };
    step_over = steps_over s.step_over;
    ties = ties_of s.ties;
  }

  lent_is : lent_of s input ≡ flat state.input
  unfolding state_of
  lent_is = sym (flat-frames_of s.channels s.held.0 input)

  list-long : (call_at x state).held.0 * s.channels ≤ length (flat state.input)
  unfolding state_of
  list-long = rw (length-frames_of s.channels s.held.0 input, flat-frames_of s.channels s.held.0 input) (lent-long d)

  answered-by : (exit : List ℤ) (r : Option Stretch) → StretchAnswered s x kept most input area exit r
      → AnsweredTo (call_at x state) (flat state.input) (place_of state) s kept most area exit r
  unfolding state_of
  answered-by exit r e =
      let lent = subst (λ (l : List ℤ). AnsweredTo (call_of s x) l (place_for s) s kept most area exit r) lent_is e in
      subst (λ (u : StretchCall). AnsweredTo u (flat state.input) (place_for s) s kept most area exit r) call-is lent

  -- ---- what is taken

  taken_is : taken state ≡ stretched x state
  unfolding state_of
  taken_is =
      let held = held-is s input stage in
      let same : speed_at state ≡ x = speed-same s input stage ∙ sym d.speed_is in
      let low : 1 ≤ max_required s.rate = omega (arith, (ready-limits d.ready).rate_low) in
      taken-stretched state (omega (arith, held, d.enough)) (ap speed_changes same ∙ d.changes) (omega (arith, held, d.enough))
      ∙ ap (λ (y : Float). stretched y state) same

  fills : (exit : List ℤ) (f : Result Filled Refusal) → FilledBy s kept most (stretched x state) input area exit f
      → FilledBy s kept most (taken state) input area exit f
  fills exit f = subst (λ (t : Taken). FilledBy s kept most t input area exit f) (sym taken_is)

-- ---- the state after the steps of an answer

-- by whether it stalled: u then, v otherwise

input-cases : (b : Bool) (k : ℕ) (l : List Frame) (u v : State) → u.input ≡ l → v.input ≡ drop k l → (cond b u v).input ≡ drop (cond b 0 k) l
input-cases true k l u v p q = p
input-cases false k l u v p q = q

prev-cases : (b : Bool) (r : PeriodRecord) (u v : State) → u.prev ≡ r → v.prev ≡ r → (cond b u v).prev ≡ r
prev-cases true r u v p q = p
prev-cases false r u v p q = q

used-cases : (b : Bool) {k n : ℕ} → k ≤ n → cond b 0 k ≤ n
used-cases true h = zero-le
used-cases false h = h

module _ (a : Stretch) (t : State) where
  stepped-input : (stepped a t).input ≡ drop (cond a.stalled 0 a.used.0) t.input
  unfolding stepped removed
  stepped-input = input-cases a.stalled a.used.0 t.input _ _ refl refl

  stepped-prev : (stepped a t).prev ≡ a.prev
  unfolding stepped removed
  stepped-prev = prev-cases a.stalled a.prev _ _ refl refl

-- ---- what the steps add to the totals

surplus-is : (b : Bool) (t : Tally) (position : ℕ) → position ≡ t.used → (t.skipped ≡ t.used - t.out) × (t.inserted ≡ t.out - t.used)
    → cond b none (surplus t.out (cond b 0 position)) ≡ cond b none (record { skipped = t.skipped; inserted = t.inserted })
surplus-is true t position e k = refl
surplus-is false t position e k =
    let skipped : position - t.out ≡ t.skipped = omega (arith, k.0) in
    let inserted : t.out - position ≡ t.inserted = omega (arith, k.1) in
    λ i. record { skipped = skipped i; inserted = inserted i }

-- ---- by the answer

answer-over : (b : Bool) (a : Stretch) → None ≡ cond b None (Some a) → b ≡ true
answer-over true a e = refl
answer-over false a e = cc

answer-made : (b : Bool) (a m : Stretch) → Some m ≡ cond b None (Some a) → (b ≡ false) × (a ≡ m)
answer-made true a m e = (cc, cc)
answer-made false a m e = (refl, cc)

module _ {s : SonicStream} {x : Float} {kept : ℕ} {input area : List ℤ} (d : StretchDue s x kept input area) (most : ℕ) (exit : List ℤ) (stage : List ℤ) where
  abbrev call : StretchCall
  call = call_at x (state_of s input stage)

  abbrev list : List ℤ
  list = flat (state_of s input stage).input

  abbrev place : Place
  place = place_of (state_of s input stage)

  abbrev answer : Stretch
  answer = answer_for call list place (steps call list place)

  abbrev made : ℕ
  made = frames_made (steps call list place)

  frames-are : length (stretched_frames call list place) ≡ made
  frames-are = length-frames_of call.channels made (samples_of call.channels list place.position.0 (steps call list place))

  ready : StretchReady call
  ready = subst StretchReady (call-is d most stage) (call-ready d (ties_of s.ties))

  over_by : StretchAnswered s x kept most input area exit None → FilledBy s kept most (taken (state_of s input stage)) input area exit (Err StageFull)
  unfolding change_speed stretched state_of
  over_by e =
      let f = answered-by d most stage exit None e in
      let over = ltb-true most made (answer-over (ltb most made) answer f.0) in
      fills d most stage exit (Err StageFull) (f.1.kept, rw frames-are over)

  module _ (m : Stretch) (e : StretchAnswered s x kept most input area exit (Some m)) where
    answers : AnsweredTo call list place s kept most area exit (Some m)
    answers = answered-by d most stage exit (Some m) e

    made_all : (made ≤ most) × (answer ≡ m)
    unfolding change_speed
    made_all = let r = answer-made (ltb most made) answer m answers.0 in (ltb-false most made r.0, r.1)

    made-is : made ≡ m.made.0
    unfolding answer_for
    made-is = ap (λ (a : Stretch). a.made.0) made_all.1

    used-by : m.used.0 ≤ s.held.0
    unfolding state_of
    used-by =
        let used = used-held list place ready d.ready.state.prev.period_in zero-le in
        subst (λ (a : Stretch). a.used.0 ≤ s.held.0) made_all.1 (omega (arith, used, held-is s input stage))

    full_by : room_in s kept area < m.made.0 → FilledBy s kept most (taken (state_of s input stage)) input area exit (Err OutputFull)
    unfolding stretched state_of
    full_by over =
        fills d most stage exit (Err OutputFull) (area-full answers.1 ready (omega (arith, made-is, over)), rw frames-are made_all.0)

    filled-by : (f : Filled) → m.made.0 ≤ room_in s kept area → SteppedAs s m f
        → FilledBy s kept most (taken (state_of s input stage)) input area exit (Ok f)
    unfolding stretched state_of answer_for counted
    filled-by f room g =
        let t : State = state_of s input stage in
        let roomy : made ≤ room_in s kept area = omega (arith, made-is, room) in
        let fits = room-under s.channels kept made (length area) (ready-limits d.ready).channels_low d.fit.kept_fit roomy in
        let behind = area-behind answers.1 ready d.ready.state.prev.period_in (list-long d most stage) made_all.0 roomy fits in
        let h : SteppedAs s answer f = subst (λ (a : Stretch). SteppedAs s a f) (sym made_all.1) g in
        fills d most stage exit (Ok f)
        (record {
          told = h.told;
          balance = h.balance
              ∙ surplus-is (stalled (steps call list place)) (tally (steps call list place)) (last_place call list place (steps call list place)).position.0
              (omega (arith, position-used call list place (steps call list place))) (steps-surplus call list place);
          behind = rw h.frames behind;
          within = rw frames-are made_all.0;
          used = rw g.used (used-cases m.stalled used-by);
          rest = ap (λ (n : ℕ). drop n t.input) h.used ∙ sym (stepped-input answer t);
          stream = h.stream input stage;
          prev_in = rw (stepped-prev answer t) (answers.1.in_order made_all.0);
        })

module _ {s : SonicStream} {x : Float} {kept : ℕ} {input area : List ℤ} (d : StretchDue s x kept input area) (most : ℕ) (exit : List ℤ) where
  pub stretched-over : StretchAnswered s x kept most input area exit None → FillsWith s kept most input area exit (Err StageFull)
  stretched-over e stage = over_by d most exit stage e

  module _ (m : Stretch) (e : StretchAnswered s x kept most input area exit (Some m)) where
    pub stretched-used : m.used.0 ≤ s.held.0
    stretched-used = used-by d most exit [] m e

    pub stretched-full : room_in s kept area < m.made.0 → FillsWith s kept most input area exit (Err OutputFull)
    stretched-full over stage = full_by d most exit stage m e over

    -- the steps' frames fill the area, as f says
    pub stretched-filled : (f : Filled) → m.made.0 ≤ room_in s kept area → SteppedAs s m f → FillsWith s kept most input area exit (Ok f)
    stretched-filled f room g stage = filled-by d most exit stage m e f room g
