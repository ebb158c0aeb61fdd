-- Demand 3 through the calls of C, proved: `c-run`. The claim is in `specs/CCalls.antt`; `in_c` makes the run of demand 3 of it. Assumes nothing.
use mathlib.Core.Path.{◌≡◌, refl, sym, ap, ◌∙◌}
use mathlib.Core.Bool.{Bool, true, false, cond}
use mathlib.Core.List.{List, [], ◌∷◌, map}
use Rattle.std.specs.Prelude.{Option, None, Some, Result, Ok, Err}
use Prim.Native.Nat.{ℕ, ◌*◌}
use lib.Ieee.{Float}
use lib.IntN.{ℤ}
use lib.ListN.{length, take}
use Rattle.frames.specs.Areas.{Areas}
use Rattle.frames.specs.Framing.{Frame, frames_of}
use Rattle.search.specs.declared.Ties.{Ties}
use Rattle.period.specs.Rates.{max_required}
use Rattle.stream.specs.declared.SonicStream.{SonicStream}
use Rattle.stream.specs.declared.Setting.{Setting}
use Rattle.stream.specs.declared.refusal.Refusal.{Refusal}
use Rattle.stream.specs.declared.refusal.Refusal.TheVariants.{
  BadRate,
  BadChannels,
  BadStream,
  BadAreas,
  InputFull,
  StageFull,
  OutputFull,
  NotWave,
  BadSize,
  BadFormat,
  TotalFull,
}
use Rattle.stream.specs.declared.refusal.NotOpened.{NotOpened}
use Rattle.stream.specs.declared.refusal.Refused.{Refused}
use Rattle.stream.specs.State.{State}
use Rattle.stream.specs.Stream.{state_of, stream_of, unlent}
use Rattle.stream.specs.Refusals.{number_of, is_in_order, read_refusal}
use Rattle.stream.specs.Settings.{with_setting, not_in_order, open_call, set_call}
use Rattle.fill.specs.declared.Outcome.{Outcome}
use Rattle.fill.specs.declared.Outcome.TheVariants.{Empty, Copied, Waiting, Stretched, Stalled}
use Rattle.fill.specs.declared.Told.{Told}
use Rattle.process.specs.Process.{Made, whole_frames, write_work, flush_work, expected, cleared}
use Rattle.process.specs.declared.Wrote.{Wrote}
use Rattle.adding.specs.Calls.{CallResult, refused_call, accepted_call, call_by, refusal_of, write_call, flush_call, CallEnsures, stream_after}
use Rattle.read.specs.declared.Gave.{Gave}
use Rattle.read.specs.Reading.{ReadResult, read_by, read_count, read_call, ReadEnsures, stream_after_read, count_read}
use Rattle.sonic_c.specs.declared.Wrote as c-wrote
use Rattle.sonic_c.specs.declared.Gave as c-gave
use Rattle.sonic_c.specs.Answers.{outcome_number, opened_of, changed_of, told_of, wrote_of, gave_of, WroteEnsures, GaveEnsures}
use Rattle.runs.specs.Run.{Moment, Allowed, after, Run}
use Rattle.runs.specs.Demand.{RunOf}
use Rattle.runs.specs.CCalls.{CEvent, c-setting-went, c-write-went, c-flush-went, c-read-went, CAllowed, CRun, CRunOf, CRunClaim}
use Rattle.runs.specs.CCalls.{outcome_in, refusal_in, changed_in, wrote_in, gave_in, event_in}

-- ---- the struct of an answer tells that answer

outcome-back : (o : Outcome) → outcome_in (outcome_number o) ≡ o
unfolding outcome_in outcome_number
outcome-back Empty = refl
outcome-back Copied = refl
outcome-back Waiting = refl
outcome-back Stretched = refl
outcome-back Stalled = refl

refusal-back : (r : Refusal) → refusal_in (number_of r) ≡ Some r
unfolding refusal_in
refusal-back BadRate = refl
refusal-back BadChannels = refl
refusal-back BadStream = refl
refusal-back BadAreas = refl
refusal-back InputFull = refl
refusal-back StageFull = refl
refusal-back OutputFull = refl
refusal-back NotWave = refl
refusal-back BadSize = refl
refusal-back BadFormat = refl
refusal-back TotalFull = refl

setting-back : (s : SonicStream) (v : Setting) → changed_in (changed_of (set_call s v)) ≡ set_call s v
unfolding set_call changed_in changed_of refusal_in
setting-back s v = go (is_in_order s)
  where
    answer : Bool → Result SonicStream Refused
    answer b = cond b (Ok (stream_of (with_setting v (unlent s)) s.waiting.0)) (Err (not_in_order s))

    go : (b : Bool) → changed_in (changed_of (answer b)) ≡ answer b
    go true = refl
    go false = refl

call_back : (refusal : Option Refusal) (s : SonicStream) (a : Areas) (told : Told) (t : State) (frames : List Frame)
    → (let w : Result Wrote Refused = (call_by refusal s a (accepted_call s a told t frames)).answer in wrote_in (wrote_of w) ≡ w)
unfolding accepted_call refused_call wrote_in wrote_of told_of refusal_in
call_back None s a told t frames = rw (outcome-back told.outcome)
call_back (Some refusal) s a told t frames = rw (refusal-back refusal)

write-back : (s : SonicStream) (samples : List Float) (a : Areas) → wrote_in (wrote_of (write_call s samples a).answer) ≡ (write_call s samples a).answer
unfolding write_call
write-back s samples a =
    let m : Made = write_work samples (state_of s a.input a.stage) in
    call_back (refusal_of s a (length (whole_frames s.channels samples)) m) s a m.told m.state m.frames

flush-back : (s : SonicStream) (a : Areas) → wrote_in (wrote_of (flush_call s a).answer) ≡ (flush_call s a).answer
unfolding flush_call
flush-back s a =
    let entering : State = state_of s a.input a.stage in
    let m : Made = flush_work entering in
    call_back (refusal_of s a (2 * max_required s.rate) m) s a m.told (cleared m.state) (take (expected entering) m.frames)

given_back : (refusal : Option Refusal) (s : SonicStream) (n : ℕ) (waiting : List Frame)
    → (let g : Result Gave Refused = (read_by refusal s n waiting).answer in gave_in (gave_of g) ≡ g)
unfolding gave_in gave_of refusal_in
given_back None s n waiting = refl
given_back (Some refusal) s n waiting = rw (refusal-back refusal)

read_back : (s : SonicStream) (most : ℕ) (slice : List Float) (output : List ℤ)
    → (let g : Result Gave Refused = (read_call s most slice output).answer in gave_in (gave_of g) ≡ g)
unfolding read_call
read_back s most slice output =
    given_back (read_refusal s output) s (read_count s most slice) (frames_of s.channels s.waiting.0 output)

-- ---- what a call of C ensures is what the call ensures

stream-of-wrote : (w : Result Wrote Refused) → (wrote_of w).stream ≡ stream_after w
unfolding wrote_of
stream-of-wrote (Err refused) = refl
stream-of-wrote (Ok wrote) = refl

call-ensures : {channels : ℕ} (c : CallResult) (r : c-wrote.Wrote) (b : Areas) → wrote_in (wrote_of c.answer) ≡ c.answer
    → WroteEnsures channels c r b → CallEnsures channels c (wrote_in r) b
call-ensures {channels} c r b back e =
    let tells : wrote_in r ≡ c.answer = ap wrote_in e.answer ∙ back in
    let same : stream_after (wrote_in r) ≡ r.stream =
    ap stream_after tells ∙ sym (stream-of-wrote c.answer) ∙ sym (ap (λ (x : c-wrote.Wrote). x.stream) e.answer) in
    record { answer = tells; input = rw same e.input; tail = rw same e.tail; output = rw same e.output }

gave-tells : (g : Result Gave Refused) → ((gave_of g).stream ≡ stream_after_read g) × ((gave_of g).frames.0 ≡ count_read g)
unfolding gave_of
gave-tells (Err refused) = (refl, refl)
gave-tells (Ok gave) = (refl, refl)

read-ensures : {channels : ℕ} (c : ReadResult) (r : c-gave.Gave) (entry exit : List Float) (area : List ℤ) → gave_in (gave_of c.answer) ≡ c.answer
    → GaveEnsures channels c r entry exit area → ReadEnsures channels c (gave_in r) entry exit area
read-ensures {channels} c r entry exit area back e =
    let tells : gave_in r ≡ c.answer = ap gave_in e.answer ∙ back in
    let stream : stream_after_read (gave_in r) ≡ r.stream =
    ap stream_after_read tells ∙ sym (gave-tells c.answer).0 ∙ sym (ap (λ (x : c-gave.Gave). x.stream) e.answer) in
    let number : count_read (gave_in r) ≡ r.frames.0 =
    ap count_read tells ∙ sym (gave-tells c.answer).1 ∙ sym (ap (λ (x : c-gave.Gave). x.frames.0) e.answer) in
    record { answer = tells; given = rw number e.given; rest = rw number e.rest; output = rw stream e.output }

-- ---- calls, one after another

event-allowed : (m : Moment) (e : CEvent) → CAllowed m e → Allowed m (event_in e)
unfolding event_in
event-allowed m (c-setting-went v r) p = ap changed_in p ∙ setting-back m.stream v
event-allowed m (c-write-went samples a r b) p = (p.0, p.1, call-ensures _ r b (write-back m.stream samples a) p.2)
event-allowed m (c-flush-went a r b) p = (p.0, p.1, call-ensures _ r b (flush-back m.stream a) p.2)
event-allowed m (c-read-went most a r b) p =
    (p.0, p.1, read-ensures _ r a.slice b.slice b.output (read_back m.stream most a.slice a.output) p.2)

run-allowed : (m : Moment) (es : List CEvent) → CRun m es → Run m (map event_in es)
run-allowed m [] p = tt
run-allowed m (e ∷ es) p = (event-allowed m e p.0, run-allowed (after m (event_in e)) es p.1)

-- ---- from an accepted opening

-- no refusal has the number 0
number-some : (r : Refusal) → number_of r ≡ 0 → ⊥
number-some BadRate z = cc
number-some BadChannels z = cc
number-some BadStream z = cc
number-some BadAreas z = cc
number-some InputFull z = cc
number-some StageFull z = cc
number-some OutputFull z = cc
number-some NotWave z = cc
number-some BadSize z = cc
number-some BadFormat z = cc
number-some TotalFull z = cc

opened-done : (o : Result SonicStream NotOpened) → (opened_of o).refusal ≡ 0 → o ≡ Ok (opened_of o).stream
unfolding opened_of
opened-done (Ok s) z = refl
opened-done (Err e) z = absurd (number-some e.refusal z)

pub c-run : CRunClaim
c-run rate channels ties a =
    let z : (opened_of (open_call rate channels ties)).refusal ≡ 0 = rw (← a.opens) a.accepts in
    (rw a.opens (opened-done (open_call rate channels ties) z), run-allowed _ a.events a.allowed)

-- of which the claims of demand 3 hold
unfoldable pub in_c : (rate channels : ℕ) (ties : Ties) → CRunOf rate channels ties → RunOf rate channels ties
in_c rate channels ties a =
    let r = c-run rate channels ties a in
    record { stream = a.opened.stream; opens = r.0; events = map event_in a.events; allowed = r.1 }
