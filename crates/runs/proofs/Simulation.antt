-- A run and the ledger go side by side from the opening to the last call:
--   opened-as         the stream of an accepted opening
--   last-tracks       the last moment and the ledger
--   calls-held        each accepted write and flush has what its steps ask for
--   run-is-ledger     frames and outcomes
-- Assumes nothing.
use mathlib.Core.Path.{◌≡◌, refl, sym, ap, ◌∙◌, subst}
use mathlib.Core.Bool.{Bool, true, false, cond, false≢true}
use mathlib.Core.List.{List, [], ◌∷◌, ◌++◌, map}
use Rattle.std.specs.Prelude.{Option, None, Some, Result, Ok, Err}
use Rattle.std.specs.Result.{is_ok}
use Prim.Native.Nat.{ℕ, ◌*◌}
use native.Mathlib.Nat.{zero-mul}
use lib.ListN.{length, take}
use Rattle.frames.specs.Areas.{Areas}
use Rattle.frames.specs.Framing.{frames_of}
use Rattle.search.specs.declared.Ties.{Ties}
use Rattle.period.specs.Rates.{max_required}
use Rattle.stream.specs.declared.SonicStream.{SonicStream}
use Rattle.stream.specs.declared.refusal.Refusal.{Refusal}
use Rattle.stream.specs.declared.refusal.Refusal.TheVariants.{BadRate, BadChannels}
use Rattle.stream.specs.declared.refusal.NotOpened.{NotOpened}
use Rattle.stream.specs.declared.refusal.Refused.{Refused}
use Rattle.stream.specs.State.{State}
use Rattle.stream.specs.Stream.{state_of, stream_of, zero_stream}
use Rattle.stream.specs.Refusals.{rate_bad, channels_bad, is_in_order, read_refusal}
use Rattle.stream.specs.Settings.{fresh, open_call, set_call}
use Rattle.process.specs.Process.{Made, whole_frames, write_work, flush_work, expected, cleared}
use Rattle.process.specs.declared.Wrote.{Wrote}
use Rattle.adding.specs.Calls.{CallResult, refused_call, call_by, refusal_of, write_call, flush_call, CallEnsures}
use Rattle.read.specs.Reading.{read_count, read_call, ReadEnsures}
use Rattle.stream.proofs.Passing.{read-room}
use Rattle.runs.specs.Ledger.{write, flush, Ledger, begun, posted, ledger_from, ledger}
use Rattle.runs.specs.Run.{Event, setting-went, write-went, flush-went, read-went, Moment, opening, Allowed, after, Run, end, values, total, fed}
use Rattle.runs.specs.Demand.{accepted_in}
use Rattle.runs.proofs.Tracking.{Tracks, HeldCall, call-tracks}
use Rattle.runs.proofs.Accepting.{accepts-write, accepts-flush}
use Rattle.runs.proofs.Steps.{setting-tracks, read-tracks}
use Rattle.runs.proofs.Entries.{EachCall, each-posted}

-- ---- one call

event-tracks : {m : Moment} {l : Ledger} → Tracks m l → (e : Event) → Allowed m e → Tracks (after m e) (posted l (fed e))
unfolding after fed set_call write_call flush_call read_call stream_of
event-tracks {m} {l} h (setting-went v r) p =
    setting-tracks h v r (is_in_order (stream_of l.state h.waiting)) (subst (λ (x : SonicStream). r ≡ set_call x v) h.stream p)
event-tracks {m} {l} h (write-went samples a r b) p =
    let s : SonicStream = stream_of l.state h.waiting in
    let w : Made = write_work samples (state_of s a.input a.stage) in
    let e : CallEnsures s.channels (write_call s samples a) r b =
    subst (λ (x : SonicStream). CallEnsures x.channels (write_call x samples a) r b) h.stream p.2 in
    call-tracks h (write samples) a b w.told w.state w.frames r
    (refusal_of s a (length (whole_frames s.channels samples)) w) p.0 p.1 e (accepts-write h a p.0 samples)
event-tracks {m} {l} h (flush-went a r b) p =
    let s : SonicStream = stream_of l.state h.waiting in
    let entering : State = state_of s a.input a.stage in
    let w : Made = flush_work entering in
    let e : CallEnsures s.channels (flush_call s a) r b =
    subst (λ (x : SonicStream). CallEnsures x.channels (flush_call x a) r b) h.stream p.2 in
    call-tracks h flush a b w.told (cleared w.state) (take (expected entering) w.frames) r
    (refusal_of s a (2 * max_required s.rate) w) p.0 p.1 e (accepts-flush h a p.0)
event-tracks {m} {l} h (read-went most a r b) p =
    let s : SonicStream = stream_of l.state h.waiting in
    let e : ReadEnsures s.channels (read_call s most a.slice a.output) r a.slice b.slice b.output =
    subst (λ (x : SonicStream). ReadEnsures x.channels (read_call x most a.slice a.output) r a.slice b.slice b.output)
    h.stream p.2 in
    read-tracks h a b p.0 p.1 r (read_refusal s a.output) (read_count s most a.slice) most (read-room s a.output) e

-- what an accepted write or flush asks for is there
call-held : {X : Type 0} (s : SonicStream) (a : Areas) (c : CallResult) (r : Result Wrote Refused) (refusal : Option Refusal) → r ≡ (call_by refusal s a c).answer → (refusal ≡ None → X)
    → is_ok r ≡ true → X
unfolding refused_call
call-held s a c r None e f q = f refl
call-held s a c r (Some refusal) e f q = absurd (false≢true (sym (ap is_ok e) ∙ q))

event-held : {m : Moment} {l : Ledger} → Tracks m l → (e : Event) → Allowed m e → (fed e).accepted ≡ true → HeldCall l (fed e).call
unfolding fed write_call flush_call stream_of
event-held h (setting-went v r) p q = tt
event-held {m} {l} h (write-went samples a r b) p q =
    let s : SonicStream = stream_of l.state h.waiting in
    let w : Made = write_work samples (state_of s a.input a.stage) in
    let e : r ≡ (write_call s samples a).answer = subst (λ (x : SonicStream). r ≡ (write_call x samples a).answer) h.stream p.2.answer in
    call-held s a _ r (refusal_of s a (length (whole_frames s.channels samples)) w) e (λ z. (accepts-write h a p.0 samples z).held) q
event-held {m} {l} h (flush-went a r b) p q =
    let s : SonicStream = stream_of l.state h.waiting in
    let w : Made = flush_work (state_of s a.input a.stage) in
    let e : r ≡ (flush_call s a).answer = subst (λ (x : SonicStream). r ≡ (flush_call x a).answer) h.stream p.2.answer in
    call-held s a _ r (refusal_of s a (2 * max_required s.rate) w) e (λ z. (accepts-flush h a p.0 z).held) q
event-held h (read-went most a r b) p q = tt

-- ---- call after call

run-tracks : {m : Moment} {l : Ledger} → Tracks m l → (es : List Event) → Run m es → Tracks (end m es) (ledger_from l (map fed es))
unfolding end ledger_from
run-tracks h [] r = h
run-tracks {m = m} {l = l} h (e ∷ es) r = run-tracks {m = after m e} {l = posted l (fed e)} (event-tracks h e r.0) es r.1

run-held : {m : Moment} {l : Ledger} → Tracks m l → (es : List Event) → Run m es → EachCall HeldCall l (accepted_in (map fed es))
unfolding accepted_in
run-held h [] r = tt
run-held {m} {l} h (e ∷ es) r =
    each-posted HeldCall l (fed e) (accepted_in (map fed es)) (event-held h e r.0)
    (run-held {m = after m e} {l = posted l (fed e)} (event-tracks h e r.0) es r.1)

total-is : {m : Moment} {l : Ledger} → Tracks m l → total m ≡ values l.made
unfolding total stream_of
total-is {m} {l} h =
    subst (λ (s : SonicStream). m.given ++ values (frames_of s.channels s.waiting.0 m.output) ≡ values l.made) (sym h.stream) h.made

-- ---- from an accepted opening

module _ (rate channels : ℕ) (ties : Ties) where
  opening-tracks : Tracks (opening (stream_of (fresh rate channels ties) 0)) (begun rate channels ties)
  unfolding opening begun fresh frames_of
  opening-tracks = record {
    waiting = 0;
    stream = refl;
    input = refl;
    input_length = sym (zero-mul channels);
    tail = refl;
    tail_length = sym (zero-mul channels);
    output_length = sym (zero-mul channels);
    made = refl;
    outcomes = refl;
  }

  pub record OpenedAs (s : SonicStream) : Type 0 where
    pub rate_good : rate_bad rate ≡ false
    pub stream : stream_of (fresh rate channels ties) 0 ≡ s

  pub opened-as : (s : SonicStream) → open_call rate channels ties ≡ Ok s → OpenedAs s
  unfolding open_call
  opened-as s = go (rate_bad rate) (channels_bad channels) refl
    where
      go : (b c : Bool) → rate_bad rate ≡ b
          → ◌≡◌ {A = Result SonicStream NotOpened} (cond b (Err (record { refusal = BadRate; given = rate; stream = zero_stream }))
          (cond c (Err (record { refusal = BadChannels; given = channels; stream = zero_stream })) (Ok (stream_of (fresh rate channels ties) 0)))) (Ok s)
          → OpenedAs s
      go true c r e = cc
      go false true r e = cc
      go false false r e = record { rate_good = r; stream = cc }

  module _ (s : SonicStream) (o : open_call rate channels ties ≡ Ok s) (es : List Event) (p : Run (opening s) es) where
    first-tracks : Tracks (opening s) (begun rate channels ties)
    first-tracks = subst (λ (x : SonicStream). Tracks (opening x) (begun rate channels ties)) (opened-as s o).stream opening-tracks

    pub last-tracks : Tracks (end (opening s) es) (ledger rate channels ties (map fed es))
    unfolding ledger
    last-tracks = run-tracks first-tracks es p

    pub calls-held : EachCall HeldCall (begun rate channels ties) (accepted_in (map fed es))
    calls-held = run-held first-tracks es p

    -- frames read followed by frames waiting, and the outcomes, are the ledger's
    pub run-is-ledger : (total (end (opening s) es) ≡ values (ledger rate channels ties (map fed es)).made)
        × ((end (opening s) es).outcomes ≡ (ledger rate channels ties (map fed es)).outcomes)
    run-is-ledger = (total-is last-tracks, last-tracks.outcomes)
