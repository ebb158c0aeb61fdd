-- What the steps of calls add up to, and what these leave of the input and of the totals (C-16). Here:
--   staged-out        a call's frames out are those that go into rate conversion
--   Accounts          frames added, steps and frames cleared account for two states, one behind the other
--   work-accounts     of a call's work that does not stall
--   calls-account     of accepted calls, one after another, none stalled
-- Assumes nothing.
use mathlib.Core.Path.{◌≡◌, refl, ap, ◌∙◌}
use mathlib.Core.Bool.{Bool, true, false, cond}
use mathlib.Core.List.{List, [], ◌∷◌, ◌++◌, map}
use Prim.Native.Nat.{ℕ, ◌+◌, ◌*◌, ◌≤◌, zero-le}
use native.Mathlib.Omega.{arith}
use lib.IntN.{pos}
use lib.Ieee.{Float}
use lib.ListN.{length, replicate, length-append, length-map, length-replicate, length-drop}
use Rattle.frames.specs.Framing.{Frame, flat}
use Rattle.frames.proofs.Framing.{length-frames_of}
use Rattle.floats.specs.Write.{sample_in}
use Rattle.search.specs.declared.Ties.{Ties}
use Rattle.period.specs.Rates.{max_required}
use Rattle.stretch.specs.declared.Step.{Step}
use Rattle.stretch.specs.Tally.{Tally, tally}
use Rattle.stretch.specs.Speed.{last_place, stalled, answer_for}
use Rattle.stretch.proofs.Balance.{tally-append, position-used}
use Rattle.stretch.proofs.Claims.{used-held}
use Rattle.stream.specs.declared.balance.Balance.{Balance}
use Rattle.stream.specs.Balance.{booked}
use Rattle.stream.specs.State.{State}
use Rattle.stream.specs.Settings.{fresh}
use Rattle.fill.specs.declared.Outcome.{Outcome}
use Rattle.fill.specs.declared.Outcome.TheVariants.{Empty, Waiting, Stretched, Stalled}
use Rattle.fill.specs.Taking.{Taken, removed, nothing, copied, call_at, place_of, steps_at, stepped, stretched, speed_at, taken, counted}
use Rattle.process.specs.Process.{whole_frames, joined, counting, finished, process, write_work, flush_work, cleared}
use Rattle.process.proofs.Claims.{Held, held-ready}
use Rattle.runs.specs.Ledger.{Call, setting, write, flush, read, Ledger, begun, entry}
use Rattle.runs.specs.Demand.{frames_in}
use Rattle.runs.specs.Balance.{steps_of, steps_from, silent_in, cleared_by, cleared_from, NotStalled}
use Rattle.runs.proofs.Work.{setting-cases, taken-cases, taken-leaves, process-rate, process-channels}
use Rattle.runs.proofs.Tracking.{HeldCall}
use Rattle.runs.proofs.Quiet.{Tells}
use Rattle.runs.proofs.Entries.{entries, EachCall}

-- ---- frames out

pub staged-out : (s : State) → (process s).staged ≡ (tally (process s).steps).out
unfolding process finished nothing copied stretched tally
staged-out s =
    taken-cases s (λ (t : Taken). length t.frames ≡ (tally t.steps).out) (λ _. refl) refl (length-frames_of s.channels _ _) (omega arith)

-- ---- frames used: the steps do not stall, and what they do not use is still held

record Uses (s : State) (t : Taken) : Type 0 where
  goes : stalled t.steps ≡ false
  used : length s.input ≡ (tally t.steps).used + length t.state.input

nothing-uses : (o : Outcome) (s : State) → Uses s (nothing o s)
unfolding nothing stalled tally
nothing-uses o s = record { goes = refl; used = omega arith }

copied-uses : (s : State) → Uses s (copied s)
unfolding copied removed stalled tally
copied-uses s = record { goes = refl; used = omega (arith, length-drop (length s.input) s.input) }

module _ (s : State) (h : Held s) where
  abbrev x : Float
  x = speed_at s

  stretched-uses : stalled (steps_at x s) ≡ false → Uses s (stretched x s)
  unfolding stretched stepped removed answer_for
  stretched-uses e =
      let at : ℕ = (last_place (call_at x s) (flat s.input) (place_of s) (steps_at x s)).position.0 in
      let used : at ≡ 0 + (tally (steps_at x s)).used = position-used (call_at x s) (flat s.input) (place_of s) (steps_at x s) in
      let most : at ≤ length s.input = rw e at (used-held (flat s.input) (place_of s) (held-ready s h) h.prev zero-le) in
      record { goes = e; used = rw e (omega (arith, length-drop at s.input)) }

  goes_of : (b : Bool) → NotStalled (cond b Stalled Stretched) → b ≡ false
  goes_of true q = absurd q
  goes_of false q = refl

  taken-uses : NotStalled (taken s).told.outcome → Uses s (taken s)
  unfolding nothing copied stretched
  taken-uses =
      taken-cases s (λ (t : Taken). NotStalled t.told.outcome → Uses s t) (λ _ _. nothing-uses Empty s) (λ _. nothing-uses Waiting s)
      (λ q. stretched-uses (goes_of (stalled (steps_at x s)) q)) (λ _. copied-uses s)

-- ---- from a state s to a state t: the frames added come before the steps ss, the frames cleared behind them

pub record Accounts (s t : State) (added : ℕ) (ss : List Step) (gone : ℕ) : Type 0 where
  pub skipped : t.balance.skipped ≡ s.balance.skipped + (tally ss).skipped
  pub inserted : t.balance.inserted ≡ s.balance.inserted + (tally ss).inserted
  pub input : length s.input + added ≡ (tally ss).used + length t.input + gone

-- one behind the other
accounts-chain : {s t r : State} {ss ts : List Step} {a b g k : ℕ} (n : ℕ) → n ≡ a + b → Accounts s t a ss g → Accounts t r b ts k
    → Accounts s r n (ss ++ ts) (g + k)
accounts-chain {s} {t} {r} {ss} {ts} n e p q =
    let whole = tally-append ss ts in
    let used = ap (λ (x : Tally). x.used) whole in
    let skipped = ap (λ (x : Tally). x.skipped) whole in
    let inserted = ap (λ (x : Tally). x.inserted) whole in
    record {
      skipped = omega (arith, skipped, p.skipped, q.skipped);
      inserted = omega (arith, inserted, p.inserted, q.inserted);
      input = omega (arith, used, p.input, q.input);
    }

-- nothing happens to input and totals
still : {s t : State} → t.input ≡ s.input → t.balance ≡ s.balance → Accounts s t 0 [] 0
unfolding tally
still i b =
    record {
      skipped = omega (arith, ap (λ (x : Balance). x.skipped) b);
      inserted = omega (arith, ap (λ (x : Balance). x.inserted) b);
      input = omega (arith, ap length i);
    }

-- frames join the input
joined-accounts : (fs : List Frame) (s : State) → Accounts s (joined fs s) (length fs) [] 0
unfolding joined tally
joined-accounts fs s = record { skipped = omega arith; inserted = omega arith; input = omega (arith, length-append s.input fs) }

-- and what is left of it is cleared
cleared-accounts : {s t : State} {n : ℕ} {ss : List Step} → Accounts s t n ss 0 → Accounts s (cleared t) n ss (length t.input)
unfolding cleared
cleared-accounts p = record { skipped = p.skipped; inserted = p.inserted; input = omega (arith, p.input) }

-- ---- a call's work

counted-all : (ss : List Step) → stalled ss ≡ false → counted ss ≡ record { skipped = (tally ss).skipped; inserted = (tally ss).inserted }
unfolding counted
counted-all ss e = rw e

pub work-accounts : (s : State) → Held s → NotStalled (process s).told.outcome → Accounts s (process s).state 0 (process s).steps 0
unfolding process finished counting booked
work-accounts s h q =
    let t : Taken = taken s in
    let u : Uses s t = taken-uses s h q in
    let all = counted-all t.steps u.goes in
    let same = (taken-leaves s).totals in
    record {
      skipped = omega (arith, ap (λ (b : Balance). b.skipped) same, ap (λ (b : Balance). b.skipped) all);
      inserted = omega (arith, ap (λ (b : Balance). b.inserted) same, ap (λ (b : Balance). b.inserted) all);
      input = omega (arith, u.used);
    }

-- with the frames fs, which the call adds
added-accounts : (fs : List Frame) (s : State) (n : ℕ) → n ≡ length fs → Held (joined fs s) → NotStalled (process (joined fs s)).told.outcome
    → Accounts s (process (joined fs s)).state n (process (joined fs s)).steps 0
added-accounts fs s n e h q = accounts-chain n (omega (arith, e)) (joined-accounts fs s) (work-accounts (joined fs s) h q)

-- ---- calls of a ledger

module _ (rate channels : ℕ) where
  -- of this rate and channels
  pub record Of (l : Ledger) : Type 0 where
    pub rate_is : l.state.rate ≡ rate
    pub channels_is : l.state.channels ≡ channels

  pub begun-of : (ties : Ties) → Of (begun rate channels ties)
  unfolding begun fresh
  begun-of ties = record { rate_is = refl; channels_is = refl }

  entry_of : (l : Ledger) (c : Call) → Of l → Of (entry l c)
  unfolding entry write_work flush_work joined cleared
  entry_of l (setting v) o =
      setting-cases (λ (s : State). Of (record { state = s; made = l.made; outcomes = l.outcomes })) l.state
      (λ speed pitch volume over at. record { rate_is = o.rate_is; channels_is = o.channels_is }) v
  entry_of l (write samples) o = record { rate_is = process-rate _ ∙ o.rate_is; channels_is = process-channels _ ∙ o.channels_is }
  entry_of l flush o = record { rate_is = process-rate _ ∙ o.rate_is; channels_is = process-channels _ ∙ o.channels_is }
  entry_of l (read most) o = o

  -- the frames that a call adds
  abbrev added_by : Call → ℕ
  added_by c = frames_in channels (c ∷ []) + silent_in rate (c ∷ [])

  entry-accounts : (l : Ledger) (c : Call) → Of l → HeldCall l c → Tells NotStalled l c
      → Accounts l.state (entry l c).state (added_by c) (steps_of l c) (cleared_by l c)
  unfolding entry write_work flush_work steps_of cleared_by frames_in silent_in
  entry-accounts l (setting v) o h q =
      setting-cases (λ (s : State). Accounts l.state s 0 [] 0) l.state (λ speed pitch volume over at. still refl refl) v
  entry-accounts l (write samples) o h q =
      let whole : ℕ → List (List Float) = λ k. whole_frames k samples in
      let number = length-map (whole l.state.channels) (map sample_in) ∙ ap (λ (k : ℕ). length (whole k)) o.channels_is in
      added-accounts (map (map sample_in) (whole l.state.channels)) l.state _ (omega (arith, number)) h q
  entry-accounts l flush o h q =
      let silent : Frame = replicate l.state.channels (pos 0) in
      let number = length-replicate (2 * max_required l.state.rate) silent ∙ ap (λ (k : ℕ). 2 * max_required k) o.rate_is in
      cleared-accounts (added-accounts (replicate (2 * max_required l.state.rate) silent) l.state _ (omega (arith, number)) h q)
  entry-accounts l (read most) o h q = still refl refl

  -- the frames that calls add
  added-on : (c : Call) (cs : List Call)
      → frames_in channels (c ∷ cs) + silent_in rate (c ∷ cs) ≡ added_by c + (frames_in channels cs + silent_in rate cs)
  unfolding frames_in silent_in
  added-on (setting v) cs = omega arith
  added-on (write samples) cs = omega arith
  added-on flush cs = omega arith
  added-on (read most) cs = omega arith

  pub calls-account : (l : Ledger) (cs : List Call) → Of l → EachCall HeldCall l cs → EachCall (Tells NotStalled) l cs
      → Accounts l.state (entries l cs).state (frames_in channels cs + silent_in rate cs) (steps_from l cs) (cleared_from l cs)
  unfolding entries frames_in silent_in steps_from cleared_from
  calls-account l [] o h q = still refl refl
  calls-account l (c ∷ cs) o h q =
      accounts-chain _ (added-on c cs) (entry-accounts l c o h.0 q.0) (calls-account (entry l c) cs (entry_of l c o) h.1 q.1)
