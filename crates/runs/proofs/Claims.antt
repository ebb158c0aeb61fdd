-- Demand 3, proved: `ledger-claim`, `same-calls`, `same-frames`, `count`. The claims are in `specs/Demand.antt`. Assumes nothing.
use mathlib.Core.Path.{◌≡◌, refl, sym, ap, ◌∙◌, subst}
use mathlib.Core.Bool.{false}
use mathlib.Core.List.{List, ◌∷◌, ◌++◌, map}
use Prim.Native.Nat.{ℕ, ◌≤◌, ◌<◌}
use native.Mathlib.Omega.{arith}
use borrow.Author.Tests.{ltb-false}
use lib.Dec.{T, ltb}
use lib.Ieee.{Float, le, of_bits, neg}
use lib.ListN.{length, length-map}
use Rattle.frames.specs.Framing.{Frame}
use Rattle.floats.specs.Write.{sample_out}
use Rattle.floats.specs.Settings.{min_pitch, max_pitch}
use Rattle.floats.proofs.Facts.{clamped-in}
use Rattle.rate.specs.declared.Rates.{Rates}
use Rattle.rate.specs.Halving.{rates_of}
use Rattle.rate.proofs.Halving.{rates-within}
use Rattle.search.specs.declared.Ties.{Ties}
use Rattle.stream.specs.declared.Setting.TheVariants.{Pitch}
use Rattle.stream.specs.Settings.{fresh}
use Rattle.stream.specs.Refusals.{rate_bad}
use Rattle.stream.proofs.InOrder.{neither}
use Rattle.runs.specs.Ledger.{Call, setting, Ledger, begun, ledger}
use Rattle.runs.specs.Run.{values, total, fed}
use Rattle.runs.specs.Demand.{RunOf, last, ledger_of, accepted_of, All, CopiedOrEmpty, NoFlush, Joined, joined_frames, frames_in, held_pitch}
use Rattle.runs.specs.Demand.{LedgerClaim, SameCallsClaim, SameFramesClaim, CountClaim}
use Rattle.runs.proofs.Simulation.{opened-as, run-is-ledger}
use Rattle.runs.proofs.Passage.{Passage}
use Rattle.runs.proofs.Quiet.{passage_in, NothingHeld}
use Rattle.runs.proofs.Entries.{entries, ledger-entries, QuietCalls, entries-tell, passed_joined, entries-pass}
use Rattle.runs.proofs.Counting.{FramesCounted, Untouched, calls-counted, counted_is}

-- ---- the ledger

pub ledger-claim : LedgerClaim
ledger-claim rate channels ties a = run-is-ledger rate channels ties a.stream a.opens a.events a.allowed

-- ---- the same accepted calls

module _ {rate channels : ℕ} {ties : Ties} (a : RunOf rate channels ties) where
  -- the ledger, by the accepted calls alone
  abbrev book : Ledger
  book = entries (begun rate channels ties) (accepted_of a)

  pub ledger-is-book : ledger_of a ≡ book
  unfolding ledger
  ledger-is-book = ledger-entries (begun rate channels ties) (map fed a.events)

  total-is-book : total (last a) ≡ values book.made
  total-is-book = (ledger-claim rate channels ties a).0 ∙ ap (λ (l : Ledger). values l.made) ledger-is-book

  pub outcomes-are-book : (last a).outcomes ≡ book.outcomes
  outcomes-are-book = (ledger-claim rate channels ties a).1 ∙ ap (λ (l : Ledger). l.outcomes) ledger-is-book

pub same-calls : SameCallsClaim
same-calls rate channels ties a b e =
    let f : book a ≡ book b = ap (entries (begun rate channels ties)) e in (
      total-is-book a ∙ ap (λ (l : Ledger). values l.made) f ∙ sym (total-is-book b),
      outcomes-are-book a ∙ ap (λ (l : Ledger). l.outcomes) f ∙ sym (outcomes-are-book b),
    )

-- ---- the same joined frames

module _ (rate channels : ℕ) (ties : Ties) where
  begun-calm : NothingHeld rate channels (begun rate channels ties)
  unfolding begun fresh
  begun-calm = record { rate_is = refl; channels_is = refl; input = refl; short = omega arith }

  begun-untouched : Untouched (begun rate channels ties)
  unfolding begun fresh
  begun-untouched = record { tail = refl; made = refl }

  -- what is made of joined frames alone
  abbrev made_of : Joined → List Frame
  made_of j = (passed_joined (passage_in (begun rate channels ties)) j).made

module _ {rate channels : ℕ} {ties : Ties} (a : RunOf rate channels ties) (q : All CopiedOrEmpty (last a).outcomes) where
  quiet-calls : QuietCalls (begun rate channels ties) (accepted_of a)
  quiet-calls = (entries-tell CopiedOrEmpty (begun rate channels ties) (accepted_of a) (subst (All CopiedOrEmpty) (outcomes-are-book a) q)).0

  made-joined : (book a).made ≡ made_of rate channels ties (joined_frames channels (accepted_of a))
  made-joined = ap (λ (x : Passage). x.made) (entries-pass (begun rate channels ties) (accepted_of a) (begun-calm rate channels ties) quiet-calls)

pub same-frames : SameFramesClaim
same-frames rate channels ties a b qa qb e =
    total-is-book a ∙ ap (λ (fs : List Frame). values fs) (made-joined a qa ∙ ap (made_of rate channels ties) e ∙ sym (made-joined b qb)) ∙ sym (total-is-book b)

-- ---- the count

rate-between : (rate : ℕ) → rate_bad rate ≡ false → (1000 ≤ rate) × (rate ≤ 500000)
unfolding rate_bad
rate-between rate e =
    let n = neither (ltb rate 1000) (ltb 500000 rate) e in
    (ltb-false rate 1000 n.0, ltb-false 500000 rate n.1)

pub pitch-range : T (le min_pitch max_pitch)
unfolding le of_bits neg
pitch-range = tt

-- O of an opened rate and a pitch as it is held
old-positive : (rate : ℕ) (x : Float) → rate_bad rate ≡ false → 0 < (rates_of rate (held_pitch x)).old
old-positive rate x e =
    let b = rate-between rate e in
    let p = clamped-in x min_pitch max_pitch pitch-range in
    (rates-within rate (held_pitch x) b.0 b.1 p.0 p.1).old_least

pub count : CountClaim
count rate channels ties a q before behind x e w n other k =
    let start : Ledger = begun rate channels ties in
    let cs : List Call = before ++ setting (Pitch x) ∷ behind in
    let quiet : QuietCalls start cs = subst (QuietCalls start) e (quiet-calls a q) in
    let r : Rates = rates_of rate (held_pitch x) in
    let counted : FramesCounted r (frames_in channels cs) (entries start cs).made =
    calls-counted rate channels x other before behind start (begun-calm rate channels ties) (begun-untouched rate channels ties) quiet w n (subst (All NoFlush) e k) in
    let in-run : FramesCounted r (frames_in channels (accepted_of a)) (book a).made =
    subst (λ (c : List Call). FramesCounted r (frames_in channels c) (entries start c).made) (sym e) counted in
    let positive : 0 < r.old = old-positive rate x (opened-as rate channels ties a.stream a.opens).rate_good in
    ap length (total-is-book a) ∙ length-map (book a).made (map sample_out) ∙ counted_is r (frames_in channels (accepted_of a)) (book a).made positive in-run
