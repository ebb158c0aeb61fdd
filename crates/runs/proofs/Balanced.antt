-- C-16, proved: `totals`, `balance`, `reconciled`. The claims are in `specs/Balance.antt`. Passed on: staged-out (`Accounts`), by
-- which the frames out of the steps are those that go into rate conversion. Assumes nothing.
use mathlib.Core.Path.{◌≡◌, ap, subst}
use Prim.Native.Nat.{ℕ, ◌+◌}
use native.Mathlib.Omega.{arith}
use lib.ListN.{length}
use Rattle.search.specs.declared.Ties.{Ties}
use Rattle.stretch.proofs.Balance.{balanced}
use Rattle.stream.specs.declared.SonicStream.{SonicStream}
use Rattle.stream.specs.declared.balance.Balance.{Balance}
use Rattle.stream.specs.Settings.{fresh}
use Rattle.stream.specs.Stream.{stream_of}
use Rattle.runs.specs.Ledger.{Ledger, begun}
use Rattle.runs.specs.Demand.{RunOf, last, ledger_of, accepted_of, All, frames_in}
use Rattle.runs.specs.Balance.{steps_from, silent_in, NotStalled, cleared_in, TotalsClaim, BalanceClaim, ReconciledClaim}
use Rattle.runs.proofs.Simulation.{last-tracks, calls-held}
use Rattle.runs.proofs.Entries.{entries-tell}
use Rattle.runs.proofs.Claims.{ledger-is-book, outcomes-are-book}
use Rattle.runs.proofs.Accounts.{Accounts, begun-of, calls-account}
pub use Rattle.runs.proofs.Accounts.{staged-out}

module _ {rate channels : ℕ} {ties : Ties} (a : RunOf rate channels ties) where
  -- the stream after the last call is that of the ledger
  stream_is : (w : ℕ) × ((last a).stream ≡ stream_of (ledger_of a).state w)
  stream_is = let t = last-tracks rate channels ties a.stream a.opens a.events a.allowed in (t.waiting, t.stream)

  -- the frames that it holds, and its totals, are those of the ledger
  held-is : (last a).stream.held.0 ≡ length (ledger_of a).state.input
  unfolding stream_of
  held-is = ap (λ (s : SonicStream). s.held.0) stream_is.1

  totals-are : (last a).stream.balance ≡ (ledger_of a).state.balance
  unfolding stream_of
  totals-are = ap (λ (s : SonicStream). s.balance) stream_is.1

  -- the accepted calls account for them, if none stalled
  run-accounts : All NotStalled (last a).outcomes
      → Accounts (fresh rate channels ties) (ledger_of a).state (frames_in channels (accepted_of a) + silent_in rate (accepted_of a))
      (steps_from (begun rate channels ties) (accepted_of a)) (cleared_in a)
  unfolding begun
  run-accounts q =
      let start : Ledger = begun rate channels ties in
      let tells = (entries-tell NotStalled start (accepted_of a) (subst (All NotStalled) (outcomes-are-book a) q)).0 in
      let held = calls-held rate channels ties a.stream a.opens a.events a.allowed in
      rw (ledger-is-book a) (calls-account rate channels start (accepted_of a) (begun-of rate channels ties) held tells)

pub totals : TotalsClaim
totals rate channels ties a = totals-are a

pub balance : BalanceClaim
unfolding fresh
balance rate channels ties a q =
    let p = run-accounts a q in
    let skipped = ap (λ (b : Balance). b.skipped) (totals-are a) in
    let inserted = ap (λ (b : Balance). b.inserted) (totals-are a) in
    omega (arith, balanced (steps_from (begun rate channels ties) (accepted_of a)), p.skipped, p.inserted, skipped, inserted)

pub reconciled : ReconciledClaim
unfolding fresh
reconciled rate channels ties a q = omega (arith, (run-accounts a q).input, held-is a)
