-- docs/RULES.md, "A balance of frames": the balance of a run, as types: `TotalsClaim`, `BalanceClaim`,
-- `ReconciledClaim`; before them what they speak of: the steps of a run, the silent frames of its flushes, and the
-- frames that these clear. `proofs/Balanced.antt` proves the claims. Definitions only. Assumes nothing.
use Rattle.std.specs.Prelude.{◌≡◌, List, [], ◌∷◌, ◌++◌, ℕ, ◌+◌, ◌*◌, length}
use Rattle.search.specs.declared.Ties.{Ties}
use Rattle.period.specs.Rates.{max_required}
use Rattle.stretch.specs.declared.Step.{Step}
use Rattle.stretch.specs.Tally.{Tally, tally}
use Rattle.stream.specs.declared.balance.Balance.{Balance}
use Rattle.fill.specs.declared.Outcome.{Outcome}
use Rattle.fill.specs.declared.Outcome.TheVariants.{Empty, Copied, Waiting, Stretched, Stalled}
use Rattle.process.specs.Process.{write_work, flush_work}
use Rattle.runs.specs.Ledger.{Call, setting, write, flush, read, Ledger, begun, entry}
use Rattle.runs.specs.Demand.{RunOf, last, ledger_of, accepted_of, All, frames_in}

-- ---- the steps of a run

-- of an accepted call; a copy is one copying step
unfoldable pub steps_of : Ledger → Call → List Step
steps_of l (setting v) = []
steps_of l (write samples) = (write_work samples l.state).steps
steps_of l flush = (flush_work l.state).steps
steps_of l (read most) = []

-- of accepted calls, in order
unfoldable pub steps_from : Ledger → List Call → List Step
steps_from l [] = []
steps_from l (c ∷ cs) = steps_of l c ++ steps_from (entry l c) cs

-- ---- what a flush adds to the input, and clears

-- the silent frames of flushes
unfoldable pub silent_in : ℕ → List Call → ℕ
silent_in rate [] = 0
silent_in rate (setting v ∷ cs) = silent_in rate cs
silent_in rate (write samples ∷ cs) = silent_in rate cs
silent_in rate (flush ∷ cs) = 2 * max_required rate + silent_in rate cs
silent_in rate (read most ∷ cs) = silent_in rate cs

-- the frames that a call clears, unused
unfoldable pub cleared_by : Ledger → Call → ℕ
cleared_by l (setting v) = 0
cleared_by l (write samples) = 0
cleared_by l flush = length (flush_work l.state).state.input
cleared_by l (read most) = 0

unfoldable pub cleared_from : Ledger → List Call → ℕ
cleared_from l [] = 0
cleared_from l (c ∷ cs) = cleared_by l c + cleared_from (entry l c) cs

-- ---- of a run: its refused calls and its reads change none of it

module _ {rate channels : ℕ} {ties : Ties} where
  -- frames out of the stretch or copy, used, skipped and inserted, added up from its steps
  abbrev pub tally_of : RunOf rate channels ties → Tally
  tally_of a = tally (steps_from (begun rate channels ties) (accepted_of a))

  -- the frames that its flushes cleared
  abbrev pub cleared_in : RunOf rate channels ties → ℕ
  cleared_in a = cleared_from (begun rate channels ties) (accepted_of a)

  -- the totals of its stream
  abbrev pub totals_of : RunOf rate channels ties → Balance
  totals_of a = (last a).stream.balance

-- none of its accepted calls stalled
abbrev pub NotStalled : Outcome → Type 0
NotStalled Empty = Unit {0}
NotStalled Copied = Unit {0}
NotStalled Waiting = Unit {0}
NotStalled Stretched = Unit {0}
NotStalled Stalled = ⊥

-- ---- the claims

-- The totals of the stream are those of the ledger, which has no limit.
abbrev pub TotalsClaim : Type 0
TotalsClaim =
    (rate channels : ℕ) (ties : Ties) (a : RunOf rate channels ties) → totals_of a ≡ (ledger_of a).state.balance

-- Over any list of calls from a fresh stream, none stalled, frames out of the stretch or copy before rate conversion,
-- plus skipped, equals frames used plus inserted; out and used are added up from the steps, skipped and inserted are
-- the stream's totals.
abbrev pub BalanceClaim : Type 0
BalanceClaim = (rate channels : ℕ) (ties : Ties) (a : RunOf rate channels ties) → All NotStalled (last a).outcomes
    → (tally_of a).out + (totals_of a).skipped ≡ (tally_of a).used + (totals_of a).inserted

-- Over the same lists, frames written plus silent frames are frames used plus held plus cleared.
abbrev pub ReconciledClaim : Type 0
ReconciledClaim = (rate channels : ℕ) (ties : Ties) (a : RunOf rate channels ties) → All NotStalled (last a).outcomes
    → frames_in channels (accepted_of a) + silent_in rate (accepted_of a)
    ≡ (tally_of a).used + (last a).stream.held.0 + cleared_in a
