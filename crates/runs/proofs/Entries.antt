-- The ledger as its accepted settings, writes and flushes, with what is said of each; where all answer 'copied' or 'empty', as their joined frames.
-- Assumes nothing.
use mathlib.Core.Path.{◌≡◌, refl, sym, ap, ◌∙◌}
use mathlib.Core.Bool.{Bool, true, false, cond}
use mathlib.Core.List.{List, [], ◌∷◌, ◌++◌, map, map-append}
use Prim.Native.Nat.{ℕ}
use lib.Ieee.{Float}
use Rattle.floats.specs.Write.{sample_in}
use Rattle.fill.specs.declared.Outcome.{Outcome}
use Rattle.process.specs.Process.{whole_frames}
use Rattle.runs.specs.Ledger.{Call, setting, write, flush, read, Fed, Ledger, entry, posted, ledger_from}
use Rattle.runs.specs.Demand.{unless_read, accepted_in, All, Mark, at-setting, at-flush, Segment, Joined, marked, joined_frames}
use Rattle.runs.proofs.Work.{bare}
use Rattle.runs.proofs.Passage.{Passage, passed, all, passed_none, passed-append}
use Rattle.runs.proofs.Quiet.{passage_in, NothingHeld, Tells, QuietCall, passed_setting, passed_flush, samples_in, setting-passes, write-passes, flush-passes}

-- ---- accepted calls, one after another

unfoldable pub entries : Ledger → List Call → Ledger
entries l [] = l
entries l (c ∷ cs) = entries (entry l c) cs

entries-unless : (l : Ledger) (c : Call) (cs : List Call) → entries (entry l c) cs ≡ entries l (unless_read c cs)
unfolding entries unless_read entry
entries-unless l (setting v) cs = refl
entries-unless l (write samples) cs = refl
entries-unless l flush cs = refl
entries-unless l (read most) cs = refl

-- a read or a refused call has no entry
entries-posted : (l : Ledger) (f : Fed) (cs : List Call) → entries (posted l f) cs ≡ entries l (cond f.accepted (unless_read f.call cs) cs)
unfolding posted
entries-posted l f cs = go f.accepted
  where
    go : (b : Bool) → entries (cond b (entry l f.call) l) cs ≡ entries l (cond b (unless_read f.call cs) cs)
    go true = entries-unless l f.call cs
    go false = refl

pub ledger-entries : (l : Ledger) (fs : List Fed) → ledger_from l fs ≡ entries l (accepted_in fs)
unfolding ledger_from accepted_in entries
ledger-entries l [] = refl
ledger-entries l (f ∷ fs) = ledger-entries (posted l f) fs ∙ entries-posted l f (accepted_in fs)

-- ---- what is said of each call, at the ledger before it

abbrev pub EachCall : (Ledger → Call → Type 0) → Ledger → List Call → Type 0
EachCall P l [] = Unit {0}
EachCall P l (c ∷ cs) = P l c × EachCall P (entry l c) cs

abbrev pub QuietCalls : Ledger → List Call → Type 0
QuietCalls l cs = EachCall QuietCall l cs

module _ (P : Ledger → Call → Type 0) where
  each-unless : (l : Ledger) (c : Call) (cs : List Call) → P l c → EachCall P (entry l c) cs → EachCall P l (unless_read c cs)
  unfolding unless_read entry
  each-unless l (setting v) cs p q = (p, q)
  each-unless l (write samples) cs p q = (p, q)
  each-unless l flush cs p q = (p, q)
  each-unless l (read most) cs p q = q

  -- of accepted calls, if it holds of each that is
  pub each-posted : (l : Ledger) (f : Fed) (cs : List Call) → (f.accepted ≡ true → P l f.call) → EachCall P (posted l f) cs
      → EachCall P l (cond f.accepted (unless_read f.call cs) cs)
  unfolding posted
  each-posted l f cs = go f.accepted
    where
      go : (b : Bool) → (b ≡ true → P l f.call) → EachCall P (cond b (entry l f.call) l) cs → EachCall P l (cond b (unless_read f.call cs) cs)
      go true p q = each-unless l f.call cs (p refl) q
      go false p q = q

-- ---- from outcomes to calls

module _ (P : Outcome → Type 0) where
  all_left : (xs ys : List Outcome) → All P (xs ++ ys) → All P xs
  all_left [] ys q = tt
  all_left (x ∷ xs) ys q = (q.0, all_left xs ys q.1)

  all_right : (xs ys : List Outcome) → All P (xs ++ ys) → All P ys
  all_right [] ys q = q
  all_right (x ∷ xs) ys q = all_right xs ys q.1

  entry-tells : (l : Ledger) (c : Call) → All P (entry l c).outcomes → Tells P l c × All P l.outcomes
  unfolding entry
  entry-tells l (setting v) q = (tt, q)
  entry-tells l (write samples) q = ((all_right l.outcomes _ q).0, all_left l.outcomes _ q)
  entry-tells l flush q = ((all_right l.outcomes _ q).0, all_left l.outcomes _ q)
  entry-tells l (read most) q = (tt, q)

  pub entries-tell : (l : Ledger) (cs : List Call) → All P (entries l cs).outcomes → EachCall (Tells P) l cs × All P l.outcomes
  unfolding entries
  entries-tell l [] q = (tt, q)
  entries-tell l (c ∷ cs) q =
      let rest = entries-tell (entry l c) cs q in
      let first = entry-tells l c rest.1 in
      ((first.0, rest.0), first.1)

  -- and back

  all_both : (xs ys : List Outcome) → All P xs → All P ys → All P (xs ++ ys)
  all_both [] ys p q = q
  all_both (x ∷ xs) ys p q = (p.0, all_both xs ys p.1 q)

  entry-told : (l : Ledger) (c : Call) → Tells P l c → All P l.outcomes → All P (entry l c).outcomes
  unfolding entry
  entry-told l (setting v) t q = q
  entry-told l (write samples) t q = all_both l.outcomes _ q (t, tt)
  entry-told l flush t q = all_both l.outcomes _ q (t, tt)
  entry-told l (read most) t q = q

  pub entries-told : (l : Ledger) (cs : List Call) → EachCall (Tells P) l cs → All P l.outcomes → All P (entries l cs).outcomes
  unfolding entries
  entries-told l [] t q = q
  entries-told l (c ∷ cs) t q = entries-told (entry l c) cs t.1 (entry-told l c t.0 q)

-- ---- the joined frames pass through

unfoldable pub passed_mark : Mark → Passage → Passage
passed_mark (at-setting v) q = passed_setting v q
passed_mark at-flush q = passed_flush q

unfoldable pub passed_segments : Passage → List Segment → Passage
passed_segments q [] = q
passed_segments q (s ∷ ss) = passed_segments (passed all (passed_mark s.mark q) (samples_in s.frames)) ss

unfoldable pub passed_joined : Passage → Joined → Passage
passed_joined q j = passed_segments (passed all q (samples_in j.first)) j.segments

-- a mark in front
passed-marked : (mark : Mark) (q : Passage) (j : Joined) → passed_joined (passed_mark mark q) j ≡ passed_joined q (marked mark j)
unfolding passed_joined passed_segments marked
passed-marked mark q j =
    ap (λ (c : Passage). passed_segments (passed all (passed_mark mark c) (samples_in j.first)) j.segments) (sym (passed_none q))

pub entries-pass : {rate channels : ℕ} (l : Ledger) (cs : List Call) → NothingHeld rate channels l → QuietCalls l cs
    → passage_in (entries l cs) ≡ passed_joined (passage_in l) (joined_frames channels cs)
unfolding entries joined_frames passed_mark passed_joined passed_segments bare entry
entries-pass l [] h q = sym (passed_none (passage_in l))
entries-pass {rate} {channels} l (setting v ∷ cs) h q =
    let j : Joined = joined_frames channels cs in
    let p = setting-passes h v in
    entries-pass (entry l (setting v)) cs p.1 q.1
    ∙ ap (λ (c : Passage). passed_joined c j) p.0 ∙ passed-marked (at-setting v) (passage_in l) j
entries-pass {rate} {channels} l (write samples ∷ cs) h q =
    let j : Joined = joined_frames channels cs in
    let whole : List (List Float) = whole_frames channels samples in
    let p = write-passes h samples q.0 in
    entries-pass (entry l (write samples)) cs p.1 q.1
    ∙ ap (λ (c : Passage). passed_joined c j) p.0
    ∙ ap (λ (c : Passage). passed_segments c j.segments)
    (sym (passed-append (passage_in l) (samples_in whole) (samples_in j.first) h.short)
    ∙ ap (passed all (passage_in l)) (sym (map-append (map sample_in) whole j.first)))
entries-pass {rate} {channels} l (flush ∷ cs) h q =
    let j : Joined = joined_frames channels cs in
    let p = flush-passes h q.0 in
    entries-pass (entry l flush) cs p.1 q.1
    ∙ ap (λ (c : Passage). passed_joined c j) p.0 ∙ passed-marked at-flush (passage_in l) j
entries-pass l (read most ∷ cs) h q = entries-pass l cs h q.1
