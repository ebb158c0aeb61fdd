-- Laws of a kept part and of an area that a call is lent: what the area shows of it, and what a call leaves of it. Assumes nothing.
use mathlib.Core.Path.{◌≡◌, refl, sym, ap, ◌∙◌, subst}
use mathlib.Core.Bool.{Bool, true, false}
use mathlib.Core.List.{List, ◌++◌}
use Prim.Native.Nat.{ℕ, ◌*◌, ◌≤◌}
use native.Mathlib.Nat.{le_refl, le_of_lt}
use native.Mathlib.Omega.{arith}
use borrow.Author.Tests.{leb-true, leb-false}
use lib.Dec.{leb}
use lib.IntN.{ℤ}
use lib.ListN.{length, take, drop, take-append-drop}
use lib.Seq.{take-append-le, take_all, length-take-le}
use Rattle.frames.specs.Framing.{frames_of}
use Rattle.frames.proofs.Framing.{frames_of-take, frames_of-cong, samples-cong}
use Rattle.runs.specs.Run.{Agree, leave}

-- an area that holds the whole kept part shows it
agree-whole : (kept area : List ℤ) → Agree kept area → length kept ≤ length area → take (length kept) area ≡ kept
unfolding Agree
agree-whole kept area e h = e ∙ take_all (length area) kept h

-- the area holds n samples: they are what is left
leave-whole : (n : ℕ) (area kept : List ℤ) → n ≤ length area → leave n area kept ≡ take n area
unfolding leave
leave-whole n area kept h = take-append-le n area (drop (length area) kept) h

-- from a to b an area keeps a part, as far as it reaches
leave_same : (a b kept : List ℤ) → Agree kept a → length b ≡ length a → take (length kept) b ≡ take (length kept) a → leave (length kept) b kept ≡ kept
unfolding leave Agree
leave_same a b kept g l e = go (leb (length kept) (length b)) refl
  where
    go : (t : Bool) → leb (length kept) (length b) ≡ t → take (length kept) (b ++ drop (length b) kept) ≡ kept
    go true t =
        let h : length kept ≤ length b = leb-true (length kept) (length b) t in
        take-append-le (length kept) b (drop (length b) kept) h ∙ e ∙ g ∙ take_all (length a) kept (omega arith)
    go false t =
        let h : length b ≤ length kept = le_of_lt (leb-false (length kept) (length b) t) in
        let all : take (length kept) b ≡ b = take_all (length kept) b h in
        let front : b ≡ take (length b) kept = sym all ∙ e ∙ g ∙ ap (λ (i : ℕ). take i kept) (sym l) in
        let whole : b ++ drop (length b) kept ≡ kept =
        ap (λ (r : List ℤ). r ++ drop (length b) kept) front ∙ take-append-drop (length b) kept in
        rw whole (take_all (length kept) kept (le_refl (length kept)))

-- ---- a kept part of k frames, ch samples each

-- an area that is long enough shows the kept frames
pub frames-shown : (ch k : ℕ) (kept area : List ℤ) → Agree kept area → length kept ≡ k * ch → k * ch ≤ length area
    → frames_of ch k area ≡ frames_of ch k kept
frames-shown ch k kept area g l h =
    let e : take (length kept) area ≡ kept = agree-whole kept area g (omega arith) in
    let f : take (length kept) kept ≡ kept = take_all (length kept) kept (le_refl (length kept)) in
    frames_of-cong ch k area kept (subst (λ (i : ℕ). take i area ≡ take i kept) l (e ∙ sym f))

-- from a to b a call keeps them
pub frames-kept : (ch k : ℕ) (kept a b : List ℤ) → Agree kept a → length b ≡ length a → length kept ≡ k * ch
    → frames_of ch k b ≡ frames_of ch k a → leave (k * ch) b kept ≡ kept
frames-kept ch k kept a b g s l e =
    subst (λ (i : ℕ). leave i b kept ≡ kept) l
    (leave_same a b kept g s (subst (λ (i : ℕ). take i b ≡ take i a) (sym l) (samples-cong ch k b a e)))

-- a call leaves k frames in an area that has room for them
pub frames-left : (ch k : ℕ) (kept b : List ℤ) → k * ch ≤ length b → frames_of ch k (leave (k * ch) b kept) ≡ frames_of ch k b
frames-left ch k kept b h = rw (leave-whole (k * ch) b kept h) (frames_of-take ch k b)

pub length-left : (ch k : ℕ) (kept b : List ℤ) → k * ch ≤ length b → length (leave (k * ch) b kept) ≡ k * ch
length-left ch k kept b h = rw (leave-whole (k * ch) b kept h) (length-take-le (k * ch) b h)
