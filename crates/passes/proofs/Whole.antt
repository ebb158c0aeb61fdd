-- Pieces noted one after the other:
--   Piece, all, frames_of, periods_of      a piece with its periods; a list of them noted; what they add up to
--   frames-are, periods-are              the counts are the sums, modulo 2^64
--   longest-kept, longest-most           the longest stretch is as long as the last one was after any of the pieces, or longer
-- No contract cites this file. Assumes nothing.
use Rattle.std.proofs.Common.{◌≡◌, ℕ, ◌+◌, ◌%◌, ◌^◌, ◌<◌, ◌≤◌, Bool, true, false, cond, ltb, List, [], ◌∷◌, sym, refl, ap, ◌∙◌, le_trans, add-zero, add_assoc, mod-lt, mod-eq_of_lt, zero-add, arith, ltb-false, ltb-true}
use native.Mathlib.Nat.{mod-add-mod}
use Rattle.passes.specs.declared.Span.{Span}
use Rattle.passes.specs.declared.Passes.{Passes}
use Rattle.passes.specs.Passes.{none, joined, longer, noted}

pub record Piece : Type 0 where
  pub periods : ℕ
  pub span : Span

abbrev pub all : Passes → List Piece → Passes
all p [] = p
all p (x ∷ xs) = all (noted p x.periods x.span) xs

abbrev pub frames_of : List Piece → ℕ
frames_of [] = 0
frames_of (x ∷ xs) = x.span.frames + frames_of xs

abbrev pub periods_of : List Piece → ℕ
periods_of [] = 0
periods_of (x ∷ xs) = x.periods + periods_of xs

-- ---- sums

summed-none : (n : ℕ) → n < 2 ^ 64 → n ≡ (n + 0) % 2 ^ 64
summed-none n h = sym (ap (λ (k : ℕ). k % 2 ^ 64) (add-zero n) ∙ mod-eq_of_lt h)

summed-more : (n k rest : ℕ) → ((n + k) % 2 ^ 64 + rest) % 2 ^ 64 ≡ (n + (k + rest)) % 2 ^ 64
summed-more n k rest = mod-add-mod (n + k) (2 ^ 64) rest ∙ ap (λ (m : ℕ). m % 2 ^ 64) (add_assoc n k rest)

below : (n : ℕ) → n % 2 ^ 64 < 2 ^ 64
below n = mod-lt n {m = 2 ^ 64} (omega arith)

frames-from : (p : Passes) (xs : List Piece) → p.frames < 2 ^ 64 → (all p xs).frames ≡ (p.frames + frames_of xs) % 2 ^ 64
frames-from p [] h = summed-none p.frames h
frames-from p (x ∷ xs) h =
    frames-from (noted p x.periods x.span) xs (below (p.frames + x.span.frames)) ∙ summed-more p.frames x.span.frames (frames_of xs)

periods-from : (p : Passes) (xs : List Piece) → p.periods < 2 ^ 64 → (all p xs).periods ≡ (p.periods + periods_of xs) % 2 ^ 64
periods-from p [] h = summed-none p.periods h
periods-from p (x ∷ xs) h =
    periods-from (noted p x.periods x.span) xs (below (p.periods + x.periods)) ∙ summed-more p.periods x.periods (periods_of xs)

pub frames-are : (xs : List Piece) → (all none xs).frames ≡ frames_of xs % 2 ^ 64
frames-are xs = frames-from none xs (omega arith) ∙ ap (λ (n : ℕ). n % 2 ^ 64) (zero-add (frames_of xs))

pub periods-are : (xs : List Piece) → (all none xs).periods ≡ periods_of xs % 2 ^ 64
periods-are xs = periods-from none xs (omega arith) ∙ ap (λ (n : ℕ). n % 2 ^ 64) (zero-add (periods_of xs))

-- ---- the longest stretch

longer-both : (s t : Span) → (s.frames ≤ (longer s t).frames) × (t.frames ≤ (longer s t).frames)
longer-both s t = go (ltb s.frames t.frames) refl
  where
    go : (b : Bool) → ltb s.frames t.frames ≡ b → (s.frames ≤ (cond b t s).frames) × (t.frames ≤ (cond b t s).frames)
    go true e = (omega (arith, ltb-true s.frames t.frames e), omega arith)
    go false e = (omega arith, omega (arith, ltb-false s.frames t.frames e))

-- further pieces never make it shorter
pub longest-kept : (p : Passes) (xs : List Piece) → p.longest.frames ≤ (all p xs).longest.frames
longest-kept p [] = omega arith
longest-kept p (x ∷ xs) =
    le_trans (longer-both p.longest (joined p.last x.span)).0 (longest-kept (noted p x.periods x.span) xs)

last_most : (p : Passes) (xs : List Piece) → p.last.frames ≤ p.longest.frames → (all p xs).last.frames ≤ (all p xs).longest.frames
last_most p [] h = h
last_most p (x ∷ xs) h = last_most (noted p x.periods x.span) xs (longer-both p.longest (joined p.last x.span)).1

-- the last stretch after the pieces xs, and the longest one after more of them, ys
pub longest-most : (xs ys : List Piece) → (all none xs).last.frames ≤ (all (all none xs) ys).longest.frames
longest-most xs ys = le_trans (last_most none xs (omega arith)) (longest-kept (all none xs) ys)
