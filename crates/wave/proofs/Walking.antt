-- Reading a file chunk by chunk, in this order:
--   walk-enough     any count of chunks above the length of the rest answers the same
--   walk_refused, walk-other, walk-data     one chunk
--   walk-begun, walk-next     the loop of `read_wave`: where it begins, and one chunk further
--   walk-on     one chunk further, by the byte at which the rest begins
-- Assumes nothing.
use mathlib.Core.Path.{◌≡◌, refl, ap, ◌∙◌}
use mathlib.Core.Bool.{true, ◌&&◌}
use mathlib.Core.List.{List}
use Prim.Native.Nat.{ℕ, zero, suc, ◌+◌, ◌-◌, ◌≤◌, ◌<◌}
use native.Mathlib.Omega.{arith}
use borrow.Author.Tests.{leb-true}
use lib.Dec.{leb}
use lib.ListN.{length, drop, length-drop}
use lib.Seq.{drop-drop}
use Rattle.stream.proofs.Testing.{both}
use Rattle.chunks.specs.declared.Format.{Format}
use Rattle.chunks.specs.declared.Chunk.{Chunk}
use Rattle.chunks.specs.Chunks.{riff_id, wave_id, is_id, is_wave, chunk_of}
use Rattle.chunks.proofs.Bounds.{other-bounds}
use Rattle.std.specs.Prelude.{Option, None, Result, Ok, Err}
use Rattle.stream.specs.declared.refusal.Refusal.{Refusal}
use Rattle.wave.specs.declared.WaveFile.{WaveFile}
use Rattle.wave.specs.Wave.{file_of, answer_at, walk, read_wave}

-- two ways to read on that agree behind another chunk
answer-same : (at : ℕ) (on onward : ℕ → Option Format → Result WaveFile Refusal) (chunk : Result Chunk Refusal)
    → ((count : ℕ) (g : Option Format) → chunk ≡ Ok (Chunk.Other count g) → on count g ≡ onward count g)
    → answer_at at on chunk ≡ answer_at at onward chunk
unfolding answer_at
answer-same at on onward (Err refusal) h = refl
answer-same at on onward (Ok (Chunk.Other count g)) h = h count g refl
answer-same at on onward (Ok (Chunk.Data size f)) h = refl

pub walk-enough : (m n at : ℕ) (rest : List ℕ) (f : Option Format) → length rest < m → length rest < n → walk m at rest f ≡ walk n at rest f
unfolding walk
walk-enough zero n at rest f p q = absurd (omega arith)
walk-enough (suc m) zero at rest f p q = absurd (omega arith)
walk-enough (suc m) (suc n) at rest f p q =
    answer-same at (λ count g. walk m (at + count) (drop count rest) g) (λ count g. walk n (at + count) (drop count rest) g)
    (chunk_of rest (length rest) f)
    (λ count g e.
    let b = other-bounds rest (length rest) f count g e in
    let s = length-drop count rest in
    walk-enough m n (at + count) (drop count rest) g (omega (arith, b.0, b.1)) (omega (arith, b.0, b.1)))

-- ---- one chunk

module _ (most at : ℕ) (rest : List ℕ) (f : Option Format) where
  abbrev on : ℕ → Option Format → Result WaveFile Refusal
  on count g = walk most (at + count) (drop count rest) g

  pub walk_refused : (refusal : Refusal) → chunk_of rest (length rest) f ≡ Err refusal → walk (suc most) at rest f ≡ Err refusal
  unfolding walk answer_at
  walk_refused refusal e = ap (answer_at at on) e

  pub walk-other : (count : ℕ) (g : Option Format) → chunk_of rest (length rest) f ≡ Ok (Chunk.Other count g)
      → walk (suc most) at rest f ≡ walk most (at + count) (drop count rest) g
  unfolding walk answer_at
  walk-other count g e = ap (answer_at at on) e

  pub walk-data : (size : ℕ) (g : Format) → chunk_of rest (length rest) f ≡ Ok (Chunk.Data size g)
      → walk (suc most) at rest f ≡ Ok (file_of g size (at + 8))
  unfolding walk answer_at
  walk-data size g e = ap (answer_at at on) e

-- ---- the loop

-- the head of 12 bytes is there
pub wave-long : (bytes : List ℕ) → is_wave bytes ≡ true → 12 ≤ length bytes
unfolding is_wave
wave-long bytes e = leb-true 12 (length bytes) (both (leb 12 (length bytes)) (is_id bytes 0 riff_id && is_id bytes 8 wave_id) e).0

pub walk-begun : (bytes : List ℕ) → is_wave bytes ≡ true → read_wave bytes ≡ walk (suc (length bytes - 12)) 12 (drop 12 bytes) None
unfolding read_wave
walk-begun bytes e =
    let h = wave-long bytes e in
    let s = length-drop 12 bytes in
    rw e (walk-enough (length bytes) (suc (length bytes - 12)) 12 (drop 12 bytes) None (omega arith) (omega arith))

-- behind another chunk, of a file of so many bytes
pub walk-next : (all : ℕ) (rest : List ℕ) (f : Option Format) (count : ℕ) (g : Option Format) → length rest ≤ all
    → chunk_of rest (length rest) f ≡ Ok (Chunk.Other count g)
    → walk (suc (length rest)) (all - length rest) rest f
    ≡ walk (suc (length (drop count rest))) (all - length (drop count rest)) (drop count rest) g
walk-next all rest f count g h e =
    let b = other-bounds rest (length rest) f count g e in
    let s = length-drop count rest in
    let at : all - length rest + count ≡ all - length (drop count rest) = omega (arith, b.1) in
    walk-other (length rest) (all - length rest) rest f count g e
    ∙ ap (λ (k : ℕ). walk (length rest) k (drop count rest) g) at
    ∙ walk-enough (length rest) (suc (length (drop count rest))) (all - length (drop count rest)) (drop count rest) g
    (omega (arith, b.0, b.1)) (omega arith)

pub walk-on : (bytes : List ℕ) (at : ℕ) (f : Option Format) (count : ℕ) (g : Option Format) → at ≤ length bytes
    → chunk_of (drop at bytes) (length (drop at bytes)) f ≡ Ok (Chunk.Other count g)
    → walk (suc (length bytes - at)) at (drop at bytes) f ≡ walk (suc (length bytes - (at + count))) (at + count) (drop (at + count) bytes) g
walk-on bytes at f count g h e =
    let b = other-bounds (drop at bytes) (length (drop at bytes)) f count g e in
    let s = length-drop at bytes in
    let t = length-drop (at + count) bytes in
    walk-other (length bytes - at) at (drop at bytes) f count g e
    ∙ ap (λ (l : List ℕ). walk (length bytes - at) (at + count) l g) (drop-drop count at bytes)
    ∙ walk-enough (length bytes - at) (suc (length bytes - (at + count))) (at + count) (drop (at + count) bytes) g
    (omega (arith, b.0, b.1)) (omega (arith, b.0, b.1))
