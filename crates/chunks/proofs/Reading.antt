-- What was written is read back, in this order:
--   two-read, four-read     the numbers of two and of four bytes
--   head-wave, head-format, head-data     the head of a file that is written: RIFF and WAVE, its fmt chunk, its data chunk
-- Assumes nothing.
use mathlib.Core.Path.{◌≡◌}
use mathlib.Core.Bool.{true, false}
use Rattle.std.specs.Prelude.{Some, None, Ok}
use mathlib.Core.List.{List, ◌++◌}
use Prim.Native.Nat.{ℕ, ◌+◌, ◌-◌, ◌/◌, ◌^◌, ◌≤◌, ◌<◌}
use native.Mathlib.Nat.{mod-eq_of_lt}
use native.Mathlib.Omega.{arith}
use borrow.Author.Tests.{le-leb, le-ltb, ne_eqb}
use lib.Arith.{mod-mul}
use lib.Dec.{ltb, eqb}
use lib.ListN.{length, drop}
use Rattle.stream.specs.Refusals.{rate_bad, channels_bad}
use Rattle.chunks.specs.declared.Format.{Format}
use Rattle.chunks.specs.declared.Chunk.{Chunk}
use Rattle.chunks.specs.Numbers.{two_bytes, four_bytes, u16_at, u32_at}
use Rattle.chunks.specs.Chunks.{is_wave, format_after, is_read, data_of, sized_chunk, chunk_of}
use Rattle.chunks.specs.Head.{head_of}

-- ---- numbers

pub two-read : (n : ℕ) → n < 65536 → u16_at (two_bytes n) 0 ≡ n
two-read n h =
    let parts = mod-mul n {m = 256} {c = 256} (omega arith) (omega arith) in
    omega (arith, parts, mod-eq_of_lt {n = n} {m = 65536} h)

pub four-read : (n : ℕ) → n < 2 ^ 32 → u32_at (four_bytes n) 0 ≡ n
four-read n h =
    let low = mod-mul n {m = 256} {c = 256} (omega arith) (omega arith) in
    let high : u16_at (two_bytes (n / 65536)) 0 ≡ n / 65536 = two-read (n / 65536) (omega arith) in
    omega (arith, low, high)

-- ---- the head

abbrev pub head_format : ℕ → ℕ → Format
head_format rate channels = record { tag = 1; channels = channels; rate = rate; bits = 16 }

-- whatever stands behind it
module _ (rate channels size : ℕ) (tail : List ℕ) where
  abbrev headed : List ℕ
  headed = head_of rate channels size ++ tail

  pub head-wave : is_wave headed ≡ true
  unfolding is_wave head_of
  head-wave = rw (le-leb 12 (length headed) (omega arith))

  pub head-format : (left : ℕ) → 24 ≤ left → channels < 65536 → rate < 2 ^ 32
      → chunk_of (drop 12 headed) left None ≡ Ok (Chunk.Other 24 (Some (head_format rate channels)))
  unfolding chunk_of sized_chunk format_after head_of
  head-format left h k r =
      let there : eqb left 0 ≡ false = ne_eqb left 0 (λ e. omega arith) in
      let long : ltb left 8 ≡ false = le-ltb left 8 (omega arith) in
      let inside : ltb (left - 8) 16 ≡ false = le-ltb (left - 8) 16 (omega arith) in
      rw (there, long, inside)
      (λ i. Ok (Chunk.Other 24 (Some (record { tag = 1; channels = two-read channels k i; rate = four-read rate r i; bits = 16 }))))

  pub head-data : (left : ℕ) → 8 + size ≤ left → size < 2 ^ 32 → rate_bad rate ≡ false → channels_bad channels ≡ false
      → chunk_of (drop 36 headed) left (Some (head_format rate channels)) ≡ Ok (Chunk.Data size (head_format rate channels))
  unfolding chunk_of sized_chunk data_of is_read head_of
  head-data left h s r k =
      let there : eqb left 0 ≡ false = ne_eqb left 0 (λ e. omega arith) in
      let long : ltb left 8 ≡ false = le-ltb left 8 (omega arith) in
      let inside : ltb (left - 8) size ≡ false = le-ltb (left - 8) size (omega arith) in
      rw (there, long, four-read size s, inside, r, k)
