-- What a chunk is known by that `chunk_of` answers, in this order:
--   other-bounds     another one takes eight bytes or more, and ends within the file
--   data-bounds      samples are of a format that is read, and end within the file
--   read-channels    the channels of a format that is read
-- Assumes nothing.
use mathlib.Core.Path.{◌≡◌, refl}
use mathlib.Core.Bool.{Bool, true, false, not, cond, ◌&&◌}
use mathlib.Core.List.{List}
use Prim.Native.Nat.{ℕ, ◌+◌, ◌-◌, ◌≤◌}
use native.Mathlib.Omega.{arith}
use borrow.Author.Tests.{ltb-false, not-true}
use lib.Dec.{ltb, eqb}
use Rattle.std.specs.Prelude.{Option, Some, None, Result, Ok, Err}
use Rattle.stream.specs.declared.refusal.Refusal.{Refusal}
use Rattle.stream.specs.declared.refusal.Refusal.TheVariants.{BadSize, BadFormat}
use Rattle.stream.specs.Refusals.{rate_bad, channels_bad}
use Rattle.stream.proofs.Testing.{both, neither}
use Rattle.chunks.specs.declared.Format.{Format}
use Rattle.chunks.specs.declared.Chunk.{Chunk}
use Rattle.chunks.specs.Numbers.{u32_at}
use Rattle.chunks.specs.Chunks.{data_id, is_id, padded, format_after, is_read, data_of, sized_chunk, chunk_of}

-- ---- a chunk of this size

-- what is answered at a data chunk
data-other : (size : ℕ) (f : Option Format) (count : ℕ) (g : Option Format) → data_of size f ≡ Ok (Chunk.Other count g) → ⊥
unfolding data_of
data-other size None count g e = cc
data-other size (Some format) count g e = go (is_read format) e
  where
    go : (b : Bool) → cond b (Ok (Chunk.Data size format)) (Err BadFormat) ≡ Ok (Chunk.Other count g) → ⊥
    go true h = cc
    go false h = cc

data-data : (size : ℕ) (f : Option Format) (n : ℕ) (g : Format) → data_of size f ≡ Ok (Chunk.Data n g) → (is_read g ≡ true) × (size ≡ n)
unfolding data_of
data-data size None n g e = cc
data-data size (Some format) n g e = go (is_read format) refl e
  where
    go : (b : Bool) → is_read format ≡ b → cond b (Ok (Chunk.Data size format)) (Err BadFormat) ≡ Ok (Chunk.Data n g)
        → (is_read g ≡ true) × (size ≡ n)
    go true r h = (cc, cc)
    go false r h = cc

-- by its tests: data, past the end without padding, past the end with padding
abbrev tested : ℕ → Result Chunk Refusal → Option Format → Bool → Bool → Bool → Result Chunk Refusal
tested size answer g samples past long =
    cond samples (cond past (Err BadSize) answer) (cond long (Err BadSize) (Ok (Chunk.Other (8 + padded size) g)))

tested-other : (size : ℕ) (f h : Option Format) (samples past long : Bool) (count : ℕ) (g : Option Format)
    → tested size (data_of size f) h samples past long ≡ Ok (Chunk.Other count g) → (long ≡ false) × (8 + padded size ≡ count)
tested-other size f h true true long count g e = cc
tested-other size f h true false long count g e = absurd (data-other size f count g e)
tested-other size f h false past true count g e = cc
tested-other size f h false past false count g e = (refl, cc)

tested-data : (size : ℕ) (f h : Option Format) (samples past long : Bool) (n : ℕ) (g : Format)
    → tested size (data_of size f) h samples past long ≡ Ok (Chunk.Data n g) → (past ≡ false) × (is_read g ≡ true) × (size ≡ n)
tested-data size f h true true long n g e = cc
tested-data size f h true false long n g e = let d = data-data size f n g e in (refl, d.0, d.1)
tested-data size f h false past true n g e = cc
tested-data size f h false past false n g e = cc

-- ---- a chunk

-- so many bytes are left: none, too few for a head, or the chunk behind it
begun-ok : (none few : Bool) (chunk : Result Chunk Refusal) (c : Chunk)
    → cond none (Err BadFormat) (cond few (Err BadSize) chunk) ≡ Ok c → (few ≡ false) × (chunk ≡ Ok c)
begun-ok true few chunk c e = cc
begun-ok false true chunk c e = cc
begun-ok false false chunk c e = (refl, e)

module _ (rest : List ℕ) (left : ℕ) (f : Option Format) where
  abbrev size : ℕ
  size = u32_at rest 4

  abbrev here : Result Chunk Refusal
  here = sized_chunk rest size (left - 8) f

  pub other-bounds : (count : ℕ) (g : Option Format) → chunk_of rest left f ≡ Ok (Chunk.Other count g) → (8 ≤ count) × (count ≤ left)
  unfolding chunk_of sized_chunk
  other-bounds count g e =
      let b = begun-ok (eqb left 0) (ltb left 8) here (Chunk.Other count g) e in
      let long = ltb (left - 8) (padded size) in
      let t = tested-other size f (format_after rest size f) (is_id rest 0 data_id) (ltb (left - 8) size) long count g b.1 in
      let head : 8 ≤ left = ltb-false left 8 b.0 in
      let inside : padded size ≤ left - 8 = ltb-false (left - 8) (padded size) t.0 in
      (omega (arith, t.1), omega (arith, t.1))

  pub data-bounds : (n : ℕ) (g : Format) → chunk_of rest left f ≡ Ok (Chunk.Data n g) → (is_read g ≡ true) × (8 + n ≤ left)
  unfolding chunk_of sized_chunk
  data-bounds n g e =
      let b = begun-ok (eqb left 0) (ltb left 8) here (Chunk.Data n g) e in
      let long = ltb (left - 8) (padded size) in
      let t = tested-data size f (format_after rest size f) (is_id rest 0 data_id) (ltb (left - 8) size) long n g b.1 in
      let head : 8 ≤ left = ltb-false left 8 b.0 in
      let inside : size ≤ left - 8 = ltb-false (left - 8) size t.0 in
      (t.1, omega (arith, t.2))

-- ---- a format that is read

pub read-channels : (f : Format) → is_read f ≡ true → (1 ≤ f.channels) × (f.channels ≤ 32)
unfolding is_read channels_bad
read-channels f e =
    let rated = not (rate_bad f.rate) in
    let channelled = not (channels_bad f.channels) in
    let e₂ = (both (eqb f.tag 1) (eqb f.bits 16 && (rated && channelled)) e).1 in
    let e₃ = (both (eqb f.bits 16) (rated && channelled) e₂).1 in
    let good = not-true _ (both rated channelled e₃).1 in
    let n = neither (ltb f.channels 1) (ltb 32 f.channels) good in
    (ltb-false f.channels 1 n.0, ltb-false 32 f.channels n.1)
