-- `chunks::is_wave` meets its contract. Assumes nothing.
use Rattle.std.proofs.Common.{arith, ◌≡◌, true, ℕ, ◌+◌, ◌-◌, ◌<◌, ◌≤◌, List, length, get_or, take, drop, sym, ap, ◌∙◌}
use mathlib.Core.Bool.{true≢false}
use Rattle.std.proofs.lemmas.Grind.{common_steps}
use Rattle.std.specs.List.{starts_with}
use borrow.Author.Tests.{le-leb, lt-leb}
use lib.Dec.{eqb}
use lib.ListN.{length-drop}
use lib.Seq.{take_all}
use Rattle.std.proofs.lemmas.List.{get_or-drop}
use Rattle.chunks.specs.Chunks.{riff_id, wave_id, is_id, is_wave}
use Rattle.chunks.proofs.is_wave.Goals as goal
use Rattle.chunks.proofs.is_wave.Goals.{then-bytes-ge-FILE_HEAD, else-bytes-ge-FILE_HEAD}

-- whether bytes begin with WAVE
wave-first : (bytes : List ℕ) → 4 ≤ length bytes → ((i : ℕ) → get_or bytes i 0 < 256) → starts_with eqb bytes wave_id ≡ is_id bytes 0 wave_id
wave-first bytes long small = grind (arith, common_steps, small 0, small 1, small 2, small 3)

-- whether WAVE stands at byte 8
wave-here : (bytes : List ℕ) → 12 ≤ length bytes → ((i : ℕ) → get_or bytes i 0 < 256)
    → starts_with eqb (take (length bytes - 8) (drop 8 bytes)) wave_id ≡ is_id bytes 8 wave_id
wave-here bytes long small =
    let rest = drop 8 bytes in
    let count = length-drop 8 bytes in
    let whole : take (length bytes - 8) rest ≡ rest = take_all (length bytes - 8) rest (omega arith) in
    ap (λ (l : List ℕ). starts_with eqb l wave_id) whole
    ∙ wave-first rest (omega arith) (λ i. rw get_or-drop (small (8 + i)))
    ∙ rw (get_or-drop 8 bytes 0 0, get_or-drop 8 bytes 1 0, get_or-drop 8 bytes 2 0, get_or-drop 8 bytes 3 0)

pub returns-then-starts_with : goal.returns-then-starts_with
unfolding is_wave
returns-then-starts_with c =
    let bytes : List ℕ = c.args.bytes.now in
    let small : (i : ℕ) → get_or bytes i 0 < 256 = λ i. omega (arith, c.type_inv.bytes i) in
    elim c.if-bytes-ge-FILE_HEAD.branch [
      | then-bytes-ge-FILE_HEAD w ↦
          let long : 12 ≤ length bytes = omega arith in
          let riff : is_id bytes 0 riff_id ≡ true = grind (arith, common_steps) in
          let wave : c.starts_with-then-starts_with.result ≡ is_id bytes 8 wave_id = c.starts_with-then-starts_with.ensures.value ∙ wave-here bytes long small in
          simp (le-leb 12 (length bytes) long, riff, wave)
      | else-bytes-ge-FILE_HEAD w ↦ absurd (true≢false (sym c.if-starts_with.true ∙ w.value-is ∙ lt-leb 12 (length bytes) (omega arith)))
    ]
