-- `chunks::head::put_format` meets its contract: its numbers stand behind each other. Assumes nothing.
use Rattle.std.proofs.Common.{◌*◌, ◌≤◌, arith, length}
use Rattle.chunks.specs.Numbers.{two_bytes, four_bytes}
use Rattle.chunks.specs.Chunks.{format_id}
use Rattle.chunks.proofs.Laying.{Laid, behind, four-same}
use Rattle.chunks.proofs.head.put_format.Goals as goal

pub returns : goal.returns
returns c =
    let a = c.args in
    let h : 36 ≤ length a.dest.now = c.requires.0 in
    let product = 2 * a.rate * a.channels in
    let l₁ : Laid a.dest.now 12 format_id c.put.new.dest = record { is = c.put.ensures } in
    let l₂ = behind l₁ (four_bytes 16) c.put-2.new.dest (rw c.to_le_bytes.ensures at c.put-2.ensures) (omega arith) in
    let l₃ = behind l₂ (two_bytes 1) c.put-3.new.dest (rw c.to_le_bytes-2.ensures at c.put-3.ensures) (omega arith) in
    let l₄ = behind l₃ (two_bytes a.channels) c.put-4.new.dest (rw c.to_le_bytes-3.ensures at c.put-4.ensures) (omega arith) in
    let l₅ = behind l₄ (four_bytes a.rate) c.put-5.new.dest (rw (c.to_le_bytes-4.ensures, four-same a.rate) at c.put-5.ensures) (omega arith) in
    let l₆ = behind l₅ (four_bytes product) c.put-6.new.dest (rw (c.to_le_bytes-5.ensures, four-same product) at c.put-6.ensures) (omega arith) in
    let l₇ = behind l₆ (two_bytes (2 * a.channels)) c.put-7.new.dest (rw c.to_le_bytes-6.ensures at c.put-7.ensures) (omega arith) in
    (behind l₇ (two_bytes 16) c.put-8.new.dest (rw c.to_le_bytes-7.ensures at c.put-8.ensures) (omega arith)).is
