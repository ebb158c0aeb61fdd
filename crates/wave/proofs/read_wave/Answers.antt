-- `wave::read_wave` meets its contract: each turn answers, or leaves the rest of the file behind another chunk. Assumes nothing.
use Rattle.std.proofs.Common.{rules, arith, ◌≡◌, true, ℕ, ◌-◌, ◌≤◌, List, length, take, drop, sym, ap, ◌∙◌, Ok}
use Rattle.std.proofs.lemmas.Result.{err_from_is_err_and}
use lib.ListN.{length-drop}
use lib.Seq.{take_all}
use Rattle.chunks.specs.Chunks.{is_wave}
use Rattle.chunks.proofs.Bounds.{other-bounds, data-bounds, read-channels}
use Rattle.wave.specs.Wave.{read_wave}
use Rattle.wave.proofs.Walking.{walk_refused, walk-data, wave-long, walk-begun, walk-next}
use Rattle.wave.proofs.read_wave.Goals as goal

-- a slice from byte n on
rest-is : (n : ℕ) (bytes : List ℕ) → n ≤ length bytes → take (length bytes - n) (drop n bytes) ≡ drop n bytes
rest-is n bytes h = take_all (length bytes - n) (drop n bytes) (omega (arith, length-drop n bytes))

pub returns-then-not-is_wave : goal.returns-then-not-is_wave
unfolding read_wave
returns-then-not-is_wave c = simp (sym c.is_wave.ensures ∙ c.if-not-is_wave.true)

pub slice_bounds-rest-count : goal.slice_bounds-rest-count
slice_bounds-rest-count c = wave-long c.args.bytes.now (sym c.is_wave.ensures ∙ c.if-not-is_wave.false)

pub slice_bounds-rest-start : goal.slice_bounds-rest-start
slice_bounds-rest-start c =
    let long : 12 ≤ length c.args.bytes.now = wave-long c.args.bytes.now (sym c.is_wave.ensures ∙ c.if-not-is_wave.false) in
    search rules

pub loop-count-init : goal.loop-count-init
loop-count-init c =
    let bytes : List ℕ = c.args.bytes.now in
    let wave : is_wave bytes ≡ true = sym c.is_wave.ensures ∙ c.if-not-is_wave.false in
    let long : 12 ≤ length bytes = wave-long bytes wave in
    let count = length-drop 12 bytes in
    let at : length bytes - length (drop 12 bytes) ≡ 12 = omega arith in
    rw (rest-is 12 bytes long, at, count) (record { within = omega arith; left = walk-begun bytes wave })

pub returns-in_err-count : goal.returns-in_err-count
returns-in_err-count c =
    let bytes : List ℕ = c.args.bytes.now in
    let l = c.loop-count in
    let rest : List ℕ = l.rest.now in
    let p = err_from_is_err_and c.from_residual.result c.from_residual.ensures.1 in
    let e = sym c.read_chunk.ensures ∙ c.in_err-count.was in
    rw (p.1, p.2) (sym (l.invariant.left ∙ walk_refused (length rest) (length bytes - length rest) rest l.format c.in_err-count.field-0.0 e))

pub slice_bounds-rest-count-in-Other : goal.slice_bounds-rest-count-in-Other
slice_bounds-rest-count-in-Other c =
    let l = c.loop-count in
    let e = sym c.read_chunk.ensures ∙ c.in_ok-count.was ∙ ap Ok c.in-Other.is in
    (other-bounds l.rest.now (length l.rest.now) l.format c.in-Other.count c.in-Other.next e).1

pub slice_bounds-rest-start-in-Other : goal.slice_bounds-rest-start-in-Other
slice_bounds-rest-start-in-Other c =
    let l = c.loop-count in
    let e = sym c.read_chunk.ensures ∙ c.in_ok-count.was ∙ ap Ok c.in-Other.is in
    let inside : c.in-Other.count ≤ length l.rest.now = (other-bounds l.rest.now (length l.rest.now) l.format c.in-Other.count c.in-Other.next e).1 in
    search rules

pub loop-count-smaller : goal.loop-count-smaller
loop-count-smaller c =
    let l = c.loop-count in
    let rest : List ℕ = l.rest.now in
    let e = sym c.read_chunk.ensures ∙ c.in_ok-count.was ∙ ap Ok c.in-Other.is in
    let b = other-bounds rest (length rest) l.format c.in-Other.count c.in-Other.next e in
    rw (rest-is c.in-Other.count rest b.1) (omega (arith, b.0, b.1, length-drop c.in-Other.count rest))

pub loop-count-preserved : goal.loop-count-preserved
loop-count-preserved c =
    let bytes : List ℕ = c.args.bytes.now in
    let l = c.loop-count in
    let rest : List ℕ = l.rest.now in
    let e = sym c.read_chunk.ensures ∙ c.in_ok-count.was ∙ ap Ok c.in-Other.is in
    let b = other-bounds rest (length rest) l.format c.in-Other.count c.in-Other.next e in
    rw (rest-is c.in-Other.count rest b.1) (record {
      within = omega (arith, b.1, length-drop c.in-Other.count rest);
      left = l.invariant.left ∙ walk-next (length bytes) rest l.format c.in-Other.count c.in-Other.next l.invariant.within e;
    })

pub file_of-requires : goal.file_of-requires
file_of-requires c =
    let l = c.loop-count in
    let rest : List ℕ = l.rest.now in
    let e = sym c.read_chunk.ensures ∙ c.in_ok-count.was ∙ ap Ok c.in-Data.is in
    read-channels c.in-Data.format (data-bounds rest (length rest) l.format c.in-Data.size c.in-Data.format e).0

pub returns-in-Data : goal.returns-in-Data
returns-in-Data c =
    let bytes : List ℕ = c.args.bytes.now in
    let l = c.loop-count in
    let rest : List ℕ = l.rest.now in
    let e = sym c.read_chunk.ensures ∙ c.in_ok-count.was ∙ ap Ok c.in-Data.is in
    ap Ok c.file_of.ensures
    ∙ sym (l.invariant.left ∙ walk-data (length rest) (length bytes - length rest) rest l.format c.in-Data.size c.in-Data.format e)
