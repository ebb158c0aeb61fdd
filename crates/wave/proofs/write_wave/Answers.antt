-- `wave::write_wave` meets its contract: its tests are those of the definition, and the samples stand behind the head. Assumes nothing.
use borrow.Author.Tests.{lt-ltb, le-ltb}
use mathlib.Core.Bool.{true, false, ◌||◌}
use mathlib.Core.List.{List}
use mathlib.Core.Path.{◌≡◌, sym, ap, ◌∙◌}
use native.Mathlib.Omega.{arith}
use Prim.Native.Nat.{ℕ, ◌+◌, ◌*◌, ◌/◌, ◌≤◌}
use lib.Dec.{ltb}
use lib.ListN.{length, take}
use lib.Seq.{paste}
use native.Mathlib.Nat.{div-mul-le_self}
use lib.Seq.{length-take-le}
use Rattle.stream.specs.Refusals.{max_area}
use Rattle.stream.proofs.InOrder.{limits-in}
use Rattle.std.specs.Prelude.{Ok}
use Rattle.wave.specs.Wave.{sample_bytes, whole_frames, written}
use Rattle.wave.proofs.Writing.{whole_length, file-length, whole_file, rate-refused, channels-refused, size-refused, file-written, size_is, file-laid}
use Rattle.wave.proofs.write_wave.Goals as goal
use Rattle.wave.proofs.write_wave.Goals.{then-count-gt-MAX_AREA-via-then-count-gt-MAX_AREA, then-count-gt-MAX_AREA-via-else-count-gt-MAX_AREA+then-dest-count}

pub returns-then-rate_bad : goal.returns-then-rate_bad
returns-then-rate_bad c =
    let a = c.args in
    let e = sym (rate-refused a.rate a.channels a.samples.now a.dest.now (sym c.rate_bad.ensures ∙ c.if-rate_bad.true)) in
    (λ i. (e i).answer, λ i. (e i).dest)

pub returns-then-channels_bad : goal.returns-then-channels_bad
returns-then-channels_bad c =
    let a = c.args in
    let rate = sym c.rate_bad.ensures ∙ c.if-rate_bad.false in
    let bad = sym c.channels_bad.ensures ∙ c.if-channels_bad.true in
    let e = sym (channels-refused a.rate a.channels a.samples.now a.dest.now rate bad) in
    (λ i. (e i).answer, λ i. (e i).dest)

pub frames-whole-requires : goal.frames-whole-requires
frames-whole-requires c =
    (limits-in _ _ (sym c.rate_bad.ensures ∙ c.if-rate_bad.false) (sym c.channels_bad.ensures ∙ c.if-channels_bad.false)).channels_low

pub put_head-requires : goal.put_head-requires
put_head-requires c =
    let l = limits-in _ _ (sym c.rate_bad.ensures ∙ c.if-rate_bad.false) (sym c.channels_bad.ensures ∙ c.if-channels_bad.false) in
    (omega arith, l.rate_high, l.channels_high, omega arith)

pub returns-then-count-gt-MAX_AREA : goal.returns-then-count-gt-MAX_AREA
returns-then-count-gt-MAX_AREA c =
    let a = c.args in
    let count = c.samples-count.result.0 in
    let rate = sym c.rate_bad.ensures ∙ c.if-rate_bad.false in
    let channels = sym c.channels_bad.ensures ∙ c.if-channels_bad.false in
    let is : count ≡ length a.samples.now / a.channels * a.channels =
    c.samples-count.ensures ∙ ap (λ (n : ℕ). n * a.channels) c.frames-whole.ensures in
    let big : (ltb max_area count || ltb (length a.dest.now) (44 + 2 * count)) ≡ true =
    elim c.then-count-gt-MAX_AREA.branch [
      | then-count-gt-MAX_AREA-via-then-count-gt-MAX_AREA w ↦ simp (lt-ltb _ _ w.if-count-gt-MAX_AREA.true)
      | then-count-gt-MAX_AREA-via-else-count-gt-MAX_AREA+then-dest-count w ↦
          simp (le-ltb _ _ w.if-count-gt-MAX_AREA.false, lt-ltb (length a.dest.now) (44 + 2 * count) (omega (arith, w.if-dest-count.true)))
    ] in
    let bad = size_is a.rate a.channels a.samples.now a.dest.now count is ∙ big in
    let e = sym (size-refused a.rate a.channels a.samples.now a.dest.now rate channels bad) in
    (λ i. (e i).answer, λ i. (e i).dest)

pub returns : goal.returns
unfolding written
returns c =
    let a = c.args in
    let count = c.samples-count.result.0 in
    let rate = sym c.rate_bad.ensures ∙ c.if-rate_bad.false in
    let channels = sym c.channels_bad.ensures ∙ c.if-channels_bad.false in
    let is : count ≡ length a.samples.now / a.channels * a.channels =
    c.samples-count.ensures ∙ ap (λ (n : ℕ). n * a.channels) c.frames-whole.ensures in
    let room : 44 + 2 * count ≤ length a.dest.now = c.if-dest-count.false in
    let small : (ltb max_area count || ltb (length a.dest.now) (44 + 2 * count)) ≡ false =
    simp (le-ltb _ _ c.if-count-gt-MAX_AREA.false, le-ltb _ _ room) in
    let good = size_is a.rate a.channels a.samples.now a.dest.now count is ∙ small in
    let e = sym (file-written a.rate a.channels a.samples.now a.dest.now rate channels good) in
    let long : 44 + 2 * count ≡ length (whole_file a.rate a.channels a.samples.now) =
    sym (file-length a.rate a.channels (whole_frames a.channels a.samples.now)
    ∙ ap (λ (k : ℕ). 44 + 2 * k) (whole_length a.channels a.samples.now ∙ sym is)) in
    let inside : count ≤ length a.samples.now = omega (arith, is, div-mul-le_self (length a.samples.now) a.channels) in
    let laid =
    rw (length-take-le count a.samples.now inside) at c.put_samples.ensures
    ∙ ap (λ (d : List ℕ). paste d 44 (sample_bytes (take count a.samples.now)) (2 * count)) c.put_head.ensures
    ∙ file-laid a.rate a.channels count a.samples.now a.dest.now is room in
    (ap Ok long ∙ (λ i. (e i).answer), laid ∙ (λ i. (e i).dest))
