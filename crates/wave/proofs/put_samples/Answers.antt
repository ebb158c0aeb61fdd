-- `wave::put_samples` meets its contract: one sample more in each turn. Assumes nothing.
use borrow.Author.Rules.{rules}
use mathlib.Core.Path.{◌≡◌, refl, sym, ap, ◌∙◌}
use mathlib.Core.List.{List, [], ◌++◌}
use Prim.Native.Nat.{ℕ, ◌+◌, ◌*◌, ◌<◌}
use native.Mathlib.Omega.{arith}
use lib.IntN.{ℤ, pos}
use lib.ListN.{length, take, get_or}
use lib.Seq.{paste, paste-zero, length-take-le}
use mir.Facts.{to_z-of_z}
use mir.Syntax.{w16}
use Rattle.frames.proofs.Pasted.{paste-append}
use Rattle.pcm.specs.Pcm.{pair_of}
use Rattle.chunks.specs.Numbers.{two_bytes}
use Rattle.wave.specs.Wave.{sample_bytes}
use Rattle.wave.proofs.Sampling.{bytes-length, bytes-turn}
use Rattle.wave.proofs.put_samples.Goals as goal

pub loop-i-init : goal.loop-i-init
loop-i-init c = record { long = refl; put = paste-zero c.args.dest.now 44 (sample_bytes []) }

pub loop-i-preserved : goal.loop-i-preserved
loop-i-preserved c =
    let l = c.loop-i in
    let d : List ℕ = c.args.dest.now in
    let samples : List ℤ = c.args.samples.now in
    let v : ℤ = get_or samples l.i (pos 0) in
    let inside : l.i < length samples = omega arith in
    let held = to_z-of_z {w = w16} {z = v} (record { sfits = search rules }) in
    let pair : c.pair.result ≡ pair_of v = c.pair.ensures ∙ ap pair_of held in
    let put = rw (c.to_le_bytes-bytes.ensures, pair) at c.put.ensures in
    let ready = sample_bytes (take l.i samples) in
    let count : length ready ≡ 2 * l.i = bytes-length (take l.i samples) ∙ ap (λ (n : ℕ). 2 * n) (length-take-le l.i samples (omega arith)) in
    let behind = paste-append d ready (two_bytes (pair_of v)) 44 (2 * l.i) 2 count refl (omega arith) in
    let more : 2 * l.i + 2 ≡ 2 * (l.i + 1) = omega arith in
    record {
      long = c.put.auto.dest ∙ l.invariant.long;
      put =
          put ∙ ap (λ (e : List ℕ). paste e (44 + 2 * l.i) (two_bytes (pair_of v)) 2) l.invariant.put ∙ behind
          ∙ ap (paste d 44 (ready ++ two_bytes (pair_of v))) more
          ∙ ap (λ (e : List ℕ). paste d 44 e (2 * (l.i + 1))) (sym (bytes-turn samples l.i inside));
    }
