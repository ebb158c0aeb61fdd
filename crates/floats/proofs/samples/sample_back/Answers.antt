-- `floats::samples::sample_back` meets its contract: only -32768 is raised. Assumes nothing.
use Rattle.std.proofs.Common.{◌≡◌, lit≤, ltb, Bool, true, false, cond, ℤ, pos, negsuc, sym, ◌∙◌, true≢false, arith, to_z-of_z, w16, SFits, ltb-false, ltb-true, refl}
use lib.Signed.{lt_z}
use Rattle.std.specs.Int.{int_max}
use Rattle.floats.specs.Write.{sample_in, sample_out}
use Rattle.floats.proofs.SampleBack.{sample-back, least-back}
use Rattle.floats.proofs.samples.sample_back.Goals as goal

raised : (v : ℤ) (low : Bool) → SFits w16 v → lt_z (negsuc 32766) v ≡ low → cond low v (negsuc 32766) ≡ sample_in (sample_out v)
raised (pos n) true h e = sym (sample-back (pos n) (omega (arith, h.sfits)))
raised (pos n) false h e = absurd (true≢false e)
raised (negsuc k) true h e = sym (sample-back (negsuc k) (omega (arith, ltb-true k 32766 e)))
raised (negsuc k) false h e = least (ltb k 32767) refl
  where
    least : (b : Bool) → ltb k 32767 ≡ b → negsuc 32766 ≡ sample_in (sample_out (negsuc k))
    least true t =
        let is : k ≡ 32766 = omega (arith, ltb-false k 32766 e, ltb-true k 32767 t) in
        rw is (sym (sample-back (negsuc 32766) (lit≤ tt)))
    least false t =
        let is : k ≡ 32767 = omega (arith, h.sfits, ltb-false k 32767 t) in
        rw is (sym least-back)

pub returns : goal.returns
returns c =
    let v = c.args.v in
    let fits = c.ranges.v in
    let read = to_z-of_z {w = w16} {z = c.max.result} (record { sfits = c.max.type_inv }) in
    let low = lt_z (negsuc 32766) v in
    let is : c.max.result ≡ cond low v (negsuc 32766) = c.max.ensures.value ∙ (λ i. int_max (to_z-of_z {w = w16} fits i) (negsuc 32766)) in
    read ∙ is ∙ raised v low fits refl
