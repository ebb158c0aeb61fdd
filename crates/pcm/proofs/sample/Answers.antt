-- `pcm::sample` meets its contract: std's two's complement is that of `sample_of`. Assumes nothing.
use Rattle.std.proofs.Common.{◌≡◌, ℕ, suc, ◌+◌, ◌-◌, ◌*◌, Bool, true, false, cond, pos, negsuc, refl, ap, ◌∙◌, ltb, arith, to_z, to_z-of_z, w16}
use mir.Val.{sel}
use Rattle.pcm.specs.Pcm.{sample_of}
use Rattle.pcm.proofs.sample.Goals as goal

complement : (n : ℕ) → to_z w16 n ≡ sample_of n
unfolding sample_of
complement n = by (ltb n 32768)
  where
    by : (b : Bool) → sel b (pos n) (negsuc (65536 - suc n)) ≡ cond b (pos n) (negsuc (65535 - n))
    by true = refl
    by false = ap negsuc (omega arith)

pub returns : goal.returns
returns c =
    let n = c.args.low + c.args.high * 256 in
    to_z-of_z {w = w16} {z = c.from_le_bytes.result} (record { sfits = c.from_le_bytes.type_inv }) ∙ c.from_le_bytes.ensures ∙ complement n
