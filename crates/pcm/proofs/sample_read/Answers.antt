-- `pcm::sample_read` meets its contract: by the test that the definition makes. Assumes nothing.
use mathlib.Core.Path.{◌≡◌, sym, ap, ◌∙◌}
use mathlib.Core.Bool.{Bool, true, false, cond}
use lib.Ieee.{Float, lt, neg, of_bits}
use lib.IntN.{negsuc}
use mir.Facts.{to_z-of_z}
use mir.Syntax.{w16}
use Rattle.floats.specs.Write.{minus_one, sample_in}
use Rattle.pcm.specs.Pcm.{sample_read}
use Rattle.pcm.proofs.sample_read.Goals as goal

by-test : (x : Float) (b : Bool) → lt x minus_one ≡ b → cond b (negsuc 32767) (sample_in x) ≡ sample_read x
unfolding sample_read
by-test x b e = sym (ap (λ (z : Bool). cond z (negsuc 32767) (sample_in x)) e)

pub returns-then-x : goal.returns-then-x
unfolding of_bits neg
returns-then-x c = by-test c.args.x true c.if-x.true

pub returns-else-x : goal.returns-else-x
unfolding of_bits neg
returns-else-x c =
    let r = c.sample_in in
    let held = to_z-of_z {w = w16} {z = r.result} (record { sfits = r.type_inv }) in
    held ∙ r.ensures.value ∙ by-test c.args.x false c.if-x.false
