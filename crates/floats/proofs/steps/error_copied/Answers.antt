-- `floats::steps::error_copied` meets its contract. Assumes nothing.
use Rattle.std.proofs.Common.{◌≡◌, ap, ◌∙◌}
use lib.Ieee.{Float, binary32, binary64, of_bits, add, sub, mul, div}
use Rattle.floats.specs.Numbers.{one, count, narrow}
use Rattle.floats.specs.Steps.{error_copied}
use Rattle.floats.proofs.steps.error_copied.Goals as goal

pub returns : goal.returns
unfolding error_copied of_bits
returns c =
    let a = c.args in
    let n = c.frames_to_f32 in
    let t = c.f32_to_f64_with_nan-time in
    let s = c.f32_to_f64_with_nan-wide.ensures in
    let old = c.f32_to_f64_with_nan-old.ensures in
    let time : t.result ≡ mul binary32 (count a.n.0) a.sample_period =
    t.ensures ∙ ap (λ (z : Float). mul binary32 z a.sample_period) n.ensures in
    c.f64_to_f32.ensures
    ∙ (λ i. narrow (add binary64 (old i) (div binary64 (mul binary64 (time i) (sub binary64 (s i) one)) (s i))))
