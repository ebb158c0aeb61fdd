-- docs/RULES.md, "Rate": N and O of a rate and a pitch; N is `.new`, O is `.old`. Definitions only.
use Rattle.std.specs.Prelude.{cond, ◌||◌, ℕ, zero, suc, ◌/◌, ltb, Float}
use Rattle.floats.specs.Scales.{new_rate}
use Rattle.sinc.specs.Sinc.{max_width}
use Rattle.rate.specs.declared.Rates.{Rates}

-- the most that either may be: an interpolation's widest step, 16,384
abbrev pub max_halved_rate : ℕ
max_halved_rate = max_width

-- both halved until neither exceeds 16,384; 64 halvings are enough for any usize
unfoldable pub halved : ℕ → Rates → Rates
halved zero r = r
halved (suc k) r =
    cond (ltb max_halved_rate r.new || ltb max_halved_rate r.old)
    (halved k (record { new = r.new / 2; old = r.old / 2 })) r

-- N the whole part of R/pitch, O = R; both halved
unfoldable pub rates_of : ℕ → Float → Rates
rates_of rate pitch = halved 64 (record { new = new_rate rate pitch; old = rate })
