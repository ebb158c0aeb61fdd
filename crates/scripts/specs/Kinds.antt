-- docs/VECTORS.md: the kinds of signal, by number. Definitions only. Assumes nothing.
use Rattle.std.specs.Prelude.{ℕ, cond, ◌==◌}
use Rattle.scripts.specs.declared.signal.Kind.{Kind}
use Rattle.scripts.specs.declared.signal.Kind.TheVariants.{Silence, Noise, Square, Triangle, Voice, TwoVoices, Patterns}

-- any number past 6 is silence, as 0 is
abbrev pub kind_of : ℕ → Kind
kind_of n =
    cond (n == 1) Noise
    (cond (n == 2) Square (cond (n == 3) Triangle (cond (n == 4) Voice (cond (n == 5) TwoVoices (cond (n == 6) Patterns Silence)))))
