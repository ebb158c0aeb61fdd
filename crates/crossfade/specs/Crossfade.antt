-- docs/RULES.md, "Stretch steps": what each kind of step writes. x is the held input, `at` a frame of it. Definitions
-- only.
use Rattle.std.specs.Prelude.{ℕ, zero, suc, ◌+◌, ◌-◌, ◌*◌, List, [], ◌∷◌, ◌++◌, ℤ, pos, ◌+ℤ◌, ◌*ℤ◌, get_or, take, drop}
use Rattle.std.specs.Int.Signed.{quot_z}

-- a sample of crossfade frame t of k: (down·(k − t) + up·t)/k, toward zero
unfoldable pub crossfade_sample : ℤ → ℤ → ℕ → ℕ → ℤ
crossfade_sample down up k t = quot_z (down *ℤ pos (k - t) +ℤ up *ℤ pos t) (pos k)

-- the first n samples of frame t, which stands at the front of both
unfoldable pub crossfade_frame : ℕ → ℕ → List ℤ → List ℤ → ℕ → List ℤ
crossfade_frame k t down up zero = []
crossfade_frame k t down up (suc n) =
    crossfade_frame k t down up n ++ (crossfade_sample (get_or down n (pos 0)) (get_or up n (pos 0)) k t ∷ [])

-- the first t frames of k
unfoldable pub crossfade_to : ℕ → ℕ → List ℤ → List ℤ → ℕ → List ℤ
crossfade_to k channels down up zero = []
crossfade_to k channels down up (suc t) =
    crossfade_to k channels down up t
    ++ crossfade_frame k t (drop (t * channels) down) (drop (t * channels) up) channels

-- `overlap_add`: k frames from down into up
unfoldable pub overlap_add : ℕ → ℕ → List ℤ → List ℤ → List ℤ
overlap_add k channels down up = crossfade_to k channels down up k

-- `copy_unmodified_samples`: n frames
unfoldable pub copy_unmodified_samples : ℕ → List ℤ → ℕ → ℕ → List ℤ
copy_unmodified_samples channels x at n = take (n * channels) (drop (at * channels) x)

-- `skip_pitch_period`: k frames that fade from the position into one period later
unfoldable pub skip_pitch_period : ℕ → List ℤ → ℕ → ℕ → ℕ → List ℤ
skip_pitch_period channels x at period k =
    overlap_add k channels (drop (at * channels) x) (drop ((at + period) * channels) x)

-- `insert_pitch_period`: the period copied, then k frames that fade the reverse
unfoldable pub insert_pitch_period : ℕ → List ℤ → ℕ → ℕ → ℕ → List ℤ
insert_pitch_period channels x at period k =
    copy_unmodified_samples channels x at period
    ++ overlap_add k channels (drop ((at + period) * channels) x) (drop (at * channels) x)
