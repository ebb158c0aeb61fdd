-- docs/RULES.md, "Rate": the frames that tail frames make, and the positions. In r, `.new` is N and `.old` is O; in s,
-- `.old` is p and `.new` is n. Definitions only.
use Rattle.std.specs.Prelude.{◌≡◌, cond, List, [], ◌∷◌, ◌++◌, ℕ, zero, suc, ◌+◌, ◌-◌, ◌*◌, ◌/◌, ◌<◌, eqb, pos}
use Rattle.std.specs.Prelude.{length, take, drop, get_or}
use Rattle.frames.specs.Framing.{Frame}
use Rattle.sinc.specs.Sinc.{sinc_filter_points, tabulate, interpolate}
use Rattle.rate.specs.declared.Rates.{Rates}
use Rattle.rate.specs.declared.Position.{Position}

-- ---- positions

-- both 0
abbrev pub start : Position
start = record { old = 0; new = 0 }

-- the least whole number m with m·b ≥ a
unfoldable pub ceil_div : ℕ → ℕ → ℕ
ceil_div a b = (a + (b - 1)) / b

-- in order: 0 ≤ p < O, and n the least whole number with n·O ≥ p·N
pub record PositionInOrder (r : Rates) (s : Position) : Type 0 where
  pub below : s.old < r.old
  pub least : s.new ≡ ceil_div (s.old * r.new) r.old

-- the frames made at one tail frame, by which n grows: as long as (p + 1)·N > n·O
unfoldable pub due : Rates → Position → ℕ
due r s = ceil_div ((s.old + 1) * r.new) r.old - s.new

-- after one tail frame: n has grown, then p grows; at p = O both become 0
unfoldable pub next : Rates → Position → Position
next r s = cond (eqb (s.old + 1) r.old) start (record { old = s.old + 1; new = s.new + due r s })

-- after k tail frames
unfoldable pub steps : Rates → ℕ → Position → Position
steps r zero s = s
steps r (suc k) s = steps r k (next r s)

-- ---- frames

-- the frame of a window of 12 tail frames: one sample per channel, its taps the window's samples of that channel
unfoldable pub interpolate_window : List Frame → ℕ → ℕ → Frame
interpolate_window window ratio N =
    tabulate (length (get_or window 0 [])) (λ c. interpolate (λ i. get_or (get_or window i []) c (pos 0)) ratio N)

-- the frame at a position: its ratio is (p + 1)·N − n·O − 1
unfoldable pub interpolated : Rates → Position → List Frame → Frame
interpolated r s window = interpolate_window window ((s.old + 1) * r.new - s.new * r.old - 1) r.new

-- k frames of a window, from the position s on
unfoldable pub emit : Rates → ℕ → Position → List Frame → List Frame
emit r zero s window = []
emit r (suc k) s window = interpolated r s window ∷ emit r k (record { old = s.old; new = s.new + 1 }) window

-- what the first k frames of the tail l make
unfoldable pub scan : Rates → ℕ → Position → List Frame → List Frame
scan r zero s l = []
scan r (suc k) s l = emit r (due r s) s (take sinc_filter_points l) ++ scan r k (next r s) (drop 1 l)

-- how many frames of the tail l are consumed: one while more than 12 lie ahead
abbrev pub consumable : List Frame → ℕ
consumable l = length l - sinc_filter_points
