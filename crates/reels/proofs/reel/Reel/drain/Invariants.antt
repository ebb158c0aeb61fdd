use Rattle.std.proofs.Common.{◌≡◌, ◌+◌, ◌≤◌, true, length}
use Rattle.reels.specs.States.{sound}
use Rattle.reels.specs.Reels.{WrittenOut}
use Rattle.reels.proofs.reel.Reel.drain.Given as goal

-- A frame or more is written out in each turn.
abbrev pub invariant-loop-turn : goal.invariant-loop-turn
invariant-loop-turn g l =
    (length l.output ≡ length l.initial.output) × WrittenOut (length l.initial.output) l.initial.reel l.reel
    × (sound l.reel.state ≡ true → l.reel.stream.waiting.0 + l._turn ≤ l._turn-end)
