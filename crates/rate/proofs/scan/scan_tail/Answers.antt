-- `rate::scan::scan_tail` meets its contract. The scan's invariant: j tail frames were consumed, and their frames stand behind those that
-- wait. The inner loop's: so do the frames that it has made of the tail frame j. Assumes nothing.
use mathlib.Core.Path.{◌≡◌, sym, ap, ◌∙◌, subst}
use mathlib.Core.List.{List}
use Prim.Native.Nat.{ℕ, ◌+◌, ◌-◌, ◌*◌, ◌/◌, ◌≤◌, ◌<◌, ◌^◌}
use native.Mathlib.Omega.{arith}
use native.Mathlib.Nat.{mul-le-mul, mul-le-mul_left, mul-le-mul_right}
use lib.IntN.{ℤ}
use lib.ListN.{length, drop, length-drop}
use lib.Seq.{paste}
use Rattle.frames.specs.Framing.{Frame, frames_of}
use Rattle.frames.proofs.Framing.{length-frames_of}
use Rattle.frames.proofs.Room.{frames-le, samples-le, samples-over, count-le}
use Rattle.sinc.specs.Sinc.{sinc_filter_points}
use Rattle.rate.specs.declared.Position.{Position}
use Rattle.rate.specs.Halving.{max_halved_rate}
use Rattle.rate.specs.Tail.{due, next, interpolate_window, interpolated}
use Rattle.rate.specs.Conversion.{convert}
use Rattle.rate.proofs.Positions.{Small, placed-small, steps-placed, ratio-lt, due-more, due-no-more, next_start, next-on}
use Rattle.rate.proofs.Cycles.{cycle-le, phase-more, ratio-is, phase-lt}
use Rattle.rate.proofs.Window.{window-is, length-interpolated}
use Rattle.rate.proofs.Turns.{scanning-start, scanning-turn, scanning-full, scan-done, emitting-start, emitting-turn}
use Rattle.rate.proofs.scan.scan_tail.Goals as goal
use Rattle.rate.proofs.scan.scan_tail.Goals.{At-loop-n, At-scan, Else-made-room, Joined-p-old_rate, Left-scan, Start}
use Rattle.rate.proofs.scan.scan_tail.Goals.{else-scan-test, then-scan-test+then-loop-n-test+then-made-room}
use Rattle.rate.proofs.scan.scan_tail.Goals.{then-p-old_rate, else-p-old_rate}

-- ---- places, and what is known there

abbrev AtEntry : Type 0
AtEntry = Start

abbrev AtScan : Type 0
AtScan = At-scan

abbrev AtLoop : Type 0
AtLoop = At-loop-n

-- at the scan: its frames, the position, the numbers there
module _ (c : AtScan) where
  abbrev entry : AtEntry
  entry = c.before.before.before

  abbrev position : Position
  position = record { old = c.scan.p; new = c.scan.n }

  -- the frames that the output holds
  counted : c.frames.result.0 ≡ length entry.args.output.now / entry.args.channels
  counted = c.frames.ensures

  small : Small entry.args.rates position
  small =
      placed-small entry.args.rates position
      (steps-placed entry.args.rates c.scan.j entry.args.at position entry.requires.placed c.scan.invariant.1.at)

-- at the inner loop
module _ (c : AtLoop) where
  abbrev scanned : AtScan
  scanned = c.before.before

  abbrev begun : AtEntry
  begun = entry scanned

  abbrev whole : ℕ
  whole = length begun.args.output.now

  -- the frames waiting and made
  abbrev place : ℕ
  place = begun.args.waiting.0 + c.loop-n.made

  last : c.loop-n.n ≤ max_halved_rate * max_halved_rate
  last = omega (arith, c.loop-n.invariant.new, c.loop-n.invariant.within, (small scanned).last_most)

  product-fits : c.loop-n.n * begun.args.rates.old < 2 ^ 64
  product-fits = omega (arith, mul-le-mul last begun.requires.placed.old_most)

  long : length c.loop-n.output ≡ whole
  long = c.loop-n.invariant.behind.long ∙ scanned.scan.invariant.1.behind.long

  place-le : place ≤ whole / begun.args.channels
  place-le = frames-le begun.args.channels place whole begun.requires.lent.some (omega (arith, c.loop-n.invariant.behind.fits, c.loop-n.invariant.behind.long, long))

  waits-le : begun.args.waiting.0 ≤ whole / begun.args.channels
  waits-le = frames-le begun.args.channels begun.args.waiting.0 whole begun.requires.lent.some begun.requires.lent.waits

  -- more than 12 tail frames lie ahead
  ahead : scanned.scan.j + sinc_filter_points ≤ begun.args.tail.0
  ahead = omega (arith, c.scan-test.true)

  -- its test
  more-due : c.loop-n.n * begun.args.rates.old < (scanned.scan.p + 1) * begun.args.rates.new
      → c.loop-n.invariant.i < due begun.args.rates (position scanned)
  more-due h =
      let r = begun.args.rates in
      due-more r (position scanned) c.loop-n.invariant.i (omega (arith, begun.requires.placed.order.below))
      (subst (λ (k : ℕ). k * r.old < (scanned.scan.p + 1) * r.new) c.loop-n.invariant.new h)

-- a frame fits
module _ (c : Else-made-room) where
  abbrev loop-of : AtLoop
  loop-of = c.before.before

  room : (place loop-of + 1) * (begun loop-of).args.channels ≤ length loop-of.loop-n.output
  room =
      let d = loop-of in
      let more : place d + 1 ≤ whole d / (begun d).args.channels = omega (arith, place-le d, waits-le d, counted (scanned d), c.if-made-room.false) in
      omega (arith, samples-le (begun d).args.channels (place d + 1) (whole d) (begun d).requires.lent.some more, long d)

  -- some phases of the cycle lie ahead of it
  phase-of : loop-of.loop-n.n * (begun loop-of).args.cycle.old < ((scanned loop-of).scan.p + 1) * (begun loop-of).args.cycle.new
  phase-of =
      let s = begun loop-of in
      phase-more s.args.rates s.args.cycle s.requires.cycle_of (scanned loop-of).scan.p loop-of.loop-n.n c.loop-n-test.true

  place-lt : place loop-of < whole loop-of
  place-lt =
      let d = loop-of in
      omega (arith, count-le (begun d).args.channels (place d + 1) (begun d).requires.lent.some, room, long d)

  -- the frame made is that of the position
  abbrev placed : Frame → List ℤ
  placed f = paste loop-of.loop-n.output (place loop-of * (begun loop-of).args.channels) f (begun loop-of).args.channels

  abbrev window : List Frame
  window =
      frames_of (begun loop-of).args.channels sinc_filter_points
      (drop ((scanned loop-of).scan.j * (begun loop-of).args.channels) (begun loop-of).args.stage.now)

  abbrev phase : ℕ
  phase = ((scanned loop-of).scan.p + 1) * (begun loop-of).args.cycle.new - loop-of.loop-n.n * (begun loop-of).args.cycle.old - 1

  frame_is : (out : List ℤ) → let y = (begun loop-of).args.cycle in out ≡ placed (interpolate_window window (y.step * (phase + 1) - 1) (y.step * y.new))
      → out ≡ placed (interpolated (begun loop-of).args.rates (record { old = (scanned loop-of).scan.p; new = loop-of.loop-n.n }) window)
  unfolding interpolated
  frame_is out e =
      let s = begun loop-of in
      let ratio = ratio-is s.args.rates s.args.cycle s.requires.cycle_of (scanned loop-of).scan.p loop-of.loop-n.n c.loop-n-test.true in
      e ∙ (λ i. placed (interpolate_window window (ratio i) (s.requires.cycle_of.new i)))

  made-fits : loop-of.loop-n.made + 1 < 2 ^ 64
  made-fits = omega (arith, place-lt)

-- no frame fits
full : (d : AtLoop) → d.loop-n.made ≡ (scanned d).frames.result.0 - (begun d).args.waiting.0
    → length d.loop-n.output < place d * (begun d).args.channels + (begun d).args.channels
full d e =
    let over : whole d / (begun d).args.channels < place d + 1 = omega (arith, waits-le d, counted (scanned d)) in
    omega (arith, samples-over (begun d).args.channels (place d + 1) (whole d) (begun d).requires.lent.some over, long d)

-- the scan is left
left-long : (c : Left-scan) → length c.scan-test.output ≡ length (entry c.before).args.output.now
left-long c =
    let long = c.scan.invariant.1.behind.long in
    elim c.scan-test.branch [
      | else-scan-test w ↦ ap length w.output-is ∙ long
      | then-scan-test+then-loop-n-test+then-made-room w ↦ ap length w.output-is ∙ w.loop-n.invariant.behind.long ∙ long
    ]

-- the inner loop is left
abbrev left-loop : Joined-p-old_rate → AtLoop
left-loop c = c.before.before

pub overflow_sub-room : goal.overflow_sub-room
overflow_sub-room c =
    let s = c.before.before in
    let a = s.args in
    let h = frames-le a.channels a.waiting.0 (length a.output.now) s.requires.lent.some s.requires.lent.waits in
    omega (arith, h, c.frames.ensures)

pub scan-init : goal.scan-init
scan-init c =
    let s = c.before.before in
    let a = s.args in
    let l = frames_of a.channels a.tail.0 a.stage.now in
    (omega arith, scanning-start a.channels a.waiting.0 a.rates a.at l a.output.now s.requires.lent.waits)

pub overflow_add-right : goal.overflow_add-right
overflow_add-right c = record { fits = omega (arith, (small c.before).below) }

pub overflow_mul-right : goal.overflow_mul-right
overflow_mul-right c = record { fits = omega (arith, (small c.before).right_most) }

pub overflow_add-end : goal.overflow_add-end
overflow_add-end c = record { fits = omega (arith, (small c.before).below) }

pub overflow_mul-end : goal.overflow_mul-end
overflow_mul-end c =
    let s = entry c.before in
    let less = (cycle-le s.args.rates s.args.cycle s.requires.cycle_of).0 in
    record { fits = omega (arith, (small c.before).right_most, mul-le-mul_left (c.scan.p + 1) less) }

pub loop-n-init : goal.loop-n-init
unfolding emitting-start
loop-n-init c =
    let a = (entry c.before).args in
    let l = c.scan in
    let b = l.invariant.1.behind in
    emitting-start a.channels a.waiting.0 a.rates (position c.before) _ l.output l.made (omega (arith, b.fits, b.long))

pub overflow_mul-n : goal.overflow_mul-n
overflow_mul-n c = record { fits = product-fits c }

pub overflow_add-to : goal.overflow_add-to
overflow_add-to c = record { fits = omega (arith, place-lt c) }

pub overflow_mul-phase : goal.overflow_mul-phase
overflow_mul-phase c =
    let s = begun (loop-of c) in
    let less = (cycle-le s.args.rates s.args.cycle s.requires.cycle_of).1 in
    record { fits = omega (arith, product-fits (loop-of c), mul-le-mul_left (loop-of c).loop-n.n less) }

pub overflow_sub-phase : goal.overflow_sub-phase
overflow_sub-phase c = omega (arith, phase-of c)

pub overflow_sub-phase-in-loop-n : goal.overflow_sub-phase-in-loop-n
overflow_sub-phase-in-loop-n c = omega (arith, phase-of c)

pub make_frame-requires : goal.make_frame-requires
make_frame-requires c =
    let d = loop-of c.before in
    let s = begun d in
    let l = (scanned d).scan in
    let from : l.n ≤ d.loop-n.n = omega (arith, d.loop-n.invariant.new) in
    let ratio = ratio-lt s.args.rates l.p l.n d.loop-n.n (small (scanned d)).passed from c.loop-n-test.true in
    let phase = phase-lt s.args.rates s.args.cycle s.requires.cycle_of l.p d.loop-n.n c.loop-n-test.true ratio in
    let narrow : s.args.cycle.step * s.args.cycle.new ≤ max_halved_rate = omega (arith, s.requires.cycle_of.new, s.requires.placed.new_most) in
    let taps = mul-le-mul_right s.args.channels (ahead d) in record {
      phase_ready = (s.requires.serves, record { some = s.requires.cycle_of.some; below = phase; narrow = narrow });
      channels_in_bounds = (omega (arith, taps, s.requires.lent.holds), room c.before);
    }

pub overflow_add-made : goal.overflow_add-made
overflow_add-made c = record { fits = made-fits c.before.before.before }

pub overflow_add-n : goal.overflow_add-n
overflow_add-n c = record { fits = omega (arith, last (loop-of c.before.before.before)) }

pub loop-n-preserved : goal.loop-n-preserved
loop-n-preserved c =
    let d = loop-of c.before.before.before in
    let s = begun d in
    let a = s.args in
    let b = d.loop-n.invariant in
    let x = drop ((scanned d).scan.j * a.channels) a.stage.now in
    let staged = mul-le-mul_right a.channels (ahead d) in
    let taps : a.channels ≤ length x = omega (arith, length-drop ((scanned d).scan.j * a.channels) a.stage.now, s.requires.lent.holds) in
    emitting-turn b c.make_frame.new.output (more-due d c.before.before.before.loop-n-test.true)
    (omega (arith, room c.before.before.before, b.behind.long))
    (length-interpolated a.rates (record { old = (scanned d).scan.p; new = d.loop-n.n }) a.channels x taps)
    (frame_is c.before.before.before _ c.make_frame.ensures)

pub overflow_add-p : goal.overflow_add-p
overflow_add-p c = record { fits = omega (arith, (small (scanned c.before)).below) }

pub scan-preserved : goal.scan-preserved
scan-preserved c =
    let d = left-loop c in
    let s = begun d in
    let a = s.args in
    let l = (scanned d).scan in
    let b = d.loop-n.invariant in
    let t : Position = position (scanned d) in
    let window = window-is a.channels a.tail.0 l.j a.stage.now (ahead d) in
    let most : due a.rates t ≤ b.i =
    due-no-more a.rates t b.i (omega (arith, s.requires.placed.order.below))
    (subst (λ (k : ℕ). (l.p + 1) * a.rates.new ≤ k * a.rates.old) b.new c.loop-n-test.false) in
    let all : d.loop-n.n ≡ l.n + due a.rates t = omega (arith, b.new, b.within) in
    let t' : Position = record { old = c.if-p-old_rate.p; new = c.if-p-old_rate.n } in
    let e : t' ≡ next a.rates t =
    elim c.if-p-old_rate.branch [
      | then-p-old_rate w ↦ (λ i. record { old = w.p-is i; new = w.n-is i }) ∙ sym (next_start a.rates t w.if-p-old_rate.true)
      | else-p-old_rate w ↦ (λ i. record { old = w.p-is i; new = w.n-is i }) ∙ sym (next-on a.rates t d.loop-n.n w.if-p-old_rate.false all)
    ] in
    (omega arith, scanning-turn l.invariant.1 b window t' most e)

pub shape_of-output-then-j-t : goal.shape_of-output-then-j-t
shape_of-output-then-j-t c = left-long c.before

-- left from inside
pub returns-then-j-t : goal.returns-then-j-t
unfolding convert
returns-then-j-t c =
    let a = (entry c.before.before).args in
    let l = c.scan in
    elim c.scan-test.branch [
      | else-scan-test w ↦ absurd (omega (arith, w.scan-test.false, c.if-j-t.true))
      | then-scan-test+then-loop-n-test+then-made-room w ↦
          let d : AtLoop = record { before = record { before = c.before.before; scan-test = w.scan-test }; loop-n = w.loop-n } in
          let few = length-frames_of a.channels a.tail.0 a.stage.now in
          let window = window-is a.channels a.tail.0 l.j a.stage.now (ahead d) in
          rw w.output-is (scanning-full l.invariant.1 w.loop-n.invariant window _ (more-due d w.loop-n-test.true) (omega (arith, ahead d)) (full d w.if-made-room.true))
    ]

pub overflow_sub-result : goal.overflow_sub-result
overflow_sub-result c = omega (arith, c.scan.invariant.0)

pub shape_of-output : goal.shape_of-output
shape_of-output c = left-long c.before

-- ended
pub returns : goal.returns
returns c =
    let a = (entry c.before.before).args in
    let l = c.scan in
    elim c.scan-test.branch [
      | else-scan-test w ↦
          rw (w.output-is, w.n-is, w.made-is)
          (scan-done a.tail.0 a.stage.now l.invariant.1 (omega (arith, l.invariant.0, w.scan-test.false)))
      | then-scan-test+then-loop-n-test+then-made-room w ↦ absurd (omega (arith, w.scan-test.true, c.if-j-t.false))
    ]
