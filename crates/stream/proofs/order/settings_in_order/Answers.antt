-- `stream::order::settings_in_order` meets its contract. Assumes nothing.
use Rattle.std.proofs.Common.{◌≡◌, Bool, true, false, ◌||◌, cond, refl, sym, ◌∙◌, Some, None, is_le}
use Rattle.std.specs.Ordering.{is_some_and, partial_le, float_partial_cmp}
use Rattle.std.specs.declared.cmp.Ordering.TheVariants.{Less, Equal, Greater}
use lib.Ieee.{Float, le, lt, eq}
use Rattle.stream.specs.Refusals.{settings_in_order}
use Rattle.stream.proofs.order.settings_in_order.Goals as goal
use Rattle.stream.proofs.order.settings_in_order.Goals.{then-contains, else-contains}

le-is : (x y : Float) → partial_le float_partial_cmp x y ≡ le x y
unfolding le
le-is x y = go (lt x y) (eq x y) (lt y x)
  where
    go : (a b c : Bool) → is_some_and is_le (cond a (Some Less) (cond b (Some Equal) (cond c (Some Greater) None))) ≡ (a || b)
    go true b c = refl
    go false true c = refl
    go false false true = refl
    go false false false = refl

pub returns-then-contains-2 : goal.returns-then-contains-2
unfolding settings_in_order
returns-then-contains-2 c =
    let speed_range = c.new.ensures in
    let volume_range = c.new-then-contains-2.ensures in
    let speed = simp (le-is, speed_range.start, speed_range.end, speed_range.exhausted) at c.contains.ensures.value in
    let volume = simp (le-is, volume_range.start, volume_range.end, volume_range.exhausted) at c.contains-then-contains-2.ensures.value in
    elim c.if-contains.branch [
      | then-contains w ↦
          let pitch_range = w.new-then-contains.ensures in
          let pitch = simp (le-is, pitch_range.start, pitch_range.end, pitch_range.exhausted) at w.contains-then-contains.ensures.value in
          simp (volume, sym speed ∙ w.if-contains.true, sym pitch ∙ sym w.value-is ∙ c.if-contains-2.true)
      | else-contains w ↦ let none : true ≡ false = cc in cc
    ]

pub returns-else-contains-2 : goal.returns-else-contains-2
unfolding settings_in_order
returns-else-contains-2 c =
    let speed_range = c.new.ensures in
    let speed = simp (le-is, speed_range.start, speed_range.end, speed_range.exhausted) at c.contains.ensures.value in
    elim c.if-contains.branch [
      | then-contains w ↦
          let pitch_range = w.new-then-contains.ensures in
          let pitch = simp (le-is, pitch_range.start, pitch_range.end, pitch_range.exhausted) at w.contains-then-contains.ensures.value in
          simp (c.if-contains-2.false, sym speed ∙ w.if-contains.true, sym pitch ∙ sym w.value-is ∙ c.if-contains-2.false)
      | else-contains w ↦ simp (c.if-contains-2.false, sym speed ∙ w.if-contains.false)
    ]
