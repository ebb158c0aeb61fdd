-- `jobs::arguments::is_within` meets its contract: `<=` of two floats is less or equal. Assumes nothing.
use Rattle.std.proofs.Common.{◌≡◌, Bool, true, false, ◌||◌, cond, refl, Some, None, is_le}
use Rattle.std.specs.Ordering.{is_some_and, partial_le, float_partial_cmp}
use Rattle.std.specs.declared.cmp.Ordering.TheVariants.{Less, Equal, Greater}
use lib.Ieee.{Float, le, lt, eq}
use Rattle.jobs.proofs.arguments.is_within.Goals as goal

le-is : (x y : Float) → partial_le float_partial_cmp x y ≡ le x y
unfolding le
le-is x y = go (lt x y) (eq x y) (lt y x)
  where
    go : (a b c : Bool) → is_some_and is_le (cond a (Some Less) (cond b (Some Equal) (cond c (Some Greater) None))) ≡ (a || b)
    go true b c = refl
    go false true c = refl
    go false false true = refl
    go false false false = refl

pub returns : goal.returns
returns c =
    let range = c.new.ensures in
    simp (le-is, range.start, range.end, range.exhausted) at c.contains.ensures.value
