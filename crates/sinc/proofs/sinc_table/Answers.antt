-- `sinc::sinc_table` meets its contract: the constant is the list, entry by entry. Assumes nothing.
use mathlib.Core.Path.{refl}
use Rattle.sinc.specs.SincTable.{sinc_table}
use Rattle.sinc.proofs.sinc_table.Goals as goal

pub returns : goal.returns
unfolding sinc_table
returns c = refl
