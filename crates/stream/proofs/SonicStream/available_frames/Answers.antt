-- `stream::SonicStream::available_frames` meets its contract. Assumes nothing.
use Rattle.std.proofs.Common.{sym, ◌∙◌}
use Rattle.stream.specs.Settings.{available_call}
use Rattle.stream.proofs.InOrder.{good_of, bad-of}
use Rattle.stream.proofs.SonicStream.available_frames.Goals as goal

pub returns-in-Some : goal.returns-in-Some
unfolding available_call
returns-in-Some c = simp (good_of c.args.self _ (sym c.ordered.ensures ∙ c.in-Some.is)).0

pub returns-in-None : goal.returns-in-None
unfolding available_call
returns-in-None c = simp (bad-of c.args.self (sym c.ordered.ensures ∙ c.in-None.is))
