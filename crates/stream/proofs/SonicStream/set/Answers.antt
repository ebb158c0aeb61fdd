-- `stream::SonicStream::set` meets its contract. Assumes nothing.
use Rattle.std.proofs.Common.{◌≡◌, refl, sym, ◌∙◌, Bool, true, false, cond}
use mir.Val.{bool_byte}
use Rattle.frames.proofs.Framing.{length-frames_of}
use Rattle.stream.specs.Settings.{with_setting, set_call}
use Rattle.stream.specs.Stream.{state_of, stream_of}
use Rattle.stream.proofs.InOrder.{good_of, bad-of}
use Rattle.stream.proofs.SonicStream.set.Goals as goal

number_of : (on : Bool) → bool_byte on ≡ cond on 1 0
number_of true = refl
number_of false = refl

pub returns-in_default : goal.returns-in_default
unfolding set_call
returns-in_default c = simp (bad-of c.args.self (sym c.ordered.ensures ∙ c.in_default.is))

pub returns-in-Speed : goal.returns-in-Speed
unfolding set_call with_setting stream_of state_of
returns-in-Speed c =
    let g = good_of c.args.self _ (sym c.ordered.ensures ∙ c.in-Some.is) in
    simp (g.0, g.1, c.in-Speed.is, c.clamp.ensures, length-frames_of)

pub returns-in-Pitch : goal.returns-in-Pitch
unfolding set_call with_setting stream_of state_of
returns-in-Pitch c =
    let g = good_of c.args.self _ (sym c.ordered.ensures ∙ c.in-Some.is) in
    simp (g.0, g.1, c.in-Pitch.is, c.clamp-in-Pitch.ensures, length-frames_of)

pub returns-in-Volume : goal.returns-in-Volume
unfolding set_call with_setting stream_of state_of
returns-in-Volume c =
    let g = good_of c.args.self _ (sym c.ordered.ensures ∙ c.in-Some.is) in
    simp (g.0, g.1, c.in-Volume.is, c.clamp-in-Volume.ensures, length-frames_of)

pub returns-in-StepOver : goal.returns-in-StepOver
unfolding set_call with_setting stream_of state_of
returns-in-StepOver c =
    let g = good_of c.args.self _ (sym c.ordered.ensures ∙ c.in-Some.is) in
    simp (g.0, g.1, c.in-StepOver.is, number_of, length-frames_of)
