-- A setting of a stream in order is accepted, changes it as the definition says and leaves it in order. Assumes nothing.
use Rattle.std.proofs.Common.{◌≡◌, true, sym, ◌∙◌, Ok, rules}
use Rattle.stream.specs.declared.SonicStream.{SonicStream}
use Rattle.stream.specs.declared.Setting.{Setting}
use Rattle.stream.specs.Refusals.{is_in_order}
use Rattle.stream.specs.Settings.{set_call}
use Rattle.stream.proofs.Stays.{set-in-order}
use Rattle.jobs.specs.Settings.{with_one}
use Rattle.jobs.proofs.settling.set.Goals as goal

accepted : (s : SonicStream) (v : Setting) → is_in_order s ≡ true → set_call s v ≡ Ok (with_one s v)
unfolding set_call
accepted s v o = rw o

pub unwrap-requires : goal.unwrap-requires
unwrap-requires c = rw (c.set.ensures ∙ accepted c.args.stream c.args.setting c.requires) (search rules)

pub returns-clause-in_order : goal.returns-clause-in_order
returns-clause-in_order c = set-in-order c.args.stream c.args.setting _ (sym c.set.ensures ∙ c.unwrap.ensures)

pub returns-clause-changed : goal.returns-clause-changed
returns-clause-changed c =
    let done = accepted c.args.stream c.args.setting c.requires in
    let answer = sym c.set.ensures ∙ c.unwrap.ensures in
    cc
