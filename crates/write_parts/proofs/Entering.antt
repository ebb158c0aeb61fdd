-- Refusal 3, by what `ordered` gives: unordered where it is met, in-order where it is not. Assumes nothing.
use Rattle.std.proofs.Common.{◌≡◌, true, Float, Option, Some, None, Ok, Err, ok_or, sym, ap, ◌∙◌, subst}
use Rattle.frames.specs.Areas.{Areas}
use Rattle.floats.specs.Settings.{sample_period}
use Rattle.stream.specs.declared.SonicStream.{SonicStream}
use Rattle.stream.specs.declared.refusal.Refusal.TheVariants.{BadStream}
use Rattle.stream.specs.declared.refusal.Refused.{Refused}
use Rattle.stream.specs.Refusals.{is_in_order}
use Rattle.stream.specs.Order.{order_of}
use Rattle.stream.proofs.InOrder.{good_of, bad-of}
use Rattle.adding.proofs.Answers.{stream-refused}
use Rattle.write_parts.specs.Writing.{EnteredAs}

module _ (s : SonicStream) where
  abbrev refused : Refused
  refused = record { refusal = BadStream; stream = s }

  pub unordered : (a : Areas) (o : Option Float) (e : Refused) → o ≡ order_of s → ok_or o (record { refusal = BadStream; stream = s }) ≡ Err e
      → EnteredAs s a (Err e)
  unordered a None e is was =
      let same : refused ≡ e = cc in
      subst (λ (x : Refused). EnteredAs s a (Err x)) same (λ added m c. (stream-refused s a added m c (bad-of s (sym is))).0)
  unordered a (Some period) e is was = cc

  pub in-order : (o : Option Float) (e : Refused) (period : Float) → o ≡ order_of s → ok_or o e ≡ Ok period
      → (is_in_order s ≡ true) × (period ≡ sample_period s.rate)
  in-order None e period is was = cc
  in-order (Some x) e period is was = let same : x ≡ period = cc in good_of s period (sym is ∙ ap Some same)
