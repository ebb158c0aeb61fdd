-- `decimal::read_digits`: one digit more, and none. Assumes nothing.
use Rattle.std.proofs.Common.{sym, ◌∙◌, arith}
use Rattle.decimal.proofs.Reading.{digits-refused, digits-full, digits_more, digits-end}
use Rattle.decimal.proofs.read_digits.Goals as goal
use Rattle.decimal.proofs.read_digits.Goals.{then-not-is_ascii_digit-via-then-not-is_ascii_digit, then-not-is_ascii_digit-via-else-not-is_ascii_digit+then-n-ge-LIMIT}

pub returns-then-not-is_ascii_digit : goal.returns-then-not-is_ascii_digit
returns-then-not-is_ascii_digit c =
    let l = c.loop-b in
    elim c.then-not-is_ascii_digit.branch [
      | then-not-is_ascii_digit-via-then-not-is_ascii_digit w ↦
          sym (digits-refused c.args.text.now l.n l.b-index (omega arith) (sym c.is_ascii_digit.ensures.value ∙ w.if-not-is_ascii_digit.true)) ∙ l.invariant
      | then-not-is_ascii_digit-via-else-not-is_ascii_digit+then-n-ge-LIMIT w ↦
          sym (digits-full c.args.text.now l.n l.b-index (omega arith) (omega arith)) ∙ l.invariant
    ]

pub loop-b-preserved : goal.loop-b-preserved
loop-b-preserved c =
    let l = c.loop-b in
    let digit = sym c.is_ascii_digit.ensures.value ∙ c.if-not-is_ascii_digit.false in
    sym (digits_more c.args.text.now l.n l.b-index (omega arith) digit (omega arith)) ∙ l.invariant

pub returns : goal.returns
returns c = sym (digits-end c.args.text.now c.loop-b.n c.loop-b.b-index (omega arith)) ∙ c.loop-b.invariant
