-- `floats::samples::cut_pattern` meets its contract: the cut by the fields of `proofs/CutBits.antt`, with its sign. Assumes nothing.
use Rattle.std.proofs.Common.{◌≡◌, ℕ, ◌^◌, ◌<◌, ◌≤◌, Bool, true, false, leb, ℤ, pos, ◌-ℤ◌, neg_ℤ, sym, ap, ◌∙◌, subst, lt_of_lt_of_le, not-le_of_lt, lit≤, le→leb, leb→le, to_z-of_z, w16, w32, SFits, to_z}
use lib.Dec.{not_T}
use lib.IntN.{+ℤ_idl}
use lib.Ieee.Bits.{is_true, is_false}
use mir.Facts.{to_z_pos}
use Rattle.floats.specs.Bits.{cut_magnitude}
use Rattle.floats.proofs.CutBits.{signed, signed-fits, magnitude-lt, cut-bits}
use Rattle.floats.proofs.samples.cut_pattern.Goals as goal
use Rattle.floats.proofs.samples.cut_pattern.Goals.{After-cut_magnitude-m, Joined-b-ge2147483648, Start}

size-lt : (c : Start) → cut_magnitude c.args.b < 2 ^ 15
size-lt c = magnitude-lt c.args.b c.requires

-- the size, its negation and the joined value, as the machine reads them
size-reads : (c : After-cut_magnitude-m) → to_z w32 c.cut_magnitude-m.result ≡ pos (cut_magnitude c.args.b)
size-reads c = ap (to_z w32) c.cut_magnitude-m.ensures ∙ to_z_pos w32 (lt_of_lt_of_le (size-lt c.before) (lit≤ tt))

negated-is : (c : After-cut_magnitude-m) → pos 0 -ℤ to_z w32 c.cut_magnitude-m.result ≡ signed true (cut_magnitude c.args.b)
negated-is c = ap (λ (z : ℤ). pos 0 -ℤ z) (size-reads c) ∙ +ℤ_idl (neg_ℤ (pos (cut_magnitude c.args.b)))

negated_fits : (c : After-cut_magnitude-m) → SFits w32 (pos 0 -ℤ to_z w32 c.cut_magnitude-m.result)
negated_fits c =
    subst (SFits w32) (sym (negated-is c)) (signed-fits w32 true (cut_magnitude c.args.b) (lt_of_lt_of_le (size-lt c.before) (lit≤ tt)))

sign_set : (b : ℕ) → 2 ^ 31 ≤ b → leb (2 ^ 31) b ≡ true
sign_set b h = is_true (leb (2 ^ 31) b) (le→leb (2 ^ 31) b h)

sign_clear : (b : ℕ) → b < 2 ^ 31 → leb (2 ^ 31) b ≡ false
sign_clear b h = is_false (leb (2 ^ 31) b) (not_T (leb (2 ^ 31) b) (λ t. not-le_of_lt h (leb→le (2 ^ 31) b t)))

value-reads : (c : Joined-b-ge2147483648) → to_z w32 c.if-b-ge2147483648.v-bits ≡ signed (leb (2 ^ 31) c.args.b) (cut_magnitude c.args.b)
value-reads c =
    let b = c.args.b in
    elim c.if-b-ge2147483648.branch [
      | goal.then-b-ge2147483648 w ↦
          ap (to_z w32) w.v-is-bits ∙ to_z-of_z (negated_fits c.before) ∙ negated-is c.before
          ∙ ap (λ (s : Bool). signed s (cut_magnitude b)) (sym (sign_set b w.if-b-ge2147483648.true))
      | goal.else-b-ge2147483648 w ↦
          ap (to_z w32) w.v-is-bits ∙ size-reads c.before
          ∙ ap (λ (s : Bool). signed s (cut_magnitude b)) (sym (sign_clear b w.if-b-ge2147483648.false))
    ]

value-fits : (c : Joined-b-ge2147483648) → SFits w16 (to_z w32 c.if-b-ge2147483648.v-bits)
value-fits c =
    let b = c.args.b in
    subst (SFits w16) (sym (value-reads c)) (signed-fits w16 (leb (2 ^ 31) b) (cut_magnitude b) (size-lt c.before.before))

pub overflow_cast-m : goal.overflow_cast-m
overflow_cast-m c = subst (λ (z : ℕ). SFits w32 (pos z)) (sym c.cut_magnitude-m.ensures) (record { sfits = lt_of_lt_of_le (size-lt c.before) (lit≤ tt) })

pub overflow_sub-v : goal.overflow_sub-v
overflow_sub-v c = negated_fits c.before

pub overflow_cast-result : goal.overflow_cast-result
overflow_cast-result c = value-fits c

pub returns : goal.returns
returns c =
    let s = c.before.before in
    to_z-of_z (value-fits c) ∙ value-reads c ∙ sym (cut-bits s.args.b s.requires)
