-- `floats::steps::copying_due` meets its contract: each `&&` of the code is one of the definition. Assumes nothing.
use Rattle.std.proofs.Common.{◌≡◌, Bool, true, false, ◌&&◌, ◌||◌, sym, ap, ◌∙◌}
use lib.Ieee.{lt, of_bits}
use Rattle.floats.specs.Numbers.{zero, half, one, two}
use Rattle.floats.specs.Steps.{copying_due}
use Rattle.floats.proofs.steps.copying_due.Goals as goal
use Rattle.floats.proofs.steps.copying_due.Goals.{then-s, else-s, then-s-2, else-s-2, then-s-3, else-s-3, then-s-4, else-s-4}

both : (a b v : Bool) → a ≡ true → v ≡ b → v ≡ (a && b)
both a b v t is = rw t is

none : (a b v : Bool) → a ≡ false → v ≡ a → v ≡ (a && b)
none a b v t is = rw t (is ∙ t)

third : (a b c v w : Bool) → w ≡ (a && b) → v ≡ (w && c) → v ≡ (a && (b && c))
third true b c v w e f = f ∙ ap (λ z. z && c) e
third false b c v w e f = f ∙ ap (λ z. z && c) e

fast-first : (f s v : Bool) → f ≡ v → v ≡ true → v ≡ (f || s)
fast-first f s v e t = rw (e, t)

slow-second : (f s v w : Bool) → f ≡ v → v ≡ false → w ≡ s → w ≡ (f || s)
slow-second f s v w e t is = rw (e, t) is

pub returns-then-fast : goal.returns-then-fast
unfolding copying_due of_bits
returns-then-fast c =
    let s = c.args.s in
    let low = lt c.args.error zero in
    let high = lt zero c.args.error in
    let two-tests = elim c.if-s.branch as (λ _. c.if-s.value ≡ (lt one s && lt s two)) [
      | then-s w ↦ both (lt one s) (lt s two) c.if-s.value w.if-s.true w.value-is
      | else-s w ↦ none (lt one s) (lt s two) c.if-s.value w.if-s.false w.value-is
    ] in
    let three = elim c.if-s-2.branch as (λ _. c.if-s-2.fast ≡ (c.if-s.value && low)) [
      | then-s-2 w ↦ both c.if-s.value low c.if-s-2.fast w.if-s-2.true w.fast-is
      | else-s-2 w ↦ none c.if-s.value low c.if-s-2.fast w.if-s-2.false w.fast-is
    ] in
    fast-first (lt one s && (lt s two && low)) (lt s one && (lt half s && high)) c.if-s-2.fast
    (sym (third (lt one s) (lt s two) low c.if-s-2.fast c.if-s.value two-tests three)) c.if-fast.true

pub returns-else-fast : goal.returns-else-fast
unfolding copying_due of_bits
returns-else-fast c =
    let s = c.args.s in
    let low = lt c.args.error zero in
    let high = lt zero c.args.error in
    let two-tests = elim c.if-s.branch as (λ _. c.if-s.value ≡ (lt one s && lt s two)) [
      | then-s w ↦ both (lt one s) (lt s two) c.if-s.value w.if-s.true w.value-is
      | else-s w ↦ none (lt one s) (lt s two) c.if-s.value w.if-s.false w.value-is
    ] in
    let three = elim c.if-s-2.branch as (λ _. c.if-s-2.fast ≡ (c.if-s.value && low)) [
      | then-s-2 w ↦ both c.if-s.value low c.if-s-2.fast w.if-s-2.true w.fast-is
      | else-s-2 w ↦ none c.if-s.value low c.if-s-2.fast w.if-s-2.false w.fast-is
    ] in
    let two-others = elim c.if-s-3.branch as (λ _. c.if-s-3.value ≡ (lt s one && lt half s)) [
      | then-s-3 w ↦ both (lt s one) (lt half s) c.if-s-3.value w.if-s-3.true w.value-is
      | else-s-3 w ↦ none (lt s one) (lt half s) c.if-s-3.value w.if-s-3.false w.value-is
    ] in
    let three-others = elim c.if-s-4.branch as (λ _. c.if-s-4.slow ≡ (c.if-s-3.value && high)) [
      | then-s-4 w ↦ both c.if-s-3.value high c.if-s-4.slow w.if-s-4.true w.slow-is
      | else-s-4 w ↦ none c.if-s-3.value high c.if-s-4.slow w.if-s-4.false w.slow-is
    ] in
    slow-second (lt one s && (lt s two && low)) (lt s one && (lt half s && high)) c.if-s-2.fast c.if-s-4.slow
    (sym (third (lt one s) (lt s two) low c.if-s-2.fast c.if-s.value two-tests three)) c.if-fast.false
    (third (lt s one) (lt half s) high c.if-s-4.slow c.if-s-3.value two-others three-others)
