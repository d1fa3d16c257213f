-- `entries_in` meets its contract: the entries that fit behind the head, where they take N words. Assumes nothing.
use mathlib.Core.Path.{sym, ◌∙◌}
use Prim.Native.Nat.{◌+◌, ◌*◌}
use native.Mathlib.Omega.{arith}
use Rattle.record_stages.specs.Stages.{held_after}
use Rattle.record_stages.proofs.ListCode.{count-over, count-headless, count-nothing, count_none, count-wrong, count-right, held-le, words-up}
use Rattle.record_stages.proofs.entries_in.Goals as goal
use Rattle.record_stages.proofs.entries_in.Goals.{then-n-gt31-via-then-n-gt31, then-n-gt31-via-else-n-gt31+then-head-n}
use Rattle.record_stages.proofs.entries_in.Goals.{then-n-gt31-via-else-n-gt31+else-head-n+then-width-eq0}
use Rattle.record_stages.proofs.entries_in.Goals.{then-count-eq0-via-then-count-eq0, then-count-eq0-via-else-count-eq0+then-div_ceil-n}

pub returns-then-n-gt31 : goal.returns-then-n-gt31
returns-then-n-gt31 c =
    let a = c.args in
    elim c.then-n-gt31.branch [
      | then-n-gt31-via-then-n-gt31 w ↦ rw (count-over a.head a.width a.n w.if-n-gt31.true)
      | then-n-gt31-via-else-n-gt31+then-head-n w ↦ rw (count-headless a.head a.width a.n w.if-n-gt31.false w.if-head-n.true)
      | then-n-gt31-via-else-n-gt31+else-head-n+then-width-eq0 w ↦ rw (count-nothing a.head a.width a.n w.if-n-gt31.false w.if-width-eq0.true)
    ]

pub returns-then-count-eq0 : goal.returns-then-count-eq0
returns-then-count-eq0 c =
    let a = c.args in
    elim c.then-count-eq0.branch [
      | then-count-eq0-via-then-count-eq0 w ↦ rw (count_none a.head a.width a.n c.if-n-gt31.false w.if-count-eq0.true)
      | then-count-eq0-via-else-count-eq0+then-div_ceil-n w ↦
          rw (count-wrong a.head a.width a.n c.if-n-gt31.false w.if-count-eq0.false
          (λ e. w.if-div_ceil-n.true (w.div_ceil.ensures ∙ words-up (a.head + held_after a.head a.width a.n * a.width) ∙ e)))
    ]

pub returns : goal.returns
returns c =
    let a = c.args in
    rw (count-right a.head a.width a.n c.if-n-gt31.false c.if-count-eq0.false
    (sym (words-up (a.head + held_after a.head a.width a.n * a.width)) ∙ sym c.div_ceil.ensures ∙ c.if-div_ceil-n.false))

pub overflow_mul-count-else-count-eq0 : goal.overflow_mul-count-else-count-eq0
overflow_mul-count-else-count-eq0 c =
    let a = c.args in
    record { fits = omega (arith, held-le a.head a.width a.n, c.if-n-gt31.false, c.if-head-n.false) }

pub overflow_add-head : goal.overflow_add-head
overflow_add-head c =
    let a = c.args in
    record { fits = omega (arith, held-le a.head a.width a.n, c.if-n-gt31.false, c.if-head-n.false) }
