-- `header_in` meets its contract: by word 1 and word 2. Assumes nothing.
use mathlib.Core.Path.{sym, ap, ◌∙◌}
use borrow.Author.Tests.{eq-eqb, ne_eqb}
use Rattle.std.specs.Prelude.{Some}
use Rattle.bits.specs.Bits.{bits}
use Rattle.frame.specs.Header.{n_of}
use Rattle.journal.proofs.header_in.Goals as goal

pub returns-then-n-told : goal.returns-then-n-told
returns-then-n-told c =
    rw (ne_eqb c.args.n (n_of (bits 24 c.args.second)) (λ e. c.if-n-told.true (e ∙ sym c.n_of-told.ensures)))

pub returns-then-not-has_preamble : goal.returns-then-not-has_preamble
returns-then-not-has_preamble c =
    rw (
      eq-eqb c.args.n (n_of (bits 24 c.args.second)) (c.if-n-told.false ∙ c.n_of-told.ensures),
      sym c.has_preamble.ensures ∙ c.if-not-has_preamble.true,
    )

pub returns : goal.returns
returns c =
    rw (
      eq-eqb c.args.n (n_of (bits 24 c.args.second)) (c.if-n-told.false ∙ c.n_of-told.ensures),
      sym c.has_preamble.ensures ∙ c.if-not-has_preamble.false,
    )
    (ap Some c.header_of.ensures)
