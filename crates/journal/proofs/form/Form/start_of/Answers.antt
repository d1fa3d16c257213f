-- `start_of` meets its contract: the four tests in the order of the definition. Assumes nothing.
use mathlib.Core.Path.{sym, ◌∙◌}
use Prim.Native.Nat.{◌*◌, ◌≤◌}
use native.Mathlib.Omega.{arith}
use borrow.Author.Rules.{rules}
use borrow.Author.Tests.{lt-ltb, le-ltb}
use Rattle.journal.specs.Forms.{n_byte}
use Rattle.journal.proofs.WordLaws.{bytes-few}
use Rattle.journal.proofs.form.Form.start_of.Goals as goal

pub returns-then-is_unmarked : goal.returns-then-is_unmarked
returns-then-is_unmarked c = simp (sym c.is_unmarked.ensures ∙ c.if-is_unmarked.true)

pub returns-then-bytes-lt3 : goal.returns-then-bytes-lt3
returns-then-bytes-lt3 c = simp (sym c.is_unmarked.ensures ∙ c.if-is_unmarked.false, lt-ltb _ _ c.if-bytes-lt3.true)

pub overflow_cast-n : goal.overflow_cast-n
overflow_cast-n c = omega (arith, c.type_inv.bytes 2)

pub returns-then-n-gt31 : goal.returns-then-n-gt31
returns-then-n-gt31 c =
    simp (sym c.is_unmarked.ensures ∙ c.if-is_unmarked.false, le-ltb _ _ c.if-bytes-lt3.false, lt-ltb _ _ c.if-n-gt31.true)

pub overflow_mul-self : goal.overflow_mul-self
overflow_mul-self c =
    let few : c.args.self.size * n_byte c.args.bytes.now ≤ 124 = let a = c.args in bytes-few a.self.size (n_byte a.bytes.now) (search rules) (search rules) in
    omega (arith, few)

pub overflow_add-self : goal.overflow_add-self
overflow_add-self c =
    let few : c.args.self.size * n_byte c.args.bytes.now ≤ 124 = let a = c.args in bytes-few a.self.size (n_byte a.bytes.now) (search rules) (search rules) in
    omega (arith, few)

pub returns-then-bytes-self : goal.returns-then-bytes-self
returns-then-bytes-self c =
    simp (
      sym c.is_unmarked.ensures ∙ c.if-is_unmarked.false,
      le-ltb _ _ c.if-bytes-lt3.false,
      le-ltb _ _ c.if-n-gt31.false,
      lt-ltb _ _ c.if-bytes-self.true,
    )

pub returns : goal.returns
returns c =
    simp (
      sym c.is_unmarked.ensures ∙ c.if-is_unmarked.false,
      le-ltb _ _ c.if-bytes-lt3.false,
      le-ltb _ _ c.if-n-gt31.false,
      le-ltb _ _ c.if-bytes-self.false,
    )
