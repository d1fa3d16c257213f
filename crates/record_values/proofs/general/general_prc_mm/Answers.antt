-- `general_prc_mm` meets its contract: the tests of the range, then the two laws on signed numbers of 14 bits. Assumes nothing.
use mathlib.Core.Path.{◌≡◌, refl, sym, ap, ◌∙◌}
use Prim.Native.Nat.{◌^◌, ◌<◌}
use native.Mathlib.Omega.{arith}
use lib.IntN.{ℤ, pos, negsuc}
use lib.Signed.{mag, lt_z}
use mir.Syntax.{w16, w32}
use mir.Val.{to_z, of_z}
use mir.ValLaws.{to_z-of_z}
use borrow.Author.Tests.{lt-ltb, le-ltb, eq-eqb, ne_eqb}
use Rattle.bits.proofs.SignedLaws.{below-width, above-width, in-width}
use Rattle.record_values.specs.Values.{signed_value}
use Rattle.record_values.specs.declared.Distance.TheVariants.{Millimetres}
use Rattle.record_values.proofs.Products.{read_back_lem}
use Rattle.record_values.proofs.Readings.{lowest-within}
use Rattle.record_values.proofs.general.general_prc_mm.Goals as goal
use Rattle.record_values.proofs.general.general_prc_mm.Goals.{then-prc-ltminus8192-via-then-prc-ltminus8192}
use Rattle.record_values.proofs.general.general_prc_mm.Goals.{then-prc-ltminus8192-via-else-prc-ltminus8192+then-prc-gt8191}

pub returns-then-prc-ltminus8192 : goal.returns-then-prc-ltminus8192
returns-then-prc-ltminus8192 c =
    let prc = c.args.prc in
    let is : to_z w16 (of_z w16 prc) ≡ prc = to_z-of_z w16 prc c.ranges.prc in
    simp (le-ltb _ _ (elim c.then-prc-ltminus8192.branch [
      | then-prc-ltminus8192-via-then-prc-ltminus8192 w ↦ below-width 13 8191 refl prc (ap (λ (x : ℤ). lt_z x (negsuc 8191)) (sym is) ∙ w.if-prc-ltminus8192.true)
      | then-prc-ltminus8192-via-else-prc-ltminus8192+then-prc-gt8191 w ↦ above-width 13 8191 refl prc (ap (λ (x : ℤ). lt_z (pos 8191) x) (sym is) ∙ w.if-prc-gt8191.true)
    ]))

pub returns-then-prc-eqminus8192 : goal.returns-then-prc-eqminus8192
unfolding signed_value
returns-then-prc-eqminus8192 c =
    let is : to_z w16 (of_z w16 c.args.prc) ≡ c.args.prc = to_z-of_z w16 c.args.prc c.ranges.prc in
    let inside : mag c.args.prc < 2 ^ 13 = in-width 13 8191 refl c.args.prc (ap (λ (x : ℤ). lt_z x (negsuc 8191)) (sym is) ∙ c.if-prc-ltminus8192.false)
    (ap (λ (x : ℤ). lt_z (pos 8191) x) (sym is) ∙ c.if-prc-gt8191.false) in
    simp (lt-ltb _ _ inside, lowest-within w16 13 c.args.prc (omega arith) c.ranges.prc ∙ eq-eqb _ _ c.if-prc-eqminus8192.true)

pub returns : goal.returns
unfolding signed_value
returns c =
    let is : to_z w16 (of_z w16 c.args.prc) ≡ c.args.prc = to_z-of_z w16 c.args.prc c.ranges.prc in
    let inside : mag c.args.prc < 2 ^ 13 = in-width 13 8191 refl c.args.prc (ap (λ (x : ℤ). lt_z x (negsuc 8191)) (sym is) ∙ c.if-prc-ltminus8192.false)
    (ap (λ (x : ℤ). lt_z (pos 8191) x) (sym is) ∙ c.if-prc-gt8191.false) in
    simp (lt-ltb _ _ inside, lowest-within w16 13 c.args.prc (omega arith) c.ranges.prc ∙ ne_eqb _ _ c.if-prc-eqminus8192.false)
    (ap Millimetres (read_back_lem w32 (record { sfits = c.product.type_inv }) c.product.ensures is refl))
