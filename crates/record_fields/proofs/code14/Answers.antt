-- `code14` meets its contract: outside fourteen bits by a test on either side, then the code. Assumes nothing.
use mathlib.Core.Path.{◌≡◌, refl, sym, ap, subst, ◌∙◌}
use Prim.Native.Nat.{◌^◌, ◌<◌}
use native.Mathlib.Omega.{arith}
use lib.IntN.{ℤ, pos, negsuc}
use lib.Signed.{mag, lt_z}
use mir.Syntax.{w16}
use mir.Val.{to_z, of_z}
use mir.ValLaws.{to_z-of_z}
use Rattle.bits.specs.Signed.{code}
use Rattle.bits.proofs.SignedLaws.{below-width, above-width, in-width}
use Rattle.record_fields.proofs.NarrowLaws.{within-code, without-code}
use Rattle.record_fields.proofs.SignedCode.{widened, wide_is, up}
use Rattle.record_fields.proofs.code14.Goals as goal
use Rattle.record_fields.proofs.code14.Goals.{then-z-ltminus8192-via-then-z-ltminus8192, then-z-ltminus8192-via-else-z-ltminus8192+then-z-gt8191}

pub returns-then-z-ltminus8192 : goal.returns-then-z-ltminus8192
returns-then-z-ltminus8192 c =
    let z = c.args.z in
    let is : to_z w16 (of_z w16 z) ≡ z = to_z-of_z w16 z c.ranges.z in
    sym (without-code 13 z (elim c.then-z-ltminus8192.branch [
      | then-z-ltminus8192-via-then-z-ltminus8192 w ↦ below-width 13 8191 refl z (ap (λ (x : ℤ). lt_z x (negsuc 8191)) (sym is) ∙ w.if-z-ltminus8192.true)
      | then-z-ltminus8192-via-else-z-ltminus8192+then-z-gt8191 w ↦ above-width 13 8191 refl z (ap (λ (x : ℤ). lt_z (pos 8191) x) (sym is) ∙ w.if-z-gt8191.true)
    ]))

pub overflow_cast-z : goal.overflow_cast-z
overflow_cast-z c = widened w16 c.args.z c.ranges.z (up w16 _ c.ranges.z (omega arith))

pub code-requires : goal.code-requires
code-requires c =
    let is : to_z w16 (of_z w16 c.args.z) ≡ c.args.z = to_z-of_z w16 c.args.z c.ranges.z in
    let inside : mag c.args.z < 2 ^ 13 = in-width 13 8191 refl c.args.z (ap (λ (x : ℤ). lt_z x (negsuc 8191)) (sym is) ∙ c.if-z-ltminus8192.false)
    (ap (λ (x : ℤ). lt_z (pos 8191) x) (sym is) ∙ c.if-z-gt8191.false) in (
      omega arith,
      subst (λ (x : ℤ). mag x < 2 ^ 13) (sym (wide_is w16 c.args.z c.ranges.z (up w16 _ c.ranges.z (omega arith)))) inside,
    )

pub returns : goal.returns
returns c =
    let is : to_z w16 (of_z w16 c.args.z) ≡ c.args.z = to_z-of_z w16 c.args.z c.ranges.z in
    let inside : mag c.args.z < 2 ^ 13 = in-width 13 8191 refl c.args.z (ap (λ (x : ℤ). lt_z x (negsuc 8191)) (sym is) ∙ c.if-z-ltminus8192.false)
    (ap (λ (x : ℤ). lt_z (pos 8191) x) (sym is) ∙ c.if-z-gt8191.false) in
    c.code.ensures ∙ ap (code 13) (wide_is w16 c.args.z c.ranges.z (up w16 _ c.ranges.z (omega arith)))
    ∙ sym (within-code 13 c.args.z inside)
