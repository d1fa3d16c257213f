-- `entry_from` meets its contract: the fields by the table of the layout, each as the satellite holds it. Assumes nothing.
use mathlib.Core.Path.{◌≡◌, ap, ◌∙◌}
use mathlib.Core.List.{List}
use Prim.Native.Nat.{ℕ, ◌+◌, ◌^◌, ◌≤◌, ◌<◌}
use native.Mathlib.Nat.{mod-eq_of_lt}
use native.Mathlib.Omega.{arith}
use lib.IntN.{ℤ}
use lib.ListN.{get_or}
use mir.Syntax.{w16}
use mir.ValLaws.{to_z-of_z}
use borrow.Author.Rules.{rules}
use Rattle.bits.specs.Signed.{signed}
use Rattle.record_fields.proofs.SignedCode.{fewer-fits}
use Rattle.record_fields.proofs.TableLaws.{fields_fit, row_read_lem}
use Rattle.record_generals.specs.Generals.{widths, meant}
use Rattle.record_generals.proofs.LayoutLaws.{narrow, span-is, power_small}
use Rattle.record_generals.proofs.entry_from.Goals as goal

held : (vs : List ℕ) (p : ℤ) → p ≡ signed 13 (get_or vs 3 0)
    → record { satellite = get_or vs 0 0; udre = get_or vs 1 0; iod = get_or vs 2 0; prc = p; delay = get_or vs 4 0 } ≡ meant vs
held vs p e = rw e

pub returns : goal.returns
returns c =
    let fit : (k : ℕ) → let a = c.args in get_or c.fields-row.result k 0 < 2 ^ get_or (widths a.delay) k 0 = λ k. let a = c.args in fields_fit a.words (widths a.delay) a.at c.fields-row.result c.fields-row.ensures k in
    let requires : (c.args.delay ≤ 12) × (c.args.at + (32 + c.args.delay) ≤ 744) = search rules in
    let a = c.args in
    let e = c.signed14.ensures ∙ ap (signed 13) (mod-eq_of_lt (fit 3)) in
    held c.fields-row.result _ (to_z-of_z w16 c.signed14.result (fewer-fits w16 13 _ _ e (fit 3) (omega arith)) ∙ e)
    ∙ ap meant
    (row_read_lem a.words (widths a.delay) a.at c.fields-row.result c.fields-row.ensures (narrow a.delay requires.0)
    (omega (arith, span-is a.delay, requires.1)))

pub overflow_cast-result : goal.overflow_cast-result
overflow_cast-result c =
    let fit : (k : ℕ) → let a = c.args in get_or c.fields-row.result k 0 < 2 ^ get_or (widths a.delay) k 0 = λ k. let a = c.args in fields_fit a.words (widths a.delay) a.at c.fields-row.result c.fields-row.ensures k in
    record { fits = omega (arith, fit 0) }

pub overflow_cast-result-2 : goal.overflow_cast-result-2
overflow_cast-result-2 c =
    let fit : (k : ℕ) → let a = c.args in get_or c.fields-row.result k 0 < 2 ^ get_or (widths a.delay) k 0 = λ k. let a = c.args in fields_fit a.words (widths a.delay) a.at c.fields-row.result c.fields-row.ensures k in
    record { fits = omega (arith, fit 1) }

pub overflow_cast-result-3 : goal.overflow_cast-result-3
overflow_cast-result-3 c =
    let fit : (k : ℕ) → let a = c.args in get_or c.fields-row.result k 0 < 2 ^ get_or (widths a.delay) k 0 = λ k. let a = c.args in fields_fit a.words (widths a.delay) a.at c.fields-row.result c.fields-row.ensures k in
    record { fits = omega (arith, fit 2) }

pub overflow_cast-result-4 : goal.overflow_cast-result-4
overflow_cast-result-4 c =
    let fit : (k : ℕ) → let a = c.args in get_or c.fields-row.result k 0 < 2 ^ get_or (widths a.delay) k 0 = λ k. let a = c.args in fields_fit a.words (widths a.delay) a.at c.fields-row.result c.fields-row.ensures k in
    let requires : (c.args.delay ≤ 12) × (c.args.at + (32 + c.args.delay) ≤ 744) = search rules in
    record { fits = omega (arith, fit 4, power_small _ requires.0) }
