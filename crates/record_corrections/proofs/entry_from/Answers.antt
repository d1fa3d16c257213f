-- `entry_from` meets its contract: the fields by the table, each as the entry holds it. Assumes nothing.
use mathlib.Core.Path.{◌≡◌, ap, ap₂, ◌∙◌}
use mathlib.Core.List.{List}
use Prim.Native.Nat.{ℕ, ◌+◌, ◌*◌, ◌/◌, ◌%◌, ◌^◌, ◌<◌}
use native.Mathlib.Omega.{arith}
use lib.IntN.{ℤ}
use lib.ListN.{get_or}
use mir.Syntax.{w8, w16}
use borrow.Author.Rules.{rules}
use Rattle.bits.specs.Signed.{signed}
use Rattle.record_fields.specs.Satellites.{satellite_of}
use Rattle.record_fields.proofs.SatelliteLaws.{low-five}
use Rattle.record_fields.proofs.SignedCode.{signed-read}
use Rattle.record_fields.proofs.TableLaws.{fields_fit, row_read_lem}
use Rattle.frame.specs.declared.System.{System}
use Rattle.record_corrections.specs.declared.Issue.{Issue}
use Rattle.record_corrections.specs.Issues.{issue_of, issue_in}
use Rattle.record_corrections.specs.Corrections.{widths, meant}
use Rattle.record_corrections.proofs.entry_from.Goals as goal

held : (s : System) (vs : List ℕ) (n : ℕ) (p r : ℤ) (i : Issue)
    → n ≡ satellite_of (get_or vs 2 0) → p ≡ signed 15 (get_or vs 3 0) → r ≡ signed 7 (get_or vs 4 0) → i ≡ issue_of s (get_or vs 5 0) (get_or vs 6 0)
    → record { scale = get_or vs 0 0; udre = get_or vs 1 0; satellite = n; prc = p; rrc = r; issue = i } ≡ meant s vs
held s vs n p r i en ep er ei = rw (en, ep, er, ei)

-- a bit and seven more are the eight that they make
eight : (s : System) (a b : ℕ) → b < 128 → issue_in s (a * 128 + b) ≡ issue_of s a b
eight s a b h = ap₂ (issue_of s) first others
  where
    first : (a * 128 + b) / 128 ≡ a
    first = omega arith

    others : (a * 128 + b) % 128 ≡ b
    others = omega arith

pub returns : goal.returns
returns c =
    let fit : (k : ℕ) → get_or c.fields-row.result k 0 < 2 ^ get_or widths k 0 = λ k. let a = c.args in fields_fit a.words widths a.at c.fields-row.result c.fields-row.ensures k in
    let a = c.args in
    held a.system c.fields-row.result c.satellite_of.result _ _ c.issue_of-issue.result
    (c.satellite_of.ensures ∙ low-five _ (fit 2))
    (signed-read w16 c.signed16.result _ c.signed16.ensures (fit 3))
    (signed-read w8 c.signed8.result _ c.signed8.ensures (fit 4))
    (c.issue_of-issue.ensures ∙ eight a.system _ _ (fit 6))
    ∙ ap (meant a.system) (row_read_lem a.words widths a.at c.fields-row.result c.fields-row.ensures (search rules) (omega arith))

pub overflow_mul-row : goal.overflow_mul-row
overflow_mul-row c =
    let fit : (k : ℕ) → get_or c.fields-row.result k 0 < 2 ^ get_or widths k 0 = λ k. let a = c.args in fields_fit a.words widths a.at c.fields-row.result c.fields-row.ensures k in
    omega (arith, fit 5)

pub overflow_add-row : goal.overflow_add-row
overflow_add-row c =
    let fit : (k : ℕ) → get_or c.fields-row.result k 0 < 2 ^ get_or widths k 0 = λ k. let a = c.args in fields_fit a.words widths a.at c.fields-row.result c.fields-row.ensures k in
    omega (arith, fit 5, fit 6)

pub overflow_cast-row : goal.overflow_cast-row
overflow_cast-row c =
    let fit : (k : ℕ) → get_or c.fields-row.result k 0 < 2 ^ get_or widths k 0 = λ k. let a = c.args in fields_fit a.words widths a.at c.fields-row.result c.fields-row.ensures k in
    record { fits = omega (arith, fit 5, fit 6) }

pub overflow_cast-result : goal.overflow_cast-result
overflow_cast-result c =
    let fit : (k : ℕ) → get_or c.fields-row.result k 0 < 2 ^ get_or widths k 0 = λ k. let a = c.args in fields_fit a.words widths a.at c.fields-row.result c.fields-row.ensures k in
    record { fits = omega (arith, fit 0) }

pub overflow_cast-result-2 : goal.overflow_cast-result-2
overflow_cast-result-2 c =
    let fit : (k : ℕ) → get_or c.fields-row.result k 0 < 2 ^ get_or widths k 0 = λ k. let a = c.args in fields_fit a.words widths a.at c.fields-row.result c.fields-row.ensures k in
    record { fits = omega (arith, fit 1) }
