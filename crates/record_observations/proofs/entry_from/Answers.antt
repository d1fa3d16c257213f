-- `entry_from` meets its contract: the fields by the table of the type, each as the satellite holds it. Assumes nothing.
use mathlib.Core.Path.{◌≡◌, ap, ◌∙◌}
use mathlib.Core.List.{List}
use Prim.Native.Nat.{ℕ, ◌+◌, ◌^◌, ◌≤◌, ◌<◌}
use native.Mathlib.Omega.{arith}
use lib.ListN.{get_or}
use borrow.Author.Rules.{rules}
use Rattle.record_fields.specs.Satellites.{satellite_of}
use Rattle.record_fields.specs.Tables.{row, fields_in}
use Rattle.record_fields.proofs.SatelliteLaws.{low-five}
use Rattle.record_fields.proofs.TableLaws.{fields_fit, row_read_lem}
use Rattle.record_observations.specs.declared.Edition.{Edition}
use Rattle.record_observations.specs.declared.Quantity.{Quantity}
use Rattle.record_observations.specs.declared.Mark.{Mark}
use Rattle.record_observations.specs.declared.Measured.{Measured}
use Rattle.record_observations.specs.Editions.{mark_of, measured_of}
use Rattle.record_observations.specs.Observations.{widths, meant}
use Rattle.record_observations.proofs.LayoutLaws.{narrow, span-48, quality-byte, beside-byte}
use Rattle.record_observations.proofs.entry_from.Goals as goal

held : (e : Edition) (q : Quantity) (vs : List ℕ) (m : Mark) (n : ℕ) (x : Measured)
    → m ≡ mark_of e q (get_or vs 0 0) → n ≡ satellite_of (get_or vs 3 0) → x ≡ measured_of q (get_or vs 5 0) (get_or vs 6 0)
    → record { mark = m; code = get_or vs 1 0; system = get_or vs 2 0; satellite = n; quality = get_or vs 4 0; measured = x } ≡ meant e q vs
held e q vs m n x em en ex = rw (em, en, ex)

pub returns : goal.returns
returns c =
    let by-widths : let a = c.args in c.fields-row.result ≡ row (fields_in a.words (widths a.quantity) a.at) = let a = c.args in
    c.fields-row.ensures ∙ ap (λ w. row (fields_in a.words w a.at)) c.widths_of-widths.ensures in
    let fit : (k : ℕ) → let a = c.args in get_or c.fields-row.result k 0 < 2 ^ get_or (widths a.quantity) k 0 = λ k. let a = c.args in fields_fit a.words (widths a.quantity) a.at c.fields-row.result by-widths k in
    let requires : c.args.at + 48 ≤ 744 = search rules in
    let a = c.args in
    held a.edition a.quantity c.fields-row.result c.mark_of-mark.result c.satellite_of.result c.measured_of-measured.result
    c.mark_of-mark.ensures (c.satellite_of.ensures ∙ low-five _ (fit 3)) c.measured_of-measured.ensures
    ∙ ap (meant a.edition a.quantity)
    (row_read_lem a.words (widths a.quantity) a.at c.fields-row.result by-widths (narrow a.quantity)
    (omega (arith, span-48 a.quantity, requires)))

pub overflow_cast-row : goal.overflow_cast-row
overflow_cast-row c =
    let by-widths : let a = c.args in c.fields-row.result ≡ row (fields_in a.words (widths a.quantity) a.at) = let a = c.args in
    c.fields-row.ensures ∙ ap (λ w. row (fields_in a.words w a.at)) c.widths_of-widths.ensures in
    let fit : (k : ℕ) → let a = c.args in get_or c.fields-row.result k 0 < 2 ^ get_or (widths a.quantity) k 0 = λ k. let a = c.args in fields_fit a.words (widths a.quantity) a.at c.fields-row.result by-widths k in
    record { fits = omega (arith, fit 0) }

pub overflow_cast-row-2 : goal.overflow_cast-row-2
overflow_cast-row-2 c =
    let by-widths : let a = c.args in c.fields-row.result ≡ row (fields_in a.words (widths a.quantity) a.at) = let a = c.args in
    c.fields-row.ensures ∙ ap (λ w. row (fields_in a.words w a.at)) c.widths_of-widths.ensures in
    let fit : (k : ℕ) → let a = c.args in get_or c.fields-row.result k 0 < 2 ^ get_or (widths a.quantity) k 0 = λ k. let a = c.args in fields_fit a.words (widths a.quantity) a.at c.fields-row.result by-widths k in
    record { fits = omega (arith, fit 5, beside-byte c.args.quantity) }

pub overflow_cast-result : goal.overflow_cast-result
overflow_cast-result c =
    let by-widths : let a = c.args in c.fields-row.result ≡ row (fields_in a.words (widths a.quantity) a.at) = let a = c.args in
    c.fields-row.ensures ∙ ap (λ w. row (fields_in a.words w a.at)) c.widths_of-widths.ensures in
    let fit : (k : ℕ) → let a = c.args in get_or c.fields-row.result k 0 < 2 ^ get_or (widths a.quantity) k 0 = λ k. let a = c.args in fields_fit a.words (widths a.quantity) a.at c.fields-row.result by-widths k in
    record { fits = omega (arith, fit 1) }

pub overflow_cast-result-2 : goal.overflow_cast-result-2
overflow_cast-result-2 c =
    let by-widths : let a = c.args in c.fields-row.result ≡ row (fields_in a.words (widths a.quantity) a.at) = let a = c.args in
    c.fields-row.ensures ∙ ap (λ w. row (fields_in a.words w a.at)) c.widths_of-widths.ensures in
    let fit : (k : ℕ) → let a = c.args in get_or c.fields-row.result k 0 < 2 ^ get_or (widths a.quantity) k 0 = λ k. let a = c.args in fields_fit a.words (widths a.quantity) a.at c.fields-row.result by-widths k in
    record { fits = omega (arith, fit 2) }

pub overflow_cast-result-3 : goal.overflow_cast-result-3
overflow_cast-result-3 c =
    let by-widths : let a = c.args in c.fields-row.result ≡ row (fields_in a.words (widths a.quantity) a.at) = let a = c.args in
    c.fields-row.ensures ∙ ap (λ w. row (fields_in a.words w a.at)) c.widths_of-widths.ensures in
    let fit : (k : ℕ) → let a = c.args in get_or c.fields-row.result k 0 < 2 ^ get_or (widths a.quantity) k 0 = λ k. let a = c.args in fields_fit a.words (widths a.quantity) a.at c.fields-row.result by-widths k in
    record { fits = omega (arith, fit 4, quality-byte c.args.quantity) }
