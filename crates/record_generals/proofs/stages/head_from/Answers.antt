-- `head_from` meets its contract: the fields by the table. Assumes nothing.
use mathlib.Core.Path.{ap}
use Prim.Native.Nat.{ℕ, ◌^◌, ◌<◌}
use native.Mathlib.Omega.{arith}
use lib.ListN.{get_or}
use borrow.Author.Rules.{rules}
use Rattle.record_fields.proofs.TableLaws.{fields_fit, row_read_lem}
use Rattle.record_generals.specs.Generals.{head_widths, head_meant}
use Rattle.record_generals.proofs.stages.head_from.Goals as goal

pub returns : goal.returns
returns c =
    let a = c.args in
    ap head_meant (row_read_lem a.words head_widths 0 c.fields-row.result c.fields-row.ensures (search rules) (omega arith))

pub overflow_cast-result : goal.overflow_cast-result
overflow_cast-result c =
    let fit : (k : ℕ) → get_or c.fields-row.result k 0 < 2 ^ get_or head_widths k 0 = λ k. let a = c.args in fields_fit a.words head_widths 0 c.fields-row.result c.fields-row.ensures k in
    record { fits = omega (arith, fit 0) }

pub overflow_cast-result-2 : goal.overflow_cast-result-2
overflow_cast-result-2 c =
    let fit : (k : ℕ) → get_or c.fields-row.result k 0 < 2 ^ get_or head_widths k 0 = λ k. let a = c.args in fields_fit a.words head_widths 0 c.fields-row.result c.fields-row.ensures k in
    record { fits = omega (arith, fit 1) }

pub overflow_cast-result-3 : goal.overflow_cast-result-3
overflow_cast-result-3 c =
    let fit : (k : ℕ) → get_or c.fields-row.result k 0 < 2 ^ get_or head_widths k 0 = λ k. let a = c.args in fields_fit a.words head_widths 0 c.fields-row.result c.fields-row.ensures k in
    record { fits = omega (arith, fit 2) }

pub overflow_cast-result-4 : goal.overflow_cast-result-4
overflow_cast-result-4 c =
    let fit : (k : ℕ) → get_or c.fields-row.result k 0 < 2 ^ get_or head_widths k 0 = λ k. let a = c.args in fields_fit a.words head_widths 0 c.fields-row.result c.fields-row.ensures k in
    record { fits = omega (arith, fit 3) }

pub overflow_cast-result-5 : goal.overflow_cast-result-5
overflow_cast-result-5 c =
    let fit : (k : ℕ) → get_or c.fields-row.result k 0 < 2 ^ get_or head_widths k 0 = λ k. let a = c.args in fields_fit a.words head_widths 0 c.fields-row.result c.fields-row.ensures k in
    record { fits = omega (arith, fit 4) }
