-- `entry_from` meets its contract: the fields by the table, each as the entry holds it. Assumes nothing.
use mathlib.Core.Path.{◌≡◌, ap, ◌∙◌}
use mathlib.Core.List.{List}
use Prim.Native.Nat.{ℕ, ◌^◌, ◌≤◌, ◌<◌}
use native.Mathlib.Omega.{arith}
use lib.Pow.{pow_mono}
use lib.ListN.{get_or}
use mir.Syntax.{w8}
use mir.Val.{Fits}
use borrow.Author.Rules.{rules}
use Rattle.record_fields.specs.Satellites.{satellite_of}
use Rattle.record_fields.proofs.SatelliteLaws.{low-five}
use Rattle.record_fields.proofs.TableLaws.{fields_fit, row_read_lem}
use Rattle.frame.specs.declared.System.{System}
use Rattle.record_healths.specs.declared.Condition.{Condition}
use Rattle.record_healths.specs.Conditions.{condition_of}
use Rattle.record_healths.specs.Healths.{widths, meant}
use Rattle.record_healths.proofs.entry_from.Goals as goal

held : (s : System) (vs : List ℕ) (n : ℕ) (h : Condition) → n ≡ satellite_of (get_or vs 1 0) → h ≡ condition_of s (get_or vs 3 0)
    → record {
      reserved = get_or vs 0 0;
      satellite = n;
      link = get_or vs 2 0;
      health = h;
      cn0 = get_or vs 4 0;
      enable = get_or vs 5 0;
      new_data = get_or vs 6 0;
      loss = get_or vs 7 0;
      time = get_or vs 8 0;
      spare = get_or vs 9 0;
    }
    ≡ meant s vs
held s vs n h en eh = rw (en, eh)

pub returns : goal.returns
returns c =
    let fit : (k : ℕ) → get_or c.fields-row.result k 0 < 2 ^ get_or widths k 0 = λ k. let a = c.args in fields_fit a.words widths a.at c.fields-row.result c.fields-row.ensures k in
    let a = c.args in
    held a.system c.fields-row.result c.satellite_of.result c.condition_of-health.result
    (c.satellite_of.ensures ∙ low-five _ (fit 1)) c.condition_of-health.ensures
    ∙ ap (meant a.system) (row_read_lem a.words widths a.at c.fields-row.result c.fields-row.ensures (search rules) (omega arith))

pub overflow_cast-row : goal.overflow_cast-row
overflow_cast-row c =
    let fit : (k : ℕ) → get_or c.fields-row.result k 0 < 2 ^ get_or widths k 0 = λ k. let a = c.args in fields_fit a.words widths a.at c.fields-row.result c.fields-row.ensures k in
    record { fits = omega (arith, fit 3) }

pub overflow_cast-result : goal.overflow_cast-result
overflow_cast-result c =
    let fit : (k : ℕ) → get_or c.fields-row.result k 0 < 2 ^ get_or widths k 0 = λ k. let a = c.args in fields_fit a.words widths a.at c.fields-row.result c.fields-row.ensures k in
    record { fits = omega (arith, fit 0) }

pub overflow_cast-result-2 : goal.overflow_cast-result-2
overflow_cast-result-2 c =
    let fit : (k : ℕ) → get_or c.fields-row.result k 0 < 2 ^ get_or widths k 0 = λ k. let a = c.args in fields_fit a.words widths a.at c.fields-row.result c.fields-row.ensures k in
    let cast : (k : ℕ) → get_or widths k 0 ≤ 8 → Fits w8 (get_or c.fields-row.result k 0) = λ k l. record { fits = omega (arith, fit k, pow_mono {i = get_or widths k 0} {j = 8} l) } in
    cast 2 (omega arith)

pub overflow_cast-result-3 : goal.overflow_cast-result-3
overflow_cast-result-3 c =
    let fit : (k : ℕ) → get_or c.fields-row.result k 0 < 2 ^ get_or widths k 0 = λ k. let a = c.args in fields_fit a.words widths a.at c.fields-row.result c.fields-row.ensures k in
    let cast : (k : ℕ) → get_or widths k 0 ≤ 8 → Fits w8 (get_or c.fields-row.result k 0) = λ k l. record { fits = omega (arith, fit k, pow_mono {i = get_or widths k 0} {j = 8} l) } in
    cast 4 (omega arith)

pub overflow_cast-result-4 : goal.overflow_cast-result-4
overflow_cast-result-4 c =
    let fit : (k : ℕ) → get_or c.fields-row.result k 0 < 2 ^ get_or widths k 0 = λ k. let a = c.args in fields_fit a.words widths a.at c.fields-row.result c.fields-row.ensures k in
    let cast : (k : ℕ) → get_or widths k 0 ≤ 8 → Fits w8 (get_or c.fields-row.result k 0) = λ k l. record { fits = omega (arith, fit k, pow_mono {i = get_or widths k 0} {j = 8} l) } in
    cast 5 (omega arith)

pub overflow_cast-result-5 : goal.overflow_cast-result-5
overflow_cast-result-5 c =
    let fit : (k : ℕ) → get_or c.fields-row.result k 0 < 2 ^ get_or widths k 0 = λ k. let a = c.args in fields_fit a.words widths a.at c.fields-row.result c.fields-row.ensures k in
    let cast : (k : ℕ) → get_or widths k 0 ≤ 8 → Fits w8 (get_or c.fields-row.result k 0) = λ k l. record { fits = omega (arith, fit k, pow_mono {i = get_or widths k 0} {j = 8} l) } in
    cast 6 (omega arith)

pub overflow_cast-result-6 : goal.overflow_cast-result-6
overflow_cast-result-6 c =
    let fit : (k : ℕ) → get_or c.fields-row.result k 0 < 2 ^ get_or widths k 0 = λ k. let a = c.args in fields_fit a.words widths a.at c.fields-row.result c.fields-row.ensures k in
    let cast : (k : ℕ) → get_or widths k 0 ≤ 8 → Fits w8 (get_or c.fields-row.result k 0) = λ k l. record { fits = omega (arith, fit k, pow_mono {i = get_or widths k 0} {j = 8} l) } in
    cast 7 (omega arith)

pub overflow_cast-result-7 : goal.overflow_cast-result-7
overflow_cast-result-7 c =
    let fit : (k : ℕ) → get_or c.fields-row.result k 0 < 2 ^ get_or widths k 0 = λ k. let a = c.args in fields_fit a.words widths a.at c.fields-row.result c.fields-row.ensures k in
    let cast : (k : ℕ) → get_or widths k 0 ≤ 8 → Fits w8 (get_or c.fields-row.result k 0) = λ k l. record { fits = omega (arith, fit k, pow_mono {i = get_or widths k 0} {j = 8} l) } in
    cast 8 (omega arith)

pub overflow_cast-result-8 : goal.overflow_cast-result-8
overflow_cast-result-8 c =
    let fit : (k : ℕ) → get_or c.fields-row.result k 0 < 2 ^ get_or widths k 0 = λ k. let a = c.args in fields_fit a.words widths a.at c.fields-row.result c.fields-row.ensures k in
    let cast : (k : ℕ) → get_or widths k 0 ≤ 8 → Fits w8 (get_or c.fields-row.result k 0) = λ k l. record { fits = omega (arith, fit k, pow_mono {i = get_or widths k 0} {j = 8} l) } in
    cast 9 (omega arith)
