-- `add_bytes` meets its contract: by a loop, a record a turn, until the bytes end or one is refused. Assumes nothing.
use mathlib.Core.Path.{◌≡◌, sym, ap, ◌∙◌}
use mathlib.Core.List.{map}
use Prim.Native.Nat.{◌+◌, ◌≤◌}
use native.Mathlib.Omega.{arith}
use lib.ListN.{length, drop}
use Rattle.journal.specs.declared.Found.TheVariants as found
use Rattle.journal.specs.Words.{recalled_either}
use Rattle.season_reports.specs.Season.{entry_row}
use Rattle.season_reports.specs.Journals.{entries_read}
use Rattle.season_reports.proofs.BytesLaws.{tail_all, read-start, size-some, size-inside, read-on}
use Rattle.season_reports.proofs.BytesLaws.{read-end, read-used, read-each, contents-past}
use Rattle.season_reports.proofs.JournalLaws.{contents-refused}
use Rattle.season_reports.proofs.reading.add_bytes.Goals as goal

pub loop-used-init : goal.loop-used-init
loop-used-init c = read-start c.args.table c.args.bytes.now c.requires

pub gather-sum-requires : goal.gather-sum-requires
gather-sum-requires c =
    record { sound_table = c.loop-used.invariant.sound; count_bound = (c.frame_rows-batch.ensures.count_bound.0, c.frame_rows-batch.ensures.each) }

pub loop-used-preserved : goal.loop-used-preserved
loop-used-preserved c =
    let recalled-is : c.recall_either-recalled.result ≡ recalled_either (drop c.loop-used.used c.args.bytes.now) = c.recall_either-recalled.ensures ∙ ap recalled_either (tail_all c.loop-used.used c.args.bytes.now) in
    let found-is : (recalled_either (drop c.loop-used.used c.args.bytes.now)).answer ≡ found.Record c.in-Record.size = sym (ap (λ r. r.answer) recalled-is) ∙ c.in-Record.is in
    let is = c.frame_rows-batch.ensures.count_bound.1 ∙ ap (λ x. map entry_row (entries_read x.frame)) recalled-is in
    read-on c.args.table c.args.bytes.now c.loop-used.sum c.loop-used.used c.loop-used.invariant c.in-Record.size found-is
    _ c.gather-sum.result is c.frame_rows-batch.ensures.each c.gather-sum.ensures

pub returns-in-Refused : goal.returns-in-Refused
returns-in-Refused c =
    let recalled-is : c.recall_either-recalled.result ≡ recalled_either (drop c.loop-used.used c.args.bytes.now) = c.recall_either-recalled.ensures ∙ ap recalled_either (tail_all c.loop-used.used c.args.bytes.now) in
    let none = contents-refused (drop c.loop-used.used c.args.bytes.now) _ (sym (ap (λ x. x.answer) recalled-is) ∙ c.in-Refused.is) in
    record {
      table_value = (
        read-end c.args.table c.args.bytes.now c.loop-used.sum c.loop-used.used c.loop-used.invariant none,
        read-used c.args.table c.args.bytes.now c.loop-used.sum c.loop-used.used c.loop-used.invariant none,
      );
      each = read-each c.args.table c.args.bytes.now c.loop-used.sum c.loop-used.used c.loop-used.invariant none;
    }

pub returns : goal.returns
returns c =
    let none = contents-past c.args.bytes.now c.loop-used.used c.loop-used-test.false in
    record {
      table_value = (
        read-end c.args.table c.args.bytes.now c.loop-used.sum c.loop-used.used c.loop-used.invariant none,
        read-used c.args.table c.args.bytes.now c.loop-used.sum c.loop-used.used c.loop-used.invariant none,
      );
      each = read-each c.args.table c.args.bytes.now c.loop-used.sum c.loop-used.used c.loop-used.invariant none;
    }

pub slice_bounds-recall_either-count : goal.slice_bounds-recall_either-count
slice_bounds-recall_either-count c = c.loop-used.invariant.inside

pub overflow_add-used : goal.overflow_add-used
overflow_add-used c =
    let recalled-is : c.recall_either-recalled.result ≡ recalled_either (drop c.loop-used.used c.args.bytes.now) = c.recall_either-recalled.ensures ∙ ap recalled_either (tail_all c.loop-used.used c.args.bytes.now) in
    let found-is : (recalled_either (drop c.loop-used.used c.args.bytes.now)).answer ≡ found.Record c.in-Record.size = sym (ap (λ r. r.answer) recalled-is) ∙ c.in-Record.is in
    let fits : let size = c.in-Record.size in (1 ≤ size) × (c.loop-used.used + size ≤ length c.args.bytes.now) = (
      size-some c.args.table c.args.bytes.now c.loop-used.sum c.loop-used.used c.loop-used.invariant c.in-Record.size found-is,
      size-inside c.args.table c.args.bytes.now c.loop-used.sum c.loop-used.used c.loop-used.invariant c.in-Record.size found-is,
    ) in
    omega (arith, fits)

pub loop-used-smaller : goal.loop-used-smaller
loop-used-smaller c =
    let recalled-is : c.recall_either-recalled.result ≡ recalled_either (drop c.loop-used.used c.args.bytes.now) = c.recall_either-recalled.ensures ∙ ap recalled_either (tail_all c.loop-used.used c.args.bytes.now) in
    let found-is : (recalled_either (drop c.loop-used.used c.args.bytes.now)).answer ≡ found.Record c.in-Record.size = sym (ap (λ r. r.answer) recalled-is) ∙ c.in-Record.is in
    let fits : let size = c.in-Record.size in (1 ≤ size) × (c.loop-used.used + size ≤ length c.args.bytes.now) = (
      size-some c.args.table c.args.bytes.now c.loop-used.sum c.loop-used.used c.loop-used.invariant c.in-Record.size found-is,
      size-inside c.args.table c.args.bytes.now c.loop-used.sum c.loop-used.used c.loop-used.invariant c.in-Record.size found-is,
    ) in
    omega (arith, fits)
