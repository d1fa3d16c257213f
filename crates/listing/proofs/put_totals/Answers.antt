-- `put_totals` meets its contract: the second last line, then the last. Assumes nothing.
use Rattle.std.proofs.Common.{sym, ◌∙◌, arith, length-append}
use Rattle.printing.proofs.StoreLaws.{stored-then}
use Rattle.listing.specs.Text.{odd_line, last_line}
use Rattle.listing.specs.Listing.{total_lines}
use Rattle.listing.proofs.put_totals.Goals as goal

pub returns : goal.returns
unfolding total_lines
returns c =
    let a = c.args in
    let l = a.listing in
    let t = l.reader.candidate.tally in
    let long = length-append (odd_line t.odd t.even) (last_line l.frames l.bytes l.passed) in
    record {
      value = (omega (arith, c.put_odd-next.ensures.value.0, c.put_last.ensures.value.0, long), omega (arith, c.put_odd-next.ensures.value.1, c.put_last.ensures.value.1));
      output_after = c.put_last.ensures.buffer_after
          ∙ sym (stored-then a.output.now (odd_line t.odd t.even) (last_line l.frames l.bytes l.passed) a.place _ _
          c.put_odd-next.ensures.value.0 c.put_odd-next.ensures.buffer_after);
    }
