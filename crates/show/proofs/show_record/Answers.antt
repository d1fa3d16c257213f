-- `show_record` is safe: no more is recalled than was read. Assumes nothing.
use Rattle.std.proofs.Common.{sym, arith, length-take-le}
use Rattle.show.proofs.show_record.Goals as goal

pub slice_bounds-recall_either-end : goal.slice_bounds-recall_either-end
slice_bounds-recall_either-end c =
    let r = c.read_record-n in
    sym (length-take-le r.result r.new.bytes (omega (arith, r.ensures)))
