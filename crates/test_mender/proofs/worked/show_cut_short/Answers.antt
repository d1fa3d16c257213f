-- `show_cut_short` is safe: the array has so many bytes. Assumes nothing.
use Rattle.std.proofs.Common.{sym, arith, length-take-le}
use Rattle.test_mender.proofs.worked.show_cut_short.Goals as goal

pub slice_bounds-show-end-2 : goal.slice_bounds-show-end-2
slice_bounds-show-end-2 c = sym (length-take-le 44 c.kept-journal.result (omega arith))
