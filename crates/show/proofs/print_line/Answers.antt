-- `print_line` is safe: no more is printed than was written. Assumes nothing.
use Rattle.std.proofs.Common.{sym, length-take-le, rules}
use Rattle.show.proofs.print_line.Goals as goal

pub slice_bounds-write_all-end : goal.slice_bounds-write_all-end
slice_bounds-write_all-end c = sym (length-take-le _ _ (search rules))
