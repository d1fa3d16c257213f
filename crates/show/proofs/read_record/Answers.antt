-- `read_record` is safe: the bytes lent have room for every record. Assumes nothing.
use Rattle.std.proofs.Common.{sym, arith, length-take-le}
use Rattle.show.proofs.read_record.Goals as goal

pub slice_bounds-read_full-end-2 : goal.slice_bounds-read_full-end-2
slice_bounds-read_full-end-2 c = sym (length-take-le 3 c.args.bytes.now (omega (arith, c.requires)))
