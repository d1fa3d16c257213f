-- `pow` meets its contract. Assumes nothing.
use lib.Pow.{pow_pos}
use Rattle.record_fields.proofs.PackCode.{shifted_one}
use Rattle.record_fields.proofs.number.pow.Goals as goal

pub returns : goal.returns
returns c = let e = shifted_one c.args.k c.requires in (e, rw e (pow_pos c.args.k))
