-- `digits_in` meets its contract: one more than the order of magnitude. Assumes nothing.
use Rattle.printing.proofs.DigitLaws.{digits-counted}
use Rattle.printing.proofs.digits_in.Goals as goal

pub returns : goal.returns
returns c =
    let k = c.ilog10 in
    digits-counted c.args.n k.result c.max.result c.max.ensures k.ensures.power_le k.ensures.next_power_gt k.ensures.bound
