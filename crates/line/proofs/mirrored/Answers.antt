-- `mirrored` meets its contract: six bits put one by one in the other order. Assumes nothing.
use Rattle.line.proofs.LineLaws.{mirrored-law, mirrored-lt}
use Rattle.line.proofs.mirrored.Goals as goal

pub returns : goal.returns
returns c =
    let x = c.args.x in
    (mirrored-law x, rw (mirrored-law x) (mirrored-lt x))
