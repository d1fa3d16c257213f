-- `flush` meets its contract. Assumes nothing.
use native.Mathlib.Omega.{arith}
use Rattle.record_fields.proofs.PackCode.{flush-short, flush-full, flush-one}
use Rattle.record_fields.proofs.flush.Goals as goal
use Rattle.record_fields.proofs.flush.Goals.{then-packer-lt24-via-then-packer-lt24, then-packer-lt24-via-else-packer-lt24+then-at-ge31}

pub returns-then-packer-lt24 : goal.returns-then-packer-lt24
returns-then-packer-lt24 c =
    elim c.then-packer-lt24.branch [
      | then-packer-lt24-via-then-packer-lt24 w ↦ flush-short c.args.packer (omega arith)
      | then-packer-lt24-via-else-packer-lt24+then-at-ge31 w ↦ flush-full c.args.packer (omega arith) (omega arith)
    ]

pub returns : goal.returns
returns c =
    flush-one c.args.packer c.pow.result c.pow-2.result (omega arith) (omega arith)
    c.pow.ensures.0 c.pow-2.ensures.0
