-- `no_rows` meets its contract. Assumes nothing.
use mathlib.Core.Path.{ap}
use mathlib.Core.Bool.{false}
use Rattle.record_fields.specs.Tables.{no_rows}
use Rattle.record_fields.proofs.no_rows.Goals as goal

pub returns : goal.returns
unfolding no_rows
returns c = ap (λ p. record { packer = p; out = false }) c.empty.ensures
