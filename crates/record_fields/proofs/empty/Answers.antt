-- `empty` meets its contract. Assumes nothing.
use mathlib.Core.Path.{refl}
use Rattle.record_fields.specs.Packing.{empty_packer}
use Rattle.record_fields.proofs.empty.Goals as goal

pub returns : goal.returns
unfolding empty_packer
returns c = refl
