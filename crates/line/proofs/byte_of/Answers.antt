-- `byte_of` meets its contract: the six bits mirrored, with top bits 01. Assumes nothing.
use mathlib.Core.Path.{ap}
use Prim.Native.Nat.{◌+◌}
use Rattle.line.specs.Line.{byte_of}
use Rattle.line.proofs.byte_of.Goals as goal

pub returns : goal.returns
unfolding byte_of
returns c = ap (λ n. 64 + n) c.mirrored.ensures.0
