-- `character` meets its contract: eight bits of one word. Assumes nothing.
use native.Mathlib.Nat.{mod-lt}
use native.Mathlib.Omega.{arith}
use Rattle.record_texts.proofs.TextCode.{third}
use Rattle.record_texts.proofs.character.Goals as goal

pub returns : goal.returns
returns c = (third c.args.words.now c.args.i c.told-words c.requires, mod-lt _ (omega arith))
