-- `put_start` meets its contract: the mark and N, word 1 and word 2, one after the other. Assumes nothing.
use mathlib.Core.Path.{refl}
use mathlib.Core.List.{[]}
use native.Mathlib.Omega.{arith}
use Rattle.journal.specs.Bytes.{written}
use Rattle.journal.proofs.TurnLaws.{store_start, store-record}
use Rattle.journal.proofs.form.Form.put_start.Goals as goal

pub returns : goal.returns
unfolding written
returns c =
    let a = c.args in
    store-record a.self.size a.buffer.now a.self.byte a.n a.first a.second []
    (store_start a.buffer.now a.self.byte a.n (omega arith) c.copy_from_slice.ensures.after) c.put_word.ensures c.put_word-2.ensures refl
