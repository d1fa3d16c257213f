-- `put` meets its contract: the start, then the data words one after the other. Assumes nothing.
use mathlib.Core.Path.{◌≡◌, sym, ap, ◌∙◌}
use Prim.Native.Nat.{◌+◌, ◌*◌}
use native.Mathlib.Omega.{arith}
use lib.ListN.{length, drop_of_length-le}
use lib.Seq.{sets}
use Rattle.journal.specs.Bytes.{written}
use Rattle.journal.proofs.TurnLaws.{store_turn, store-behind}
use Rattle.journal.proofs.form.Form.put.Goals as goal

pub loop-i-init : goal.loop-i-init
loop-i-init c =
    let k = c.args.self.size in
    let here : 3 + 2 * k ≡ 3 + 2 * k + k * 0 = omega arith in
    ap (λ j. sets c.put_start.new.buffer j (written k c.args.words.now)) here

pub loop-i-preserved : goal.loop-i-preserved
loop-i-preserved c =
    let k = c.args.self.size in
    c.loop-i.invariant ∙ store_turn k c.loop-i.buffer c.args.words.now (3 + 2 * k) c.loop-i.i c.loop-i-test.true c.put_word.ensures

pub returns : goal.returns
unfolding written
returns c =
    let a = c.args in
    let k = a.self.size in
    let none = drop_of_length-le a.words.now {i = c.loop-i.i} c.loop-i-test.false in
    let last = sym (c.loop-i.invariant ∙ ap (λ r. sets c.loop-i.buffer (3 + 2 * k + k * c.loop-i.i) (written k r)) none) in
    store-behind k a.buffer.now a.self.byte (length a.words.now) a.first a.second a.words.now c.put_start.ensures last
