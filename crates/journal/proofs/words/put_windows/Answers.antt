-- `put_windows` meets its contract: each word behind the last, after the bits that it carried on. Assumes nothing.
use mathlib.Core.Path.{◌≡◌, sym, ap, ◌∙◌}
use Prim.Native.Nat.{◌+◌, ◌*◌}
use native.Mathlib.Omega.{arith}
use lib.ListN.{drop_of_length-le}
use lib.Seq.{sets}
use Rattle.frame.proofs.FrameLaws.{below_at}
use Rattle.journal.specs.Bytes.{written}
use Rattle.journal.specs.Words.{windows_from}
use Rattle.journal.proofs.WindowLaws.{store-window}
use Rattle.journal.proofs.words.put_windows.Goals as goal

pub loop-i-init : goal.loop-i-init
loop-i-init c =
    let a = c.args in
    let here : a.at ≡ a.at + 4 * 0 = omega arith in (
      ap (λ j. sets a.buffer.now j (written 4 (windows_from a.carried a.words.now))) here,
      c.requires.carried_bound,
    )

pub window_of-requires-clause-data_bound : goal.window_of-requires-clause-data_bound
window_of-requires-clause-data_bound c = below_at c.loop-i.i c.args.words.now c.requires.below

pub pair_after-pair-requires-clause-data_bound : goal.pair_after-pair-requires-clause-data_bound
pair_after-pair-requires-clause-data_bound c = below_at c.loop-i.i c.args.words.now c.requires.below

pub loop-i-preserved : goal.loop-i-preserved
loop-i-preserved c =
    let l = c.loop-i in (
      l.invariant.0 ∙ store-window l.buffer c.args.words.now l.pair c.args.at l.i c.loop-i-test.true c.window_of.ensures c.put_word.ensures c.pair_after-pair.ensures,
      omega (arith, c.pair_after-pair.ensures),
    )

pub returns : goal.returns
unfolding written windows_from
returns c =
    let l = c.loop-i in
    let none = drop_of_length-le c.args.words.now {i = l.i} c.loop-i-test.false in
    sym (l.invariant.0 ∙ ap (λ r. sets l.buffer (c.args.at + 4 * l.i) (written 4 (windows_from l.pair r))) none)
