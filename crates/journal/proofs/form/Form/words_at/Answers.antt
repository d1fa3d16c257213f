-- `words_at` meets its contract: by a loop that reads each word into its place. Assumes nothing.
use mathlib.Core.Path.{◌≡◌, refl}
use Prim.Native.Nat.{◌+◌, ◌*◌}
use native.Mathlib.Omega.{arith}
use lib.ListN.{length, drop}
use Rattle.journal.specs.Bytes.{words_from}
use Rattle.journal.proofs.TurnLaws.{read_turn, read_all}
use Rattle.journal.proofs.form.Form.words_at.Goals as goal

pub loop-i-init : goal.loop-i-init
unfolding words_from
loop-i-init c = refl

pub loop-i-preserved : goal.loop-i-preserved
loop-i-preserved c =
    let a = c.args in
    read_turn a.self.size (3 + 2 * a.self.size) c.loop-i.i a.bytes.now a.words.now c.loop-i.words c.loop-i-test.true c.loop-i.invariant c.word_at.ensures

pub returns : goal.returns
returns c =
    let a = c.args in
    let all : c.loop-i.i ≡ length a.words.now = omega arith in
    read_all a.self.size c.loop-i.i (drop (3 + 2 * a.self.size) a.bytes.now) a.words.now c.loop-i.words all c.loop-i.invariant
