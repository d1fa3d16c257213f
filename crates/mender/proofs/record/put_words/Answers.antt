-- `put_words` meets its contract: by a loop that stores a word after mending where the last one ended. Assumes nothing.
use Rattle.std.proofs.Common.{◌≡◌, ◌+◌, ◌-◌, ◌*◌, length, take, drop, sym, ap, ◌∙◌, arith}
use lib.Seq.{sets, length-sets}
use Rattle.journal.specs.Bytes.{bytes_of, word_in}
use Rattle.mender_words.specs.Words.{mended_to}
use Rattle.mender.proofs.RecordLaws.{mended_words, store-mended, store-none}
use Rattle.mender.proofs.record.put_words.Goals as goal

pub loop-i-preserved : goal.loop-i-preserved
loop-i-preserved c =
    let a = c.args in
    let i = c.loop-i.i in
    let at = 3 + 4 * i in
    let word : c.mended.result ≡ mended_to (word_in (take 4 (drop at a.bytes.now))) =
    c.mended.ensures ∙ ap mended_to c.window_at-window.ensures in
    let e = c.put_window.ensures ∙ ap (λ x. sets c.loop-i.copy at (bytes_of 4 x)) word in (
      c.loop-i.invariant.0 ∙ store-mended c.loop-i.copy a.bytes.now i a.count (omega arith)
          ∙ ap (λ b. sets b (3 + 4 * (i + 1)) (mended_words (a.count - (i + 1)) (drop (3 + 4 * (i + 1)) a.bytes.now))) (sym e),
      ap length e ∙ length-sets c.loop-i.copy at (bytes_of 4 (mended_to (word_in (take 4 (drop at a.bytes.now))))) ∙ c.loop-i.invariant.1,
    )

pub returns : goal.returns
returns c =
    let a = c.args in
    let at = 3 + 4 * c.loop-i.i in
    let none : a.count - c.loop-i.i ≡ 0 = omega arith in
    sym (c.loop-i.invariant.0 ∙ ap (λ k. sets c.loop-i.copy at (mended_words k (drop at a.bytes.now))) none
    ∙ store-none c.loop-i.copy at (drop at a.bytes.now))
