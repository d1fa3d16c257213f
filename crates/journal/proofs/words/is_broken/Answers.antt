-- `is_broken` meets its contract: by a loop over the kept words, each after the bits that the last carried on. Assumes nothing.
use mathlib.Core.Path.{◌≡◌, sym, ap, ◌∙◌}
use mathlib.Core.List.{◌∷◌}
use Prim.Native.Nat.{◌+◌, ◌-◌, ◌*◌}
use native.Mathlib.Omega.{arith}
use lib.ListN.{drop}
use Rattle.word.proofs.Testing.{tested-passed, tested-failed}
use Rattle.journal.specs.Bytes.{words_from}
use Rattle.journal.specs.Words.{broken_after}
use Rattle.journal.proofs.WindowLaws.{left-first, pair-differs, word-fails, word_sound}
use Rattle.journal.proofs.words.is_broken.Goals as goal

pub returns-then-window-pair : goal.returns-then-window-pair
returns-then-window-pair c =
    let a = c.args in
    let next = left-first a.count c.loop-i.i a.bytes.now (omega arith)
    ∙ ap (λ w. w ∷ words_from 4 (a.count - (c.loop-i.i + 1)) (drop (3 + 4 * (c.loop-i.i + 1)) a.bytes.now)) (sym c.word-window.ensures) in
    sym (c.loop-i.invariant ∙ ap (broken_after c.loop-i.pair) next ∙ pair-differs _ _ _ c.if-window-pair.true)

pub returns-in_default : goal.returns-in_default
returns-in_default c =
    let a = c.args in
    let next = left-first a.count c.loop-i.i a.bytes.now (omega arith)
    ∙ ap (λ w. w ∷ words_from 4 (a.count - (c.loop-i.i + 1)) (drop (3 + 4 * (c.loop-i.i + 1)) a.bytes.now)) (sym c.word-window.ensures) in
    sym (c.loop-i.invariant ∙ ap (broken_after c.loop-i.pair) next
    ∙ word-fails _ _ _ c.if-window-pair.false (tested-failed _ _ (sym c.test.ensures ∙ c.in_default.is)).fails)

pub loop-i-preserved : goal.loop-i-preserved
loop-i-preserved c =
    let a = c.args in
    let next = left-first a.count c.loop-i.i a.bytes.now (omega arith)
    ∙ ap (λ w. w ∷ words_from 4 (a.count - (c.loop-i.i + 1)) (drop (3 + 4 * (c.loop-i.i + 1)) a.bytes.now)) (sym c.word-window.ensures) in
    c.loop-i.invariant ∙ ap (broken_after c.loop-i.pair) next
    ∙ word_sound _ _ _ c.if-window-pair.false (tested-passed _ (sym c.test.ensures ∙ c.in-Ok.is))

pub returns : goal.returns
unfolding words_from broken_after
returns c =
    let a = c.args in
    let none : a.count - c.loop-i.i ≡ 0 = omega arith in
    sym (c.loop-i.invariant ∙ ap (λ j. broken_after c.loop-i.pair (words_from 4 j (drop (3 + 4 * c.loop-i.i) a.bytes.now))) none)
