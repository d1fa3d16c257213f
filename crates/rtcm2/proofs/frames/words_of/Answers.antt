-- `words_of` meets its contract: by a loop that fills the array word by word. Assumes nothing.
use mathlib.Core.Path.{◌≡◌, refl, ap, ap₂, ◌∙◌}
use mathlib.Core.List.{◌++◌}
use Prim.Native.Nat.{◌-◌}
use native.Mathlib.Omega.{arith}
use lib.ListN.{set, replicate}
use Rattle.journal.specs.Bytes.{words_from}
use Rattle.journal.proofs.TurnLaws.{word-filled}
use Rattle.rtcm2.proofs.frames.words_of.Goals as goal

pub loop-i-init : goal.loop-i-init
unfolding words_from
loop-i-init c = (refl, omega arith)

pub loop-i-preserved : goal.loop-i-preserved
loop-i-preserved c =
    let bytes = c.args.bytes.now in
    (ap₂ (λ ws w. set ws c.loop-i.i w) c.loop-i.invariant.0 c.word_at.ensures ∙ word-filled 3 31 c.loop-i.i bytes (omega arith), omega arith)

pub returns : goal.returns
returns c =
    let a = c.args in
    let all : c.loop-i.i ≡ a.n = omega arith in
    c.loop-i.invariant.0 ∙ ap (λ j. words_from 3 j a.bytes.now ++ replicate (31 - j) 0) all

pub overflow_mul-i : goal.overflow_mul-i
overflow_mul-i c = omega arith

pub word_at-requires : goal.word_at-requires
word_at-requires c = omega arith

pub offset_bounds-words-i : goal.offset_bounds-words-i
offset_bounds-words-i c = omega arith

pub bounds-words-i : goal.bounds-words-i
bounds-words-i c = omega arith
