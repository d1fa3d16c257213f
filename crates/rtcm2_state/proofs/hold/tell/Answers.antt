-- `tell` meets its contract: no word ends, one of the first two, one that had come before, or it is told by the word and by N. Assumes nothing.
use mathlib.Core.Path.{◌≡◌, refl, sym, ap, ◌∙◌}
use mathlib.Core.Bool.{Bool, true, false}
use mathlib.Core.List.{List}
use Prim.Native.Nat.{ℕ, ◌+◌, ◌-◌, ◌*◌, ◌≤◌, ◌<◌}
use native.Mathlib.Omega.{arith}
use lib.ListN.{length, drop}
use borrow.Author.Tests.{le-leb, lt-leb}
use Rattle.bits.specs.Bits.{bits}
use Rattle.frame.specs.Header.{n_of}
use Rattle.frame.proofs.HeaderLaws.{n-lt}
use Rattle.word.specs.Word.{passes, data_of}
use Rattle.stream.specs.Standing.{word_at, n_at, size}
use Rattle.reader.specs.Cells.{put_cells}
use Rattle.reader.proofs.Leaves.{bits-data}
use Rattle.reader.proofs.Pushing.{length-puts}
use Rattle.reader.proofs.Steps.{seen, word-is, n-is}
use Rattle.rtcm2_state.specs.Numbers.{numbers_in}
use Rattle.rtcm2_state.specs.State.{start_size}
use Rattle.rtcm2_state.specs.Holding.{held_after}
use Rattle.rtcm2_state.proofs.NumberLaws.{length-numbers}
use Rattle.rtcm2_state.proofs.Telling.{tells-still, untold-first, untold-old, tells-by}
use Rattle.rtcm2_state.proofs.hold.tell.Goals as goal

pub returns-then-c-words : goal.returns-then-c-words
returns-then-c-words c =
    let cells_of : List ℕ = numbers_in 40 (drop start_size c.args.bytes.now) in
    tells-still cells_of c.args.c c.args.six c.if-c-words.true

pub returns-then-words-lt2 : goal.returns-then-words-lt2
returns-then-words-lt2 c =
    let cells_of : List ℕ = numbers_in 40 (drop start_size c.args.bytes.now) in
    untold-first cells_of c.args.c c.args.six c.if-c-words.false c.if-words-lt2.true

pub returns-then-words-c : goal.returns-then-words-c
returns-then-words-c c =
    let cells_of : List ℕ = numbers_in 40 (drop start_size c.args.bytes.now) in
    untold-old cells_of c.args.c c.args.six c.if-c-words.false c.if-words-lt2.false c.if-words-c.true

pub window_after-requires : goal.window_after-requires
window_after-requires c =
    let come : 32 + 30 * c.args.c.words ≤ c.args.c.held + 6 = c.if-c-words.false in
    (c.requires.0, omega (arith, come, c.requires.2), c.requires.1, c.requires.4)

pub returns-then-not-passes : goal.returns-then-not-passes
returns-then-not-passes c =
    let cells_of : List ℕ = numbers_in 40 (drop start_size c.args.bytes.now) in
    let come : 32 + 30 * c.args.c.words ≤ c.args.c.held + 6 = c.if-c-words.false in
    let later : 2 ≤ c.args.c.words = c.if-words-lt2.false in
    let new : c.args.c.held < 32 + 30 * c.args.c.words = c.if-words-c.false in
    let after : List ℕ = put_cells cells_of c.args.c.end c.args.six in
    let d : List Bool = held_after cells_of c.args.c c.args.six in
    let full : length after ≡ 40 = length-puts cells_of c.args.c.end c.args.six ∙ length-numbers 40 (drop start_size c.args.bytes.now) in
    let top : c.args.c.end + 6 ≤ 1280 = omega (arith, c.requires.1) in
    let low : c.args.c.held + 6 ≤ c.args.c.end + 6 = omega (arith, c.requires.2) in
    let place : (i : ℕ) → c.args.c.end - c.args.c.held + i ≡ c.args.c.end + 6 - (c.args.c.held + 6) + i = λ i. omega arith in
    let by_word : c.passes.result ≡ passes (word_at c.args.c.words d) = let w = c.window_after.result in
    c.passes.ensures
    ∙ ap passes (word-is after full (c.args.c.end + 6) top (c.args.c.held + 6) low c.args.c.words w come
    (c.window_after.ensures ∙ ap (seen after) (place (30 * c.args.c.words)))) in
    tells-by cells_of c.args.c c.args.six come later new false _ (sym by_word ∙ c.if-not-passes.true) refl

pub window_after-requires-2 : goal.window_after-requires-2
window_after-requires-2 c =
    let come : 32 + 30 * c.args.c.words ≤ c.args.c.held + 6 = c.if-c-words.false in
    let later : 2 ≤ c.args.c.words = c.if-words-lt2.false in
    (c.requires.0, omega (arith, come, later, c.requires.2), c.requires.1, c.requires.4)

pub overflow_add-n : goal.overflow_add-n
overflow_add-n c =
    let told-n : c.n_of-n.result ≡ n_of (data_of (bits 32 c.window_after-2.result)) = c.n_of-n.ensures ∙ ap n_of (bits-data c.window_after-2.result _ c.data_of.ensures) in
    omega (arith, told-n, n-lt (data_of (bits 32 c.window_after-2.result)))

pub returns-then-n-words : goal.returns-then-n-words
returns-then-n-words c =
    let cells_of : List ℕ = numbers_in 40 (drop start_size c.args.bytes.now) in
    let d : List Bool = held_after cells_of c.args.c c.args.six in
    let come : 32 + 30 * c.args.c.words ≤ c.args.c.held + 6 = c.if-c-words.false in
    let later : 2 ≤ c.args.c.words = c.if-words-lt2.false in
    let new : c.args.c.held < 32 + 30 * c.args.c.words = c.if-words-c.false in
    let after : List ℕ = put_cells cells_of c.args.c.end c.args.six in
    let full : length after ≡ 40 = length-puts cells_of c.args.c.end c.args.six ∙ length-numbers 40 (drop start_size c.args.bytes.now) in
    let top : c.args.c.end + 6 ≤ 1280 = omega (arith, c.requires.1) in
    let low : c.args.c.held + 6 ≤ c.args.c.end + 6 = omega (arith, c.requires.2) in
    let place : (i : ℕ) → c.args.c.end - c.args.c.held + i ≡ c.args.c.end + 6 - (c.args.c.held + 6) + i = λ i. omega arith in
    let by_word : c.passes.result ≡ passes (word_at c.args.c.words d) = let w = c.window_after.result in
    c.passes.ensures
    ∙ ap passes (word-is after full (c.args.c.end + 6) top (c.args.c.held + 6) low c.args.c.words w come
    (c.window_after.ensures ∙ ap (seen after) (place (30 * c.args.c.words)))) in
    let told-n : c.n_of-n.result ≡ n_of (data_of (bits 32 c.window_after-2.result)) = c.n_of-n.ensures ∙ ap n_of (bits-data c.window_after-2.result _ c.data_of.ensures) in
    let n-here : c.n_of-n.result ≡ n_at d = n-is after full (c.args.c.end + 6) top (c.args.c.held + 6) low c.window_after-2.result c.n_of-n.result
    (omega (arith, come, later)) (c.window_after-2.ensures ∙ ap (seen after) (place 30)) told-n in
    tells-by cells_of c.args.c c.args.six come later new true true (sym by_word ∙ c.if-not-passes.false)
    (le-leb (size d) (c.args.c.words + 1) (omega (arith, c.if-n-words.true, n-here)))

pub returns : goal.returns
returns c =
    let cells_of : List ℕ = numbers_in 40 (drop start_size c.args.bytes.now) in
    let d : List Bool = held_after cells_of c.args.c c.args.six in
    let come : 32 + 30 * c.args.c.words ≤ c.args.c.held + 6 = c.if-c-words.false in
    let later : 2 ≤ c.args.c.words = c.if-words-lt2.false in
    let new : c.args.c.held < 32 + 30 * c.args.c.words = c.if-words-c.false in
    let after : List ℕ = put_cells cells_of c.args.c.end c.args.six in
    let full : length after ≡ 40 = length-puts cells_of c.args.c.end c.args.six ∙ length-numbers 40 (drop start_size c.args.bytes.now) in
    let top : c.args.c.end + 6 ≤ 1280 = omega (arith, c.requires.1) in
    let low : c.args.c.held + 6 ≤ c.args.c.end + 6 = omega (arith, c.requires.2) in
    let place : (i : ℕ) → c.args.c.end - c.args.c.held + i ≡ c.args.c.end + 6 - (c.args.c.held + 6) + i = λ i. omega arith in
    let by_word : c.passes.result ≡ passes (word_at c.args.c.words d) = let w = c.window_after.result in
    c.passes.ensures
    ∙ ap passes (word-is after full (c.args.c.end + 6) top (c.args.c.held + 6) low c.args.c.words w come
    (c.window_after.ensures ∙ ap (seen after) (place (30 * c.args.c.words)))) in
    let told-n : c.n_of-n.result ≡ n_of (data_of (bits 32 c.window_after-2.result)) = c.n_of-n.ensures ∙ ap n_of (bits-data c.window_after-2.result _ c.data_of.ensures) in
    let n-here : c.n_of-n.result ≡ n_at d = n-is after full (c.args.c.end + 6) top (c.args.c.held + 6) low c.window_after-2.result c.n_of-n.result
    (omega (arith, come, later)) (c.window_after-2.ensures ∙ ap (seen after) (place 30)) told-n in
    tells-by cells_of c.args.c c.args.six come later new true false (sym by_word ∙ c.if-not-passes.false)
    (lt-leb (size d) (c.args.c.words + 1) (omega (arith, c.if-n-words.false, n-here)))
