-- `filled` meets its contract: two words after two, each tested and put in. Assumes nothing.
use Rattle.std.proofs.Common.{◌≡◌, ℕ, ◌+◌, ◌-◌, ◌*◌, ◌<◌, min, Bool, List, ap, ◌∙◌, arith}
use Rattle.stream.specs.Standing.{all_right}
use Rattle.stream.proofs.Words.{n-lt}
use Rattle.reader.specs.Cells.{held_bits}
use Rattle.reader.proofs.Steps.{seen}
use Rattle.reader.proofs.Gathering.{gathered, gather_none, gather-two, frame-law}
use Rattle.reader.proofs.TakeLaws.{there-some, there-none, right-none, data-here, two-pass, two-fail}
use Rattle.reader.proofs.taking.filled.Goals as goal

pub loop-i-init : goal.loop-i-init
loop-i-init c =
    let a = c.args in
    let d : List Bool = held_bits a.cells.now a.end a.held in
    let none : 0 ≡ min 0 a.n = omega arith in
    let all : a.n ≡ 2 + a.n - 2 = omega arith in
    (gather_none d ∙ ap (λ k. gathered k d) none, c.requires.3.rest ∙ ap (λ m. all_right m 2 d) all)

pub window-w-requires : goal.window-w-requires
window-w-requires c = (c.requires.0, omega arith)

pub window-v-requires : goal.window-v-requires
window-v-requires c = (c.requires.0, omega arith)

pub returns-then-left_over-ne0 : goal.returns-then-left_over-ne0
returns-then-left_over-ne0 c =
    let k : ℕ = 2 * c.loop-i.i in
    let j : ℕ = c.min-j.result in
    let n : ℕ = c.args.n in
    let d : List Bool = held_bits c.args.cells.now c.args.end c.args.held in
    let place : (i : ℕ) → c.args.end - c.args.held + 60 + 30 * i ≡ c.args.end - c.args.held + 30 * (2 + i) = λ i. omega arith in
    let window-one : c.window-w.result ≡ seen c.args.cells.now (c.args.end - c.args.held + 30 * (2 + k)) = c.window-w.ensures ∙ ap (seen c.args.cells.now) (place k) in
    let window-two : c.window-v.result ≡ seen c.args.cells.now (c.args.end - c.args.held + 30 * (2 + j)) = c.window-v.ensures ∙ ap (seen c.args.cells.now) (place j) in
    let a = c.args in
    there-none d
    (c.loop-i.invariant.1
    ∙ two-fail a.cells.now c.requires.0 a.end c.requires.1 a.held c.requires.2 (2 + n) (2 + k) (2 + j) c.window-w.result
    c.window-v.result c.left_over.result (omega arith) (omega (arith, c.min-j.ensures)) (omega arith) c.requires.3.head window-one
    window-two c.left_over.ensures c.if-left_over-ne0.true)

pub bounds-words-k : goal.bounds-words-k
bounds-words-k c =
    let n : ℕ = c.args.n in
    let d : List Bool = held_bits c.args.cells.now c.args.end c.args.held in
    let inside : n < 32 = omega (arith, c.requires.3.count, n-lt d) in
    omega (arith, inside)

pub bounds-words-j : goal.bounds-words-j
bounds-words-j c =
    let n : ℕ = c.args.n in
    let d : List Bool = held_bits c.args.cells.now c.args.end c.args.held in
    let inside : n < 32 = omega (arith, c.requires.3.count, n-lt d) in
    omega (arith, inside)

pub loop-i-preserved : goal.loop-i-preserved
loop-i-preserved c =
    let k : ℕ = 2 * c.loop-i.i in
    let j : ℕ = c.min-j.result in
    let n : ℕ = c.args.n in
    let d : List Bool = held_bits c.args.cells.now c.args.end c.args.held in
    let inside : n < 32 = omega (arith, c.requires.3.count, n-lt d) in
    let place : (i : ℕ) → c.args.end - c.args.held + 60 + 30 * i ≡ c.args.end - c.args.held + 30 * (2 + i) = λ i. omega arith in
    let window-one : c.window-w.result ≡ seen c.args.cells.now (c.args.end - c.args.held + 30 * (2 + k)) = c.window-w.ensures ∙ ap (seen c.args.cells.now) (place k) in
    let window-two : c.window-v.result ≡ seen c.args.cells.now (c.args.end - c.args.held + 30 * (2 + j)) = c.window-v.ensures ∙ ap (seen c.args.cells.now) (place j) in
    let a = c.args in
    let word = data-here a.cells.now c.requires.0 a.end c.requires.1 a.held c.requires.2 in
    let here : min k n ≡ k = omega arith in
    let next : j + 1 ≡ min (2 * (c.loop-i.i + 1)) n = omega (arith, c.min-j.ensures) in
    let more : 2 + k + 2 ≡ 2 + 2 * (c.loop-i.i + 1) = omega arith in (
      gather-two c.loop-i.words k j c.data_of.result c.data_of-in-loop-i.result d (c.loop-i.invariant.0 ∙ ap (λ i. gathered i d) here)
          (omega (arith, c.min-j.ensures)) (omega (arith, c.min-j.ensures)) (omega (arith, inside, c.min-j.ensures))
          (word (2 + k) c.window-w.result c.data_of.result (omega arith) window-one c.data_of.ensures)
          (word (2 + j) c.window-v.result c.data_of-in-loop-i.result (omega (arith, c.min-j.ensures)) window-two c.data_of-in-loop-i.ensures)
          ∙ ap (λ i. gathered i d) next,
      c.loop-i.invariant.1
          ∙ two-pass a.cells.now c.requires.0 a.end c.requires.1 a.held c.requires.2 (2 + n) (2 + k) (2 + j)
          c.window-w.result c.window-v.result c.left_over.result (omega arith) (omega (arith, c.min-j.ensures)) (omega arith)
          c.requires.3.head window-one window-two c.left_over.ensures c.if-left_over-ne0.false
          ∙ ap (λ i. all_right (2 + n - i) i d) more,
    )

pub returns : goal.returns
returns c =
    let a = c.args in
    let d : List Bool = held_bits a.cells.now a.end a.held in
    let all : min (2 * c.loop-i.i) a.n ≡ a.n = omega arith in
    let frame = frame-law d a.header a.carried a.n c.loop-i.words c.requires.3 (c.loop-i.invariant.0 ∙ ap (λ k. gathered k d) all) in
    there-some d (c.loop-i.invariant.1 ∙ right-none (2 + a.n) (2 + 2 * c.loop-i.i) d (omega arith)) _ frame
