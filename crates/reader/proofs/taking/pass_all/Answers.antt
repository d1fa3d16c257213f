-- `pass_all` meets its contract: two words after two, each tested. Assumes nothing.
use Rattle.std.proofs.Common.{◌≡◌, ◌+◌, ◌-◌, ◌*◌, sym, ap, ◌∙◌, arith}
use Rattle.stream.specs.Standing.{all_right}
use Rattle.reader.specs.Cells.{held_bits}
use Rattle.reader.proofs.TakeLaws.{right-none, two-pass, two-fail}
use Rattle.reader.proofs.taking.pass_all.Goals as goal

pub loop-i-init : goal.loop-i-init
loop-i-init c =
    let a = c.args in
    let all : a.count - 0 ≡ a.count = omega arith in
    ap (λ m. all_right m 0 (held_bits a.cells.now a.end a.held)) all

pub window-w-requires : goal.window-w-requires
window-w-requires c = (c.requires.0, omega arith)

pub window-v-requires : goal.window-v-requires
window-v-requires c = (c.requires.0, omega arith)

pub returns-then-left_over-ne0 : goal.returns-then-left_over-ne0
returns-then-left_over-ne0 c =
    let a = c.args in
    sym (sym c.loop-i.invariant
    ∙ two-fail a.cells.now c.requires.0 a.end c.requires.1 a.held c.requires.2 a.count (2 * c.loop-i.i) c.min-j.result c.window-w.result
    c.window-v.result c.left_over.result (omega arith) c.min-j.ensures c.requires.3 c.requires.4 c.window-w.ensures
    c.window-v.ensures c.left_over.ensures c.if-left_over-ne0.true)

pub loop-i-preserved : goal.loop-i-preserved
loop-i-preserved c =
    let a = c.args in
    let next : 2 * (c.loop-i.i + 1) ≡ 2 * c.loop-i.i + 2 = omega arith in
    ap (λ k. all_right (a.count - k) k (held_bits a.cells.now a.end a.held)) next
    ∙ sym (two-pass a.cells.now c.requires.0 a.end c.requires.1 a.held c.requires.2 a.count (2 * c.loop-i.i) c.min-j.result
    c.window-w.result c.window-v.result c.left_over.result (omega arith) c.min-j.ensures c.requires.3 c.requires.4
    c.window-w.ensures c.window-v.ensures c.left_over.ensures c.if-left_over-ne0.false)
    ∙ c.loop-i.invariant

pub returns : goal.returns
returns c =
    let a = c.args in
    sym (sym c.loop-i.invariant ∙ right-none a.count (2 * c.loop-i.i) (held_bits a.cells.now a.end a.held) (omega arith))
