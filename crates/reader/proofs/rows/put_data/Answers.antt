-- `put_data` meets its contract: by a loop over the words, that puts three bytes for each. Assumes nothing.
use Rattle.std.proofs.Common.{◌≡◌, ◌+◌, ◌-◌, ◌*◌, sym, refl, ap, ◌∙◌, ap₂, arith, length-set}
use lib.Seq.{sets}
use Rattle.stream.specs.Standing.{data_from}
use Rattle.journal.specs.Bytes.{written}
use Rattle.reader.specs.Cells.{held_bits}
use Rattle.reader.proofs.TakeLaws.{data-here}
use Rattle.reader.proofs.RowLaws.{data-none, store-data}
use Rattle.reader.proofs.rows.put_data.Goals as goal

pub loop-k-init : goal.loop-k-init
loop-k-init c =
    let a = c.args in
    let all : a.count ≡ a.count - 0 = omega arith in
    let first : a.start ≡ a.start + 0 = omega arith in
    (ap₂ (λ i m. sets a.rows.now i (written 3 (data_from m 0 (held_bits a.cells.now a.end a.held)))) first all, refl)

pub window-requires : goal.window-requires
window-requires c = (c.requires.0, omega arith)

pub loop-k-preserved : goal.loop-k-preserved
loop-k-preserved c =
    let a = c.args in
    let d = held_bits a.cells.now a.end a.held in
    let next : a.start + 3 * (c.loop-k.k + 1) ≡ a.start + 3 * c.loop-k.k + 3 = omega arith in
    rw c.to_be_bytes.ensures (
      c.loop-k.invariant.0
          ∙ store-data c.loop-k.rows (a.start + 3 * c.loop-k.k) a.count c.loop-k.k c.data_of.result _ d (omega arith) next
          (data-here a.cells.now c.requires.0 a.end c.requires.1 a.held c.requires.2 c.loop-k.k c.window.result c.data_of.result
          (omega arith) c.window.ensures c.data_of.ensures),
      simp length-set c.loop-k.invariant.1,
    )

pub returns : goal.returns
returns c =
    let a = c.args in
    sym (c.loop-k.invariant.0 ∙ ap (sets c.loop-k.rows (a.start + 3 * c.loop-k.k)) (data-none a.count c.loop-k.k (held_bits a.cells.now a.end a.held) (omega arith)))
