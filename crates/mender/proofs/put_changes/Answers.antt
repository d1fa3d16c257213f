-- `put_changes` meets its contract: by a loop that puts a byte back and writes its change where it has one. Assumes nothing.
use Rattle.std.proofs.Common.{◌≡◌, ◌+◌, ◌%◌, ◌^◌, ◌++◌, length, get_or, take, drop, set, sym, refl, ap, ◌∙◌, add-zero, arith, length-set}
use lib.Seq.{sets, take-length}
use Rattle.printing.proofs.StoreLaws.{length-stored}
use Rattle.mender.specs.Report.{change_lines, differs, byte_line}
use Rattle.mender.proofs.ChangeLaws.{from, byte-count, byte-place, byte-stored, none_left, from_start, next-byte, put_next, byte_fits}
use Rattle.mender.proofs.put_changes.Goals as goal

pub loop-i-init : goal.loop-i-init
loop-i-init c =
    let a = c.args in
    let start = from_start a.at a.bytes.now a.whole.now in (
      refl,
      ap (λ l. sets a.output.now 0 (change_lines l)) (sym start),
      omega (arith, ap (λ l. length (change_lines l)) start),
      omega (arith, ap length start),
      refl,
      refl,
    )

pub put_byte-next-requires : goal.put_byte-next-requires
put_byte-next-requires c =
    let a = c.args in
    let x = ap (λ r. get_or r c.loop-i.i 0) c.loop-i.invariant.0 ∙ next-byte a.bytes.now a.whole.now c.loop-i.i (omega arith) c.requires.whole_in_bounds in
    let count = byte-count a.at a.bytes.now a.whole.now c.loop-i.i (omega arith) c.requires.whole_in_bounds in
    let same = ap (λ y. differs y (get_or a.whole.now c.loop-i.i 0)) x in
    omega (arith, c.loop-i.invariant.3, c.requires.whole_in_bounds_2, c.loop-i.invariant.5)

pub bounds-bytes-i-in-loop-i : goal.bounds-bytes-i-in-loop-i
bounds-bytes-i-in-loop-i c =
    omega (arith, c.loop-i.invariant.4, c.requires.whole_in_bounds)

pub loop-i-preserved : goal.loop-i-preserved
loop-i-preserved c =
    let a = c.args in
    let bs = a.bytes.now in
    let ws = a.whole.now in
    let x = ap (λ r. get_or r c.loop-i.i 0) c.loop-i.invariant.0 ∙ next-byte bs ws c.loop-i.i (omega arith) c.requires.whole_in_bounds in
    let line = ap (λ y. byte_line ((a.at + c.loop-i.i) % 2 ^ 64) y (get_or ws c.loop-i.i 0)) x in
    let place = c.put_byte-next.ensures.value ∙ ap (λ t. c.loop-i.next + length t) line in
    let stored = c.put_byte-next.ensures.buffer_after ∙ ap (sets c.loop-i.output c.loop-i.next) line in
    let count = byte-count a.at bs ws c.loop-i.i (omega arith) c.requires.whole_in_bounds in
    let fits = byte_fits ((a.at + c.loop-i.i) % 2 ^ 64) (get_or bs c.loop-i.i 0) (get_or ws c.loop-i.i 0)
    (omega (arith, x)) (omega (arith, c.type_inv.whole c.loop-i.i)) in (
      ap (λ r. set r c.loop-i.i (get_or ws c.loop-i.i 0)) c.loop-i.invariant.0 ∙ put_next bs ws c.loop-i.i (omega arith) c.requires.whole_in_bounds,
      c.loop-i.invariant.1 ∙ byte-stored a.at bs ws c.loop-i.i (omega arith) c.requires.whole_in_bounds c.loop-i.next c.loop-i.output place stored,
      c.loop-i.invariant.2 ∙ byte-place a.at bs ws c.loop-i.i (omega arith) c.requires.whole_in_bounds c.loop-i.next place,
      omega (arith, c.loop-i.invariant.3, place, count, fits),
      length-set c.loop-i.bytes c.loop-i.i (get_or ws c.loop-i.i 0) ∙ c.loop-i.invariant.4,
      length-stored c.loop-i.output c.loop-i.next (byte_line ((a.at + c.loop-i.i) % 2 ^ 64) (get_or bs c.loop-i.i 0) (get_or ws c.loop-i.i 0)) _ stored ∙ c.loop-i.invariant.5,
    )

pub returns : goal.returns
unfolding change_lines
returns c =
    let a = c.args in
    let bs = a.bytes.now in
    let ws = a.whole.now in
    let all : c.loop-i.i ≡ length ws = omega arith in
    let none = ap (from a.at bs ws) all ∙ none_left a.at bs ws in
    record { value = sym (c.loop-i.invariant.2 ∙ ap (λ l. c.loop-i.next + length (change_lines l)) none ∙ add-zero c.loop-i.next); bytes_after = c.loop-i.invariant.0 ∙ ap (λ i. take i ws ++ drop i bs) all ∙ ap (λ r. r ++ drop (length ws) bs) (take-length ws); output_after = sym (c.loop-i.invariant.1 ∙ ap (λ l. sets c.loop-i.output c.loop-i.next (change_lines l)) none) }
