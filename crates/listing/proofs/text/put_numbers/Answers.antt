-- `put_numbers` meets its contract: by a loop that stores a number and the space after it. Assumes nothing.
use Rattle.std.proofs.Common.{◌≡◌, ◌+◌, [], length, get_or, drop, sym, refl, ap, ◌∙◌, add-zero, arith, drop_of_length-le}
use lib.Seq.{sets}
use Rattle.printing.specs.Printing.{decimal}
use Rattle.printing.proofs.DigitLaws.{decimal-le}
use Rattle.printing.proofs.PutLaws.{told, not-refused}
use Rattle.printing.proofs.StoreLaws.{length-stored, length_marked}
use Rattle.listing.specs.Text.{space, spaced}
use Rattle.listing.proofs.TextLaws.{store-spaced, length-spaced}
use Rattle.listing.proofs.text.put_numbers.Goals as goal

pub loop-number-init : goal.loop-number-init
loop-number-init c = (refl, refl, omega arith, refl)

-- there is room for every number
pub returns-in_default : goal.returns-in_default
returns-in_default c =
    let n = get_or c.args.numbers.now c.loop-number.number-index 0 in
    absurd (not-refused (decimal n) c.loop-number.next c.loop-number.buffer 20 (decimal-le n) (omega arith) _ _ (c.put_number.ensures.value, c.put_number.ensures.buffer_after) _ c.in_default.is)

pub bounds-buffer-end : goal.bounds-buffer-end
bounds-buffer-end c =
    let n = get_or c.args.numbers.now c.loop-number.number-index 0 in
    let it = told (decimal n) c.loop-number.next c.loop-number.buffer 20 (decimal-le n) (omega arith) _ _ (c.put_number.ensures.value, c.put_number.ensures.buffer_after) _ c.in-Ok.is in
    omega (arith, it.1, length-stored c.loop-number.buffer c.loop-number.next (decimal n) _ it.2)

pub overflow_add-next : goal.overflow_add-next
overflow_add-next c =
    let n = get_or c.args.numbers.now c.loop-number.number-index 0 in
    let it = told (decimal n) c.loop-number.next c.loop-number.buffer 20 (decimal-le n) (omega arith) _ _ (c.put_number.ensures.value, c.put_number.ensures.buffer_after) _ c.in-Ok.is in
    omega (arith, it.1)

pub loop-number-preserved : goal.loop-number-preserved
loop-number-preserved c =
    let ns = c.args.numbers.now in
    let n = get_or ns c.loop-number.number-index 0 in
    let it = told (decimal n) c.loop-number.next c.loop-number.buffer 20 (decimal-le n) (omega arith) _ _ (c.put_number.ensures.value, c.put_number.ensures.buffer_after) _ c.in-Ok.is in (
      c.loop-number.invariant.0 ∙ store-spaced c.loop-number.buffer ns c.loop-number.next c.loop-number.number-index (omega (arith, c.requires.0)) _ it.2 _ it.0,
      omega (arith, c.loop-number.invariant.1, it.0, length-spaced ns c.loop-number.number-index (omega (arith, c.requires.0))),
      omega (arith, it.1),
      length_marked c.loop-number.buffer c.loop-number.next (decimal n) _ it.2 c.in-Ok.end space ∙ c.loop-number.invariant.3,
    )

pub returns : goal.returns
unfolding spaced
returns c =
    let ns = c.args.numbers.now in
    let all : drop c.loop-number.number-index ns ≡ [] = drop_of_length-le ns {i = c.loop-number.number-index} (omega (arith, c.requires.0)) in
    record { value = (sym (c.loop-number.invariant.1 ∙ ap (λ r. c.loop-number.next + length (spaced r)) all ∙ add-zero c.loop-number.next), omega arith); buffer_after = sym (c.loop-number.invariant.0 ∙ ap (λ r. sets c.loop-number.buffer c.loop-number.next (spaced r)) all) }

pub shape_of-buffer : goal.shape_of-buffer
shape_of-buffer c = c.loop-number.invariant.3
