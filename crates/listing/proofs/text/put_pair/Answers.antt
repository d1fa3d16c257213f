-- `put_pair` meets its contract: three stores. Assumes nothing.
use Rattle.std.proofs.Common.{◌+◌, refl, arith, length-set}
use Rattle.listing.proofs.TextLaws.{digit-small, store-three}
use Rattle.listing.proofs.text.put_pair.Goals as goal

pub overflow_add-buffer : goal.overflow_add-buffer
overflow_add-buffer c = omega (arith, digit-small _ c.requires.0)

pub overflow_add-buffer-2 : goal.overflow_add-buffer-2
overflow_add-buffer-2 c = omega (arith, digit-small _ c.requires.0)

pub returns : goal.returns
returns c =
    let a = c.args in
    record { value = refl; buffer_after = store-three a.buffer.now a.place (48 + a.carried.d29) (48 + a.carried.d30) 10 }

pub bounds-buffer-place-2 : goal.bounds-buffer-place-2
bounds-buffer-place-2 c = simp length-set (omega arith)

pub bounds-buffer-place-3 : goal.bounds-buffer-place-3
bounds-buffer-place-3 c = simp length-set (omega arith)

pub shape_of-buffer : goal.shape_of-buffer
shape_of-buffer c = simp length-set
