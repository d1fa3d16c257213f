-- `make_null` meets its contract: a frame of no field or of the filled word. Assumes nothing.
use mathlib.Core.Path.{◌≡◌, refl, ap₂, ◌∙◌}
use mathlib.Core.List.{[], ◌∷◌}
use Prim.Native.Nat.{ℕ, zero, suc}
use native.Mathlib.Omega.{arith}
use lib.ListN.{replicate}
use borrow.Author.Tests.{lt-ltb}
use Rattle.answer.specs.Order.{in_order}
use Rattle.frame.specs.declared.Header.{Header}
use Rattle.frame.specs.declared.Layout.TheVariants as layout
use Rattle.frame.specs.Frames.{framed}
use Rattle.record_fields.specs.Packing.{empty_packer, joined, flushed, pushed, filled_up}
use Rattle.record_fields.specs.Tables.{no_rows, put_row}
use Rattle.record_stages.specs.Stages.{make_order, made_by, refused_made, done_made}
use Rattle.record_nulls.specs.Nulls.{most_words, too_many, fill, null_count, null_rows, make_null}
use Rattle.record_nulls.proofs.make_null.Goals as goal

-- what the rows hold is the frame of N filled words, where there are not too many
null-made : (h : Header) (n : ℕ) → made_by layout.Null 1 fill h (null_count n) (null_rows n)
    ≡ in_order (make_order layout.Null h ((too_many n, 12) ∷ [])) refused_made (done_made (framed h (replicate n fill)))
unfolding framed no_rows put_row empty_packer pushed joined flushed filled_up
null-made h zero = refl
null-made h (suc zero) = refl
null-made h (suc (suc n)) = rw (lt-ltb most_words (suc (suc n)) (omega arith))

pub returns : goal.returns
unfolding make_null
returns c =
    let a = c.args in
    c.make_frame.ensures
    ∙ ap₂ (made_by layout.Null 1 fill a.header) c.null_count-count.ensures c.null_rows-rows.ensures
    ∙ null-made a.header a.n
