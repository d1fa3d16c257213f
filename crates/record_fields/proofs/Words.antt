-- Words of 24 bits and the bits that they are cut from. Assumes nothing.
use mathlib.Core.Path.{◌≡◌, refl, ap}
use mathlib.Core.Bool.{Bool}
use mathlib.Core.List.{List, [], ◌∷◌}
use Prim.Native.Nat.{ℕ, zero, suc}
use native.Mathlib.Nat.{mod-eq_of_lt}
use lib.ListN.{length, drop}
use lib.Seq.{take_at, drop_at}
use Rattle.bits.specs.Bits.{bits}
use Rattle.bits.specs.Rows.{data_bits, cut_words}
use Rattle.bits.proofs.Numbers.{length-bits, number-bits}
use Rattle.bits.proofs.FieldLaws.{fits-field}
use Rattle.frame.specs.Frames.{Below}

pub words-data : (ws : List ℕ) → Below ws → cut_words (length ws) (data_bits ws) ≡ ws
unfolding cut_words data_bits
words-data [] f = refl
words-data (w ∷ ws) f =
    rw (
      take_at (bits 24 w) (data_bits ws) 24 (length-bits 24 w),
      drop_at (bits 24 w) (data_bits ws) 24 (length-bits 24 w),
      number-bits 24 w,
      mod-eq_of_lt f.0,
    )
    (ap (λ l. w ∷ l) (words-data ws f.1))

pub below-cut : (n : ℕ) (bs : List Bool) → Below (cut_words n bs)
unfolding cut_words
below-cut zero bs = tt
below-cut (suc n) bs = (fits-field 0 24 bs, below-cut n (drop 24 bs))
