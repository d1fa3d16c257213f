-- Worked bytes: what the definition that `six_of` cites gives for them, the first sent highest; only top bits 01 carry any. Assumes nothing.
use mathlib.Core.Path.{◌≡◌, refl}
use mathlib.Core.List.{[], ◌∷◌, map}
use Rattle.bits.specs.Bits.{bits, number}
use Rattle.line.specs.Line.{six}
use Rattle.line.specs.Answer.{six_of}
use Rattle.std.specs.Prelude.{Ok, Err}
use Rattle.answer.specs.declared.Refusal.TheVariants.{NoDataByte}

pub worked-sixes : map six_of (0x40 ∷ 0x41 ∷ 0x60 ∷ 0x66 ∷ 0x7F ∷ 0x59 ∷ 0x3F ∷ 0x80 ∷ [])
    ≡ Ok 0b000000 ∷ Ok 0b100000 ∷ Ok 0b000001 ∷ Ok 0b011001 ∷ Ok 0b111111 ∷ Ok 0b100110 ∷ Err NoDataByte ∷ Err NoDataByte ∷ []
unfolding bits number six
worked-sixes = refl
