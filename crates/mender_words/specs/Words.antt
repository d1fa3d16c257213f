-- What mending makes of a window, the 32 bits of a word and of the two before it, as a number, the first sent highest. Assumes nothing.
use Rattle.std.specs.Prelude.{Bool, true, false, cond, List, [], ◌∷◌, ℕ, suc, ◌-◌, ◌^◌, eqb}
use Rattle.std.specs.Int.Bits.{bit_xor}
use Rattle.bits.specs.Bits.{odd, bits}
use Rattle.word.specs.Word.{remainder_of, passes}
use Rattle.word.specs.Answer.{remainder_at}
use Rattle.mender_words.specs.declared.MendedWord.{MendedWord}
use Rattle.mender_words.specs.declared.MendedWord.TheVariants.{Sound, Mended, Broken}

-- the remainder of each of the 32 bits alone, D29*, D30*, D1 to D30. That they are so is a promise, and that each odd remainder is one of them.
unfoldable pub own_remainders : List ℕ
own_remainders =
    0x29 ∷ 0x15 ∷ 0x2A ∷ 0x34 ∷ 0x3B ∷ 0x1C ∷ 0x2F ∷ 0x37 ∷ 0x1A ∷ 0x0D ∷ 0x07 ∷ 0x23 ∷ 0x31 ∷ 0x38 ∷ 0x3D ∷ 0x3E
    ∷ 0x1F ∷ 0x0E ∷ 0x26 ∷ 0x32 ∷ 0x19 ∷ 0x2C ∷ 0x16 ∷ 0x0B ∷ 0x25 ∷ 0x13 ∷ 0x20 ∷ 0x10 ∷ 0x08 ∷ 0x04 ∷ 0x02 ∷ 0x01 ∷ []

-- where a number first stands in a list
unfoldable pub place_in : ℕ → List ℕ → ℕ
place_in r [] = 0
place_in r (c ∷ cs) =
    let later = suc (place_in r cs) in
    cond (eqb c r) 0 later

-- the place of the bit whose own remainder this is
unfoldable pub place_of : ℕ → ℕ
unfolding own_remainders place_in
place_of r = place_in r own_remainders

-- a window with the bit at a place turned
abbrev pub turned_at : ℕ → ℕ → ℕ
turned_at place v = bit_xor v (2 ^ (31 - place))

-- MENDED: a remainder of odd weight gets one bit turned back; one of even weight, not zero, is not touched
unfoldable pub mended_by : ℕ → MendedWord
mended_by v =
    cond (passes (bits 32 v)) Sound (cond (odd (remainder_of (bits 32 v))) (Mended (turned_at (place_of (remainder_at v)) v)) Broken)

-- a window that can't be mended
abbrev pub broken_word : MendedWord → Bool
broken_word Sound = false
broken_word (Mended u) = false
broken_word Broken = true

-- the window after it
abbrev pub window_after : ℕ → MendedWord → ℕ
window_after v Sound = v
window_after v (Mended u) = u
window_after v Broken = v

unfoldable pub mended_to : ℕ → ℕ
mended_to v = window_after v (mended_by v)
