-- What the hunt reads off a window: its data as bits again, and that nine bits show that no preamble stands, in either polarity.
-- Assumes nothing.
use Rattle.std.proofs.Common.{◌≡◌, ℕ, suc, ◌+◌, ◌*◌, ◌^◌, Bool, true, false, List, [], ◌∷◌, map, length, get_or, take, drop, sym, refl, ap, ◌∙◌, pow-suc, arith, ne_eqb}
use Rattle.bits.specs.Bits.{◌⊻◌, val, bits, number}
use Rattle.bits.proofs.Numbers.{tab-id}
use Rattle.word.specs.Word.{data_of}
use Rattle.word.proofs.Sending.{data-number}
use Rattle.frame.specs.Header.{preambled}

-- the data of a window, as a number, has the window's data bits
pub bits-data : (w d : ℕ) → d ≡ number (data_of (bits 32 w)) → bits 24 d ≡ data_of (bits 32 w)
bits-data w d e = ap (bits 24) e ∙ data-number (bits 32 w)

-- D1 to D8 as they came
abbrev eight : List Bool → List Bool
eight w = get_or w 2 false ∷ get_or w 3 false ∷ get_or w 4 false ∷ get_or w 5 false ∷ get_or w 6 false ∷ get_or w 7 false ∷ get_or w 8 false ∷ get_or w 9 false ∷ []

nine-is : (w : List Bool) → length w ≡ 32 → take 9 (drop 1 w) ≡ get_or w 1 false ∷ eight w
nine-is w h = ap (λ l. take 9 (drop 1 l)) (sym (rw h at (tab-id w)))

data_is : (w : List Bool) → take 8 (data_of w) ≡ map (λ a. a ⊻ get_or w 1 false) (eight w)
unfolding data_of
data_is w = refl

kept : (l : List Bool) → number (map (λ a. a ⊻ false) l) ≡ number l
unfolding number
kept [] = refl
kept (true ∷ l) = omega (arith, kept l, ap (λ n. 2 ^ n) (long l))
  where
    long : (l : List Bool) → length (map (λ a. a ⊻ false) l) ≡ length l
    long [] = refl
    long (b ∷ l) = ap suc (long l)
kept (false ∷ l) = omega (arith, kept l)

turned-over : (l : List Bool) → number (map (λ a. a ⊻ true) l) + number l + 1 ≡ 2 ^ length l
unfolding number
turned-over [] = refl
turned-over (true ∷ l) = omega (arith, turned-over l, pow-suc 2 (length l))
turned-over (false ∷ l) = omega (arith, turned-over l, pow-suc 2 (length l), ap (λ n. 2 ^ n) (long l))
  where
    long : (l : List Bool) → length (map (λ a. a ⊻ true) l) ≡ length l
    long [] = refl
    long (b ∷ l) = ap suc (long l)

-- nine bits that are neither 0 01100110 nor 1 10011001: no preamble
pub no-preamble : (w : List Bool) → length w ≡ 32 → (number (take 9 (drop 1 w)) ≡ 102 → ⊥) → (number (take 9 (drop 1 w)) ≡ 409 → ⊥)
    → preambled (data_of w) ≡ false
unfolding preambled number
no-preamble w h f g = ne_eqb (number (take 8 (data_of w))) 102 (λ e. go (get_or w 1 false) (sym (ap number (data_is w)) ∙ e) (ap number (nine-is w h)))
  where
    go : (b : Bool) → number (map (λ a. a ⊻ b) (eight w)) ≡ 102 → number (take 9 (drop 1 w)) ≡ val b * 256 + number (eight w) → ⊥
    go false e n = f (omega (arith, n, e, kept (eight w)))
    go true e n = g (omega (arith, n, e, turned-over (eight w)))
