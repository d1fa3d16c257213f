-- What the functions compute, as numbers, against the definitions. Assumes nothing.
use mathlib.Core.Path.{◌≡◌, refl, sym, ap, ap₂, ◌∙◌}
use mathlib.Core.Bool.{Bool, true, false}
use mathlib.Core.List.{List, [], ◌∷◌, ◌++◌, map}
use Prim.Native.Nat.{ℕ, ◌+◌, ◌*◌, ◌/◌, ◌%◌, ◌^◌, ◌<◌}
use native.Mathlib.Nat.{mod-lt, mod-eq_of_lt, div-one, lt_of_le_of_lt}
use native.Mathlib.Omega.{arith}
use lib.Dec.{lit<}
use lib.ListN.{get_or, replicate}
use lib.Pow.{pow_pos}
use lib.Bits.{bit_and, bit_xor, and_le_r, xor_lt}
use lib.Count.{ones}
use borrow.Author.Tests.{lt-leb}
use Rattle.bits.specs.Bits.{◌⊻◌, ◌⊕◌, odd, val, is_odd, bits, number}
use Rattle.bits.proofs.Xor.{val-odd, val-xor, xor_self, get_d-xor, odd-xors, map-xor}
use Rattle.bits.proofs.Numbers.{odd-ones, bits-xor, bits-mod, bits-split, length-bits, number-bits, number_lt, number-xor, number_append}
use Rattle.bits.proofs.Linear.{columns, sum, spanned, odd-mask}
use Rattle.word.specs.Word.{nth, d29*, d30*, rows, turned_by, parity, data_of, received, computed, remainder_of, sent}
use Rattle.word.specs.Answer.{sent_at, word_of}
use Rattle.word.proofs.Sending.{data-number}
use Rattle.std.specs.Prelude.{Ok, Err}
use Rattle.answer.specs.declared.Refusal.{Refusal}

-- ---- the six equations

-- the data bits of row i of the table, and whether an odd number of these are ones
abbrev terms : ℕ → List ℕ
unfolding rows
terms i = get_or (map (λ r. r.2) rows) i []

abbrev among : List ℕ → List Bool → Bool
among is ds = odd (map (nth ds) is)

among-xor : (is : List ℕ) (a b : List Bool) → among is (a ⊕ b) ≡ among is a ⊻ among is b
among-xor is a b =
    ap odd (map-xor (nth (a ⊕ b)) (nth a) (nth b) (get_d-xor (false ∷ a) (false ∷ b)) is) ∙ odd-xors (map (nth a) is) (map (nth b) is)

-- a mask that has a one for each term does what the row says
masked : (is : List ℕ) (m n : ℕ) → columns ◌⊻◌ false (among is) 24 ≡ bits 24 m → m < 2 ^ 24 → among is (bits 24 n) ≡ is_odd (ones (bit_and n m))
masked is m n e h =
    spanned ◌⊻◌ false (among is) (among-xor is) (λ a. xor_self (among is a)) (bits 24 n)
    ∙ ap (λ k. sum ◌⊻◌ false (bits 24 n) (columns ◌⊻◌ false (among is) k)) (length-bits 24 n)
    ∙ ap (sum ◌⊻◌ false (bits 24 n)) e
    ∙ sym (odd-mask 24 n m)
    ∙ sym (odd-ones 24 (bit_and n m))
    ∙ ap (λ k. is_odd (ones k)) (mod-eq_of_lt (lt_of_le_of_lt (and_le_r n m) h))

-- what `odd_of` gives for data n, mask m and carried bit c
abbrev odd_of : ℕ → ℕ → ℕ → ℕ
odd_of n m c = (ones (bit_and n m) + c % 2) % 2

row : (is : List ℕ) (m n c : ℕ) (b : Bool) → columns ◌⊻◌ false (among is) 24 ≡ bits 24 m → m < 2 ^ 24 → val b ≡ c % 2
    → odd_of n m c ≡ val (b ⊻ among is (bits 24 n))
row is m n c b e h v = omega (arith, val-xor b (among is (bits 24 n)), ap val (masked is m n e h), val-odd (ones (bit_and n m)))

-- six bits, each known as a number
six : (b₁ b₂ b₃ b₄ b₅ b₆ : Bool) {n₁ n₂ n₃ n₄ n₅ n₆ : ℕ} → n₁ ≡ val b₁ → n₂ ≡ val b₂ → n₃ ≡ val b₃ → n₄ ≡ val b₄ → n₅ ≡ val b₅ → n₆ ≡ val b₆
    → n₁ * 32 + n₂ * 16 + n₃ * 8 + n₄ * 4 + n₅ * 2 + n₆ ≡ number (b₁ ∷ b₂ ∷ b₃ ∷ b₄ ∷ b₅ ∷ b₆ ∷ [])
unfolding number
six b₁ b₂ b₃ b₄ b₅ b₆ e₁ e₂ e₃ e₄ e₅ e₆ = omega arith

-- the masks of `parity_of`, each held against its row
pub parity-law : (c n : ℕ) {n₁ n₂ n₃ n₄ n₅ n₆ : ℕ}
    → n₁ ≡ odd_of n 0b111011_000111_110011_010010 (c / 2)
    → n₂ ≡ odd_of n 0b011101_100011_111001_101001 c
    → n₃ ≡ odd_of n 0b101110_110001_111100_110100 (c / 2)
    → n₄ ≡ odd_of n 0b010111_011000_111110_011010 c
    → n₅ ≡ odd_of n 0b101011_101100_011111_001101 c
    → n₆ ≡ odd_of n 0b001011_011110_101000_100111 (c / 2)
    → n₁ * 32 + n₂ * 16 + n₃ * 8 + n₄ * 4 + n₅ * 2 + n₆ ≡ number (parity (d29* (bits 2 c)) (d30* (bits 2 c)) (bits 24 n))
unfolding bits parity
parity-law c n e₁ e₂ e₃ e₄ e₅ e₆ =
    let d29 : val (is_odd (c / 2)) ≡ c / 2 % 2 = val-odd (c / 2) in
    let d30 : val (is_odd (c / 1)) ≡ c % 2 = omega (arith, val-odd (c / 1)) in
    six _ _ _ _ _ _
    (e₁ ∙ row (terms 0) _ n (c / 2) (is_odd (c / 2)) refl (lit< tt) d29)
    (e₂ ∙ row (terms 1) _ n c (is_odd (c / 1)) refl (lit< tt) d30)
    (e₃ ∙ row (terms 2) _ n (c / 2) (is_odd (c / 2)) refl (lit< tt) d29)
    (e₄ ∙ row (terms 3) _ n c (is_odd (c / 1)) refl (lit< tt) d30)
    (e₅ ∙ row (terms 4) _ n c (is_odd (c / 1)) refl (lit< tt) d30)
    (e₆ ∙ row (terms 5) _ n (c / 2) (is_odd (c / 2)) refl (lit< tt) d29)

-- ---- data, turned over or not

flat : (b : Bool) → bits 24 (val b * 16777215) ≡ replicate 24 b
unfolding bits
flat true = refl
flat false = refl

pub turned-law : (c n : ℕ) → bit_xor (n % 16777216) (c % 2 * 16777215) ≡ number (turned_by (d30* (bits 2 c)) (bits 24 n))
unfolding bits turned_by
turned-law c n =
    sym (mod-eq_of_lt (xor_lt 24 (n % 2 ^ 24) (c % 2 * 16777215) (mod-lt n (pow_pos 24)) (omega arith)))
    ∙ sym (number-bits 24 (bit_xor (n % 2 ^ 24) (c % 2 * 16777215)))
    ∙ ap number
    (bits-xor 24 (n % 2 ^ 24) (c % 2 * 16777215)
    ∙ ap₂ ◌⊕◌ (bits-mod 24 n) (ap (λ k. bits 24 (k * 16777215)) (sym (val-odd c) ∙ ap (λ k. val (is_odd k)) (sym (div-one c))) ∙ flat (is_odd (c / 1))))

-- a window by its parts
whole : (w : ℕ) → bits 32 w ≡ bits 2 (w / 2 ^ 30) ++ (bits 24 (w / 2 ^ 6) ++ bits 6 w)
whole w = bits-split 2 30 w ∙ ap (λ l. bits 2 (w / 2 ^ 30) ++ l) (bits-split 24 6 w)

pub data-law : (w : ℕ) → number (turned_by (d30* (bits 2 (w / 2 ^ 30))) (bits 24 (w / 2 ^ 6))) ≡ number (data_of (bits 32 w))
unfolding bits turned_by data_of
data-law w = ap (λ l. number (data_of l)) (sym (whole w))

-- ---- the remainder

ends : (w : ℕ) → received (bits 32 w) ≡ bits 6 w
unfolding bits received
ends w = refl

-- what the carried bits and the data ask for
asked : (w : ℕ) → computed (bits 32 w) ≡ parity (d29* (bits 2 (w / 2 ^ 30))) (d30* (bits 2 (w / 2 ^ 30))) (data_of (bits 32 w))
unfolding bits computed
asked w = ap (λ l. parity (d29* l) (d30* l) (data_of (bits 32 w))) (whole w)

parts : (w : ℕ) → number (remainder_of (bits 32 w)) ≡ bit_xor (number (received (bits 32 w))) (number (computed (bits 32 w)))
unfolding remainder_of received computed parity
parts w = number-xor 6 (received (bits 32 w)) (computed (bits 32 w)) refl refl

-- received parity against that of the window's data d
pub remainder-law : (w d : ℕ) → d ≡ number (data_of (bits 32 w))
    → bit_xor (w % 64) (number (parity (d29* (bits 2 (w / 2 ^ 30))) (d30* (bits 2 (w / 2 ^ 30))) (bits 24 d))) ≡ number (remainder_of (bits 32 w))
remainder-law w d is =
    ap₂ (λ n ds. bit_xor n (number (parity (d29* (bits 2 (w / 2 ^ 30))) (d30* (bits 2 (w / 2 ^ 30))) ds)))
    (sym (ap number (ends w) ∙ number-bits 6 w)) (ap (bits 24) is ∙ data-number (bits 32 w))
    ∙ ap (λ ps. bit_xor (number (received (bits 32 w))) (number ps)) (sym (asked w))
    ∙ sym (parts w)

-- ---- the word to send

pub sent-law : (a b : Bool) (ds : List Bool) → number (turned_by b ds) * 64 + number (parity a b ds) ≡ number (sent a b ds)
unfolding sent
sent-law a b ds = sym (number_append (turned_by b ds) (parity a b ds))

pub turned_lt : (b : Bool) (ds : List Bool) → number (turned_by b ds) < 2 ^ 24
unfolding turned_by
turned_lt b ds = number_lt (turned_by b ds)

pub parity-lt : (a b : Bool) (ds : List Bool) → number (parity a b ds) < 2 ^ 6
unfolding parity
parity-lt a b ds = number_lt (parity a b ds)

-- within its widths no word is refused
pub word-answers : (c d : ℕ) → c < 4 → d < 2 ^ 24 → word_of c d ≡ Ok (number (sent_at c d))
word-answers c d hc hd = simp (lt-leb 4 c hc, lt-leb (2 ^ 24) d hd)

pub never-refused : (c d : ℕ) (n : Refusal) → c < 4 → d < 2 ^ 24 → word_of c d ≡ Err n → ⊥
never-refused c d n hc hd e =
    let answered = word-answers c d hc hd in
    let never : ◌≡◌ {A = ℕ} 0 1 = cc in
    omega arith
