-- The parity rule in the table's terms: row by row, and for what is sent. Assumes nothing.
use mathlib.Core.Path.{◌≡◌, refl, sym, ap, ap₂, subst, ◌∙◌}
use mathlib.Core.Bool.{Bool, true}
use mathlib.Core.Logic.{◌⊎◌, inl, inr}
use mathlib.Core.List.{List, [], ◌∷◌, ◌++◌, map, head-eq_of_cons-eq}
use mathlib.Core.List.Memᴰ
use mathlib.Core.List.{tail-eq_of_cons-eq, Memᴰ}
use Prim.Native.Nat.{ℕ, ◌^◌, ◌<◌}
use native.Mathlib.Omega.{arith}
use lib.ListN.{length, take, drop}
use borrow.Author.Tests.{leb-false}
use Rattle.answer.specs.Order.{answers}
use Rattle.bits.specs.Bits.{bits, number}
use Rattle.bits.proofs.Numbers.{bits-number, number_lt, length-bits}
use Rattle.word.specs.Word.{Row, rows, parity_bit, d29*, d30*, D, data_of, received, computed, parity, passes, sent}
use Rattle.word.specs.Answer.{sent_at, word_of, says_sent}
use Rattle.word.proofs.Sending.{data-number, length-sent, length-data_of, data-sent, passes-sent, only-sent}
use Rattle.word.proofs.Computes.{word-answers}
use Rattle.promises.proofs.CarriesItsNumber.{says-inj, none_told, carries-its-number}

-- two maps over a list are equal exactly when they are at each of its elements
pub at_each : {A : Type 0} (f g : A → Bool) (xs : List A) → map f xs ≡ map g xs → (x : A) → Memᴰ x xs → f x ≡ g x
at_each f g [] e x m = absurd (Memᴰ.not-nil m)
at_each f g (y ∷ xs) e x m = go (Memᴰ.cases_cons m) (at_each f g xs (tail-eq_of_cons-eq e) x)
  where
    go : (x ≡ y) ⊎ Memᴰ x xs → (Memᴰ x xs → f x ≡ g x) → f x ≡ g x
    go (inl p) later = ap f p ∙ head-eq_of_cons-eq e ∙ ap g (sym p)
    go (inr n) later = later n

pub from_each : {A : Type 0} (f g : A → Bool) (xs : List A) → ((x : A) → Memᴰ x xs → f x ≡ g x) → map f xs ≡ map g xs
from_each f g [] h = refl
from_each f g (y ∷ xs) h = ap₂ ◌∷◌ (h y (Memᴰ.head refl)) (from_each f g xs (λ x m. h x (Memᴰ.tail m)))

pub received-rows : (w : List Bool) → received w ≡ map (λ (r : Row). D w r.0) rows
unfolding received
received-rows w = refl

pub computed-rows : (w : List Bool) → computed w ≡ map (parity_bit (d29* w) (d30* w) (data_of w)) rows
unfolding computed parity
computed-rows w = refl

-- a window begins with its two carried bits
two : (c : ℕ) (w : List Bool) → bits 2 c ++ w ≡ d29* (bits 2 c) ∷ d30* (bits 2 c) ∷ w
unfolding bits
two c w = refl

-- what the encoder says for data that are not refused
said : (c d : ℕ) → c < 4 → d < 2 ^ 24 → says_sent (word_of c d) ≡ answers (sent_at c d)
said c d hc hd =
    ap says_sent (word-answers c d hc hd)
    ∙ ap answers (bits-number 30 (sent_at c d) (length-sent (d29* (bits 2 c)) (d30* (bits 2 c)) (bits 24 d)))

pub sent_back : (c d : ℕ) (w : List Bool) → says_sent (word_of c d) ≡ answers w → (passes (bits 2 c ++ w) ≡ true) × (data_of (bits 2 c ++ w) ≡ bits 24 d)
sent_back c d w e =
    subst (λ l. (passes l ≡ true) × (data_of l ≡ bits 24 d)) (sym (ap (λ l. bits 2 c ++ l) is ∙ two c (sent_at c d))) (
      passes-sent (d29* (bits 2 c)) (d30* (bits 2 c)) (bits 24 d) (length-bits 24 d),
      data-sent (d29* (bits 2 c)) (d30* (bits 2 c)) (bits 24 d) (length-bits 24 d),
    )
  where
    is : w ≡ sent_at c d
    is =
        let none = none_told (carries-its-number.word-of c d) w e in
        says-inj (sym e ∙ said c d (leb-false 4 c none.0) (leb-false (2 ^ 24) d none.1.0))

pub only-said : (w : List Bool) → length w ≡ 32 → passes w ≡ true → says_sent (word_of (number (take 2 w)) (number (data_of w))) ≡ answers (drop 2 w)
only-said [] h p = absurd (omega arith)
only-said (a ∷ []) h p = absurd (omega arith)
only-said (a ∷ b ∷ w) h p =
    said c d (number_lt (a ∷ b ∷ [])) (subst (λ k. number (data_of (a ∷ b ∷ w)) < 2 ^ k) (length-data_of (a ∷ b ∷ w)) (number_lt (data_of (a ∷ b ∷ w))))
    ∙ ap answers
    (ap₂ (λ x ds. sent (d29* x) (d30* x) ds) (bits-number 2 (a ∷ b ∷ []) refl) (data-number (a ∷ b ∷ w))
    ∙ sym (tail-eq_of_cons-eq (tail-eq_of_cons-eq (only-sent (a ∷ b ∷ w) h p))))
  where
    c : ℕ
    c = number (a ∷ b ∷ [])

    d : ℕ
    d = number (data_of (a ∷ b ∷ w))
