-- What a call that counts entries, or puts one as a row, leaves: all follows from what there was. Assumes nothing.
use mathlib.Core.Path.{◌≡◌, refl, subst}
use mathlib.Core.List.{List}
use Prim.Native.Nat.{ℕ}
use Rattle.answer.specs.Order.{Says, refuses}
use Rattle.record_fields.specs.Coding.{Coding}
use Rattle.rtcm2.specs.Answer.{number_of, left}
use Rattle.rtcm2.specs.Rows.{row_to, row_held}

-- the answer and the count that are left
abbrev pub Counts : ℕ → ℕ → ℕ → Says ℕ → Type 0
Counts count answer held said = (answer ≡ number_of said) × (held ≡ left said (λ k. k) count)

module _ (count : ℕ) where
  pub counts-refused : {number : ℕ} {said : Says ℕ} → refuses number ≡ said → Counts count number count said
  counts-refused {number} e = subst (Counts count number count) e (refl, refl)

  pub counts-as : {answer held : ℕ} {said said' : Says ℕ} → said ≡ said' → Counts count answer held said → Counts count answer held said'
  counts-as {answer} {held} e c = subst (Counts count answer held) e c

module _ {A : Type 0} (k : Coding A) where
  -- the answer and the bytes that are left
  abbrev pub Puts : List ℕ → ℕ → List ℕ → Says A → Type 0
  Puts bytes answer held said = (answer ≡ number_of (row_to k said bytes)) × (held ≡ row_held k said bytes)

  module _ (bytes : List ℕ) where
    pub puts-refused : {number : ℕ} {said : Says A} → refuses number ≡ said → Puts bytes number bytes said
    puts-refused {number} e = subst (Puts bytes number bytes) e (refl, refl)

    pub puts-as : {answer : ℕ} {held : List ℕ} {said said' : Says A} → said ≡ said' → Puts bytes answer held said → Puts bytes answer held said'
    puts-as {answer} {held} e p = subst (Puts bytes answer held) e p
