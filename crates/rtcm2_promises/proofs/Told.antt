-- What a call of the library says by its number and leaves in its places, by what the reader's call answered. Assumes nothing.
use mathlib.Core.Path.{◌≡◌, refl, sym, ap, ◌∙◌}
use mathlib.Core.Bool.{true, false, cond, true≢false}
use mathlib.Core.List.{List, [], ◌∷◌, ◌++◌}
use Prim.Native.Nat.{ℕ}
use borrow.Author.Tests.{ne_eqb}
use Rattle.answer.specs.Order.{Says, refuses, answers, Check}
use Rattle.frame.specs.Widths.{any_of}
use Rattle.frame.proofs.WidthLaws.{both_false}
use Rattle.reader.specs.Reading.{says_answer, carrying}
use Rattle.reader.specs.declared.Answer.{Answer}
use Rattle.reader.specs.declared.Answer.TheVariants.{Done, Refused}
use Rattle.rtcm2.specs.Answer.{number_of, left}
use Rattle.rtcm2.specs.Line.{done_by}
use Rattle.promises.specs.CarriesItsNumber.{Ordered, check_numbers, outside_table}
use Rattle.promises.specs.ChangesNeither.{Keeps}
use Rattle.rtcm2_promises.specs.LineCalls.{says_number}

-- ---- a refusal's number is never 0

-- the number of a check of an order is one of the table's
number_in : (front back : List Check) (n : ℕ) → any_of outside_table (check_numbers (front ++ ((true, n) ∷ back))) ≡ false → outside_table n ≡ false
number_in [] back n e = (both_false (outside_table n) (any_of outside_table (check_numbers back)) e).0
number_in (c ∷ front) back n e =
    number_in front back n (both_false (outside_table c.1) (any_of outside_table (check_numbers (front ++ ((true, n) ∷ back)))) e).1

never-0 : {A : Type 0} {numbers : List ℕ} {cs : List Check} {s : Says A} → Ordered numbers cs s → (n : ℕ) → s ≡ refuses n → n ≡ 0 → ⊥
never-0 o n e z =
    let f = o.only n e in
    let t = number_in f.front f.back n
    (ap (λ l. any_of outside_table (check_numbers l)) (sym f.split) ∙ ap (any_of outside_table) o.numbered ∙ o.table) in
    true≢false (sym (ap outside_table z) ∙ t)

-- ---- x is what the reader's call left, and a its answer

module _ {A : Type 0} (a : Answer) (x : A) {s : Says A} (e : s ≡ done_by a x) where
  -- the number, and the values that the places hold, say the answer
  pub number-told : {B : Type 0} {numbers : List ℕ} {cs : List Check} → Ordered numbers cs (says_answer a) → (places : Says A → B)
      → says_number (number_of s) (places s) ≡ carrying (places (answers x)) (says_answer a)
  number-told o places = ap (λ t. says_number (number_of t) (places t)) e ∙ go a (never-0 o)
    where
      go : (b : Answer) → ((n : ℕ) → says_answer b ≡ refuses n → n ≡ 0 → ⊥)
          → says_number (number_of (done_by b x)) (places (done_by b x)) ≡ carrying (places (answers x)) (says_answer b)
      go Done z = refl
      go (Refused n) z = ap (λ t. cond t (answers (places (refuses n))) (refuses n)) (ne_eqb n 0 (z n refl))

  -- a place holds what is put there, and after a refusal what the answer would have left
  pub left-told : {B : Type 0} (put : A → B) (held next : B) → put x ≡ next → Keeps (says_answer a) next held → left s put held ≡ next
  left-told put held next done same = ap (λ t. left t put held) e ∙ go a same
    where
      go : (b : Answer) → Keeps (says_answer b) next held → left (done_by b x) put held ≡ next
      go Done k = done
      go (Refused n) k = sym (k n refl)

-- an answer without a value
pub no_value : (a : Answer) → carrying tt (says_answer a) ≡ says_answer a
no_value Done = refl
no_value (Refused n) = refl
