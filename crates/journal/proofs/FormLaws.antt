-- Records of every form, over the form's mark and its bytes a word: a record starts well and gives its words back, whatever follows;
-- and bytes that start well are the record of their words. Assumes nothing.
use mathlib.Core.Path.{◌≡◌, refl, sym, ap, ap₂, ◌∙◌}
use mathlib.Core.Bool.{Bool, true, false, not, ◌&&◌, ◌||◌, and-eq-true_iff}
use mathlib.Core.List.{List, [], ◌∷◌, ◌++◌}
use Prim.Native.Nat.{ℕ, suc, ◌+◌, ◌*◌, ◌≤◌}
use native.Mathlib.Nat.{mul-suc}
use native.Mathlib.Omega.{arith}
use lib.Dec.{ltb, eqb}
use lib.ListN.{length, take, drop, get_or, replicate, length-append, length-drop}
use lib.Seq.{take-add}
use borrow.Author.Tests.{ltb-false, eqb-true, not-false, le-ltb, eq-eqb, ne_eqb}
use Rattle.std.specs.List.{starts_with}
use Rattle.answer.specs.Order.{in_order, NoneApplies}
use Rattle.answer.proofs.OrderLaws.{order-answers, order-map, says_none}
use Rattle.bits.specs.Fields.{Fit, AreBytes}
use Rattle.bits.proofs.FieldLaws.{fit-drop}
use Rattle.frame.proofs.WidthLaws.{both_false}
use Rattle.journal.specs.Bytes.{written, words_from}
use Rattle.journal.specs.Forms.{mark, record_with, length_with, n_byte, words_after, unmarked, start_order, start_by, says_start}
use Rattle.journal.specs.declared.form.Start.{Start}
use Rattle.journal.specs.declared.form.Start.TheVariants.{N, Refused}
use Rattle.journal.proofs.WordLaws.{length-written, words-written, written-words}

-- the bytes after a record's start: k for each of N + 2 words
words_size_lem : (k n : ℕ) → length_with k n ≡ 3 + k * suc (suc n)
words_size_lem k n = omega (arith, mul-suc k (suc n), mul-suc k n)

-- the bytes begin with the two of the mark
pub unmarked-is : (form : ℕ) (bs : List ℕ) → not (starts_with eqb bs (mark form)) ≡ unmarked form bs
unfolding unmarked
unmarked-is form [] = refl
unmarked-is form (a ∷ []) = ap not (none (eqb 0x52 a))
  where
    none : (t : Bool) → (t && false) ≡ false
    none true = refl
    none false = refl
unmarked-is form (a ∷ b ∷ bs) =
    ap not (ap₂ ◌&&◌ (turned 0x52 a) (all (eqb form b) ∙ turned form b))
    ∙ ap (λ t. t || not (eqb a 0x52 && eqb b form)) (sym (le-ltb (suc (suc (length bs))) 2 (omega arith)))
  where
    all : (t : Bool) → (t && true) ≡ t
    all true = refl
    all false = refl

    turned : (m n : ℕ) → eqb m n ≡ eqb n m
    turned m n = go (eqb m n) refl
      where
        go : (t : Bool) → eqb m n ≡ t → eqb m n ≡ eqb n m
        go true e = e ∙ sym (eq-eqb n m (sym (eqb-true m n e)))
        go false e = e ∙ sym (ne_eqb n m (λ h. absurd (let z = sym e ∙ eq-eqb m n (sym h) in cc)))

-- ---- what the start of a record answers

module _ (form k : ℕ) (bs : List ℕ) where
  pub start-refused : {A : Type 0} (refuse : ℕ → A) (answer : A) {number : ℕ} → start_by form k bs ≡ Refused number
      → in_order (start_order form k bs) refuse answer ≡ refuse number
  start-refused {A} refuse answer e = sym (order-map go (start_order form k bs) Refused (N (n_byte bs))) ∙ ap go e
    where
      go : Start → A
      go (N n) = answer
      go (Refused n) = refuse n

  module _ {n : ℕ} (e : start_by form k bs ≡ N n) where
    pub start-clear : NoneApplies (start_order form k bs)
    start-clear = says_none says_start Refused (λ j. refl) (N (n_byte bs)) (start_order form k bs) (ap says_start e)

    pub start-n : n ≡ n_byte bs
    start-n = let a = order-answers Refused (N (n_byte bs)) (start_order form k bs) start-clear in cc (e, a)

    -- what is answered for N and the words after it
    pub start-passed : {A : Type 0} (refuse : ℕ → A) (rest : ℕ → List ℕ → A)
        → in_order (start_order form k bs) refuse (rest (n_byte bs) (words_after k bs)) ≡ rest n (words_from k (suc (suc n)) (drop 3 bs))
    start-passed refuse rest =
        order-answers refuse (rest (n_byte bs) (words_after k bs)) (start_order form k bs) start-clear
        ∙ ap (λ m. rest m (words_from k (suc (suc m)) (drop 3 bs))) (sym start-n)

  module _ (clear : NoneApplies (start_order form k bs)) where
    pub start-few : n_byte bs ≤ 31
    start-few = ltb-false 31 (n_byte bs) clear.1.1.0

    pub start-whole : length_with k (n_byte bs) ≤ length bs
    start-whole = ltb-false (length bs) (length_with k (n_byte bs)) clear.1.1.1.0

-- ---- from words to bytes and back

pub length-with : (form k n : ℕ) (ws : List ℕ) → length ws ≡ suc (suc n) → length (record_with form k n ws) ≡ length_with k n
length-with form k n ws l = omega (arith, length-written k ws ∙ ap (λ m. k * m) l, words_size_lem k n)

module _ (form k n : ℕ) (ws rest : List ℕ) (l : length ws ≡ suc (suc n)) where
  pub record-starts : n ≤ 31 → NoneApplies (start_order form k (record_with form k n ws ++ rest))
  unfolding unmarked
  record-starts h = (
    rw (le-ltb size 2 (omega arith), eq-eqb form form refl),
    (le-ltb size 3 (omega arith), (le-ltb 31 n h, (le-ltb size (length_with k n) long, tt))),
  )
    where
      size : ℕ
      size = suc (suc (suc (length (written k ws ++ rest))))

      long : length_with k n ≤ suc (suc (suc (length (written k ws ++ rest))))
      long = omega (arith, length-append (written k ws) rest, length-with form k n ws l)

  pub record-words : Fit (replicate (length ws) (8 * k)) ws → words_after k (record_with form k n ws ++ rest) ≡ ws
  record-words f = ap (λ m. words_from k m (written k ws ++ rest)) (sym l) ∙ words-written k ws rest f

-- ---- from bytes to words and back

-- the first three of at least three bytes
first_three : (bs : List ℕ) → 3 ≤ length bs → take 3 bs ≡ get_or bs 0 0 ∷ get_or bs 1 0 ∷ get_or bs 2 0 ∷ []
first_three [] h = absurd (omega arith)
first_three (a ∷ []) h = absurd (omega arith)
first_three (a ∷ b ∷ []) h = absurd (omega arith)
first_three (a ∷ b ∷ c ∷ bs) h = refl

module _ (form k : ℕ) (bs : List ℕ) (clear : NoneApplies (start_order form k bs)) where
  marked : mark form ≡ get_or bs 0 0 ∷ get_or bs 1 0 ∷ []
  unfolding unmarked
  marked =
      let first = eqb (get_or bs 0 0) 0x52 in
      let second = eqb (get_or bs 1 0) form in
      let m = not-false (first && second) (both_false (ltb (length bs) 2) (not (first && second)) clear.0).1 in
      let t = (and-eq-true_iff first second).0 m in
      ap₂ (λ a b. a ∷ b ∷ []) (sym (eqb-true (get_or bs 0 0) 0x52 t.0)) (sym (eqb-true (get_or bs 1 0) form t.1))

  -- every byte of the record
  pub record-taken : AreBytes bs → record_with form k (n_byte bs) (words_after k bs) ≡ take (length_with k (n_byte bs)) bs
  record-taken f =
      ap₂ (λ m ws. m ++ (n_byte bs ∷ ws)) marked (written-words k (suc (suc (n_byte bs))) (drop 3 bs) (fit-drop 3 bs f) whole)
      ∙ ap (λ m. m ++ take (k * suc (suc (n_byte bs))) (drop 3 bs)) (sym (first_three bs (ltb-false (length bs) 3 clear.1.0)))
      ∙ sym (take-add 3 (k * suc (suc (n_byte bs))) bs)
      ∙ ap (λ j. take j bs) (sym (words_size_lem k (n_byte bs)))
    where
      whole : k * suc (suc (n_byte bs)) ≤ length (drop 3 bs)
      whole = omega (arith, length-drop 3 bs, start-whole form k bs clear, words_size_lem k (n_byte bs))
