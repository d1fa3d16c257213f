-- How many bytes of a record mending can change: one a word, and N. Assumes nothing.
use Rattle.std.proofs.Common.{◌≡◌, ℕ, zero, suc, ◌+◌, ◌*◌, ◌<◌, ◌≤◌, Bool, true, false, cond, not, ◌&&◌, eqb, ltb, List, [], ◌∷◌, ◌++◌, map, length, get_or, take, drop, sym, refl, ap, ◌∙◌, subst, ap₂, mod-eq_of_lt, arith, length-append, length-drop, take-append-drop, length-take-le, eq-eqb, eqb-true}
use mathlib.Core.Bool.{and-eq-true_iff}
use borrow.Author.Tests.{eqb-false, not-false}
use Rattle.bits.specs.Bits.{◌⊻◌, val, differ, bits, number}
use Rattle.bits.specs.Fields.{Fit, packed, octets, AreBytes}
use Rattle.bits.proofs.Xor.{xor-zero}
use Rattle.bits.proofs.Numbers.{length-bits, number-bits}
use Rattle.bits.proofs.FieldLaws.{packed-fields, fits-fields, fit-take, fit-drop}
use Rattle.frame.proofs.WidthLaws.{both_false}
use Rattle.journal.specs.Bytes.{bytes_of, word_in, written, words_from}
use Rattle.journal.specs.Forms.{unmarked}
use Rattle.journal.proofs.ByteLaws.{length-bytes, bytes_word}
use Rattle.mender_words.specs.Words.{mended_to}
use Rattle.mender_words.proofs.Turned.{mended-near}
use Rattle.mender.specs.Records.{record_for}
use Rattle.mender.specs.Report.{Change, changes_from, differs}
use Rattle.mender.proofs.ChangeLaws.{first_count}

-- ---- bytes that differ are no more than bits that differ

differ-append : (a b c d : List Bool) → length a ≡ length c → differ (a ++ b) (c ++ d) ≡ differ a c + differ b d
differ-append [] b [] d l = omega arith
differ-append [] b (y ∷ c) d l = absurd (omega arith)
differ-append (x ∷ a) b [] d l = absurd (omega arith)
differ-append (x ∷ a) b (y ∷ c) d l = omega (arith, differ-append a b c d (omega arith))

differ-none : (a b : List Bool) → length a ≡ length b → differ a b ≡ 0 → a ≡ b
differ-none [] [] l h = refl
differ-none [] (y ∷ b) l h = absurd (omega arith)
differ-none (x ∷ a) [] l h = absurd (omega arith)
differ-none (x ∷ a) (y ∷ b) l h = ap₂ ◌∷◌ (xor-zero x y (same (x ⊻ y) (omega arith))) (differ-none a b (omega arith) (omega arith))
  where
    same : (t : Bool) → val t ≡ 0 → t ≡ false
    same true e = absurd (omega arith)
    same false e = refl

byte-bits : (x y : ℕ) → x < 256 → y < 256 → differs x y ≤ differ (bits 8 x) (bits 8 y)
byte-bits x y h k = go (eqb x y) refl (differ (bits 8 x) (bits 8 y)) refl
  where
    equal : differ (bits 8 x) (bits 8 y) ≡ 0 → x ≡ y
    equal e =
        sym (number-bits 8 x ∙ mod-eq_of_lt h) ∙ ap number (differ-none (bits 8 x) (bits 8 y) (length-bits 8 x ∙ sym (length-bits 8 y)) e)
        ∙ number-bits 8 y ∙ mod-eq_of_lt k

    go : (t : Bool) → eqb x y ≡ t → (n : ℕ) → differ (bits 8 x) (bits 8 y) ≡ n → cond t 0 1 ≤ n
    go true e n d = omega arith
    go false e zero d = absurd (eqb-false x y e (equal d))
    go false e (suc n) d = omega arith

count-bytes : (at : ℕ) (xs ys : List ℕ) → AreBytes xs → AreBytes ys → length xs ≡ length ys
    → length (changes_from at xs ys) ≤ differ (packed (octets (length xs)) xs) (packed (octets (length ys)) ys)
unfolding changes_from
count-bytes at [] ys fx fy l = omega arith
count-bytes at (x ∷ xs) [] fx fy l = omega arith
count-bytes at (x ∷ xs) (y ∷ ys) fx fy l = omega (
  arith,
  first_count at x y xs ys,
  byte-bits x y fx.0 fy.0,
  count-bytes (suc at) xs ys fx.1 fy.1 (omega arith),
  differ-append (bits 8 x) (packed (octets (length xs)) xs) (bits 8 y) (packed (octets (length ys)) ys) (length-bits 8 x ∙ sym (length-bits 8 y)),
)

-- ---- a word, and words one after the other

word-packed : (v : ℕ) → packed (octets (length (bytes_of 4 v))) (bytes_of 4 v) ≡ bits 32 v
unfolding bytes_of
word-packed v = ap (λ n. packed (octets n) (bytes_of 4 v)) (length-bytes 4 v) ∙ packed-fields (octets 4) (bits 32 v) (length-bits 32 v)

word_fits : (v : ℕ) → AreBytes (bytes_of 4 v)
unfolding bytes_of
word_fits v = subst (λ n. Fit (octets n) (bytes_of 4 v)) (sym (length-bytes 4 v)) (fits-fields (octets 4) 0 (bits 32 v))

word-changes : (at v : ℕ) → length (changes_from at (bytes_of 4 v) (bytes_of 4 (mended_to v))) ≤ 1
word-changes at v = omega (
  arith,
  rw (word-packed v, word-packed (mended_to v)) at
      (count-bytes at (bytes_of 4 v) (bytes_of 4 (mended_to v)) (word_fits v) (word_fits (mended_to v)) (length-bytes 4 v ∙ sym (length-bytes 4 (mended_to v)))),
  mended-near v,
)

pub changes-append : (at : ℕ) (a b c d : List ℕ) → length a ≡ length c
    → changes_from at (a ++ b) (c ++ d) ≡ changes_from at a c ++ changes_from (at + length a) b d
unfolding changes_from
changes-append at [] b [] d l = ap (λ o. changes_from o b d) none
  where
    none : at ≡ at + 0
    none = omega arith
changes-append at [] b (y ∷ c) d l = absurd (omega arith)
changes-append at (x ∷ a) b [] d l = absurd (omega arith)
changes-append at (x ∷ a) b (y ∷ c) d l =
    go (eqb x y) (changes_from (suc at) (a ++ b) (c ++ d)) (changes_from (suc at) a c) (changes_from (at + suc (length a)) b d)
    (record { offset = at; old = x; new = y })
    (changes-append (suc at) a b c d (omega arith) ∙ ap (λ o. changes_from (suc at) a c ++ changes_from o b d) more)
  where
    more : suc at + length a ≡ at + suc (length a)
    more = omega arith

    go : (t : Bool) (r s u : List Change) (e : Change) → r ≡ s ++ u → cond t r (e ∷ r) ≡ cond t s (e ∷ s) ++ u
    go true r s u e h = h
    go false r s u e h = ap (λ l. e ∷ l) h

-- against nothing there is no change
none-changed : (at : ℕ) (xs : List ℕ) → length (changes_from at xs []) ≡ 0
unfolding changes_from
none-changed at [] = refl
none-changed at (x ∷ xs) = refl

few_words : (m at : ℕ) (bs : List ℕ) → AreBytes bs → 4 * m ≤ length bs → length (changes_from at bs (written 4 (map mended_to (words_from 4 m bs)))) ≤ m
unfolding written words_from
few_words zero at bs f h = omega (arith, none-changed at bs)
few_words (suc m) at bs f h = omega (
  arith,
  ap (λ x. length (changes_from at x (bytes_of 4 (mended_to v) ++ later))) (sym (take-append-drop 4 bs) ∙ ap (λ x. x ++ drop 4 bs) (sym first)),
  ap length (changes-append at (bytes_of 4 v) (drop 4 bs) (bytes_of 4 (mended_to v)) later (length-bytes 4 v ∙ sym (length-bytes 4 (mended_to v)))),
  length-append (changes_from at (bytes_of 4 v) (bytes_of 4 (mended_to v))) (changes_from (at + length (bytes_of 4 v)) (drop 4 bs) later),
  word-changes at v,
  few_words m (at + length (bytes_of 4 v)) (drop 4 bs) (fit-drop 4 bs f) (omega (arith, length-drop 4 bs)),
)
  where
    v : ℕ
    v = word_in (take 4 bs)

    later : List ℕ
    later = written 4 (map mended_to (words_from 4 m (drop 4 bs)))

    first : bytes_of 4 (word_in (take 4 bs)) ≡ take 4 bs
    first = ap (λ k. bytes_of k (word_in (take 4 bs))) (sym (length-take-le 4 bs (omega arith))) ∙ bytes_word (take 4 bs) (fit-take 4 bs f)

-- ---- a record

-- the bytes of a mark
pub marked_by : (a b : ℕ) (bs : List ℕ) → unmarked 0x34 (a ∷ b ∷ bs) ≡ false → (a ≡ 0x52) × (b ≡ 0x34)
unfolding unmarked
marked_by a b bs m =
    let both = (both_false (ltb (length (a ∷ b ∷ bs)) 2) (not (eqb a 0x52 && eqb b 0x34)) m).1 in
    let t = (and-eq-true_iff (eqb a 0x52) (eqb b 0x34)).0 (not-false (eqb a 0x52 && eqb b 0x34) both) in
    (eqb-true a 0x52 t.0, eqb-true b 0x34 t.1)

differs-le : (x y : ℕ) → differs x y ≤ 1
differs-le x y = go (eqb x y)
  where
    go : (t : Bool) → cond t 0 1 ≤ 1
    go true = omega arith
    go false = omega arith

differs-same : (x y : ℕ) → x ≡ y → differs x y ≡ 0
differs-same x y e = ap (λ t. cond t 0 1) (eq-eqb x y e)

pub few-changes : (n at : ℕ) (bs : List ℕ) → AreBytes bs → n ≤ 31 → 4 * n + 11 ≤ length bs → unmarked 0x34 bs ≡ false
    → length (changes_from at bs (record_for n bs)) ≤ 34
unfolding record_for
few-changes n at [] f h l m = absurd (omega arith)
few-changes n at (a ∷ []) f h l m = absurd (omega arith)
few-changes n at (a ∷ b ∷ []) f h l m = absurd (omega arith)
few-changes n at (a ∷ b ∷ c ∷ bs) f h l m = omega (
  arith,
  first_count at a 0x52 (b ∷ c ∷ bs) (0x34 ∷ n ∷ words),
  differs-same a 0x52 (marked_by a b (c ∷ bs) m).0,
  first_count (suc at) b 0x34 (c ∷ bs) (n ∷ words),
  differs-same b 0x34 (marked_by a b (c ∷ bs) m).1,
  first_count (suc (suc at)) c n bs words,
  differs-le c n,
  few_words (suc (suc n)) (suc (suc (suc at))) bs f.1.1.1 (omega arith),
)
  where
    words : List ℕ
    words = written 4 (map mended_to (words_from 4 (suc (suc n)) bs))

-- what the prover knows of a slice
pub are-bytes : (bs : List ℕ) → ((i : ℕ) → get_or bs i 0 < 256) → AreBytes bs
are-bytes [] h = tt
are-bytes (b ∷ bs) h = (h 0, are-bytes bs (λ i. h (suc i)))
