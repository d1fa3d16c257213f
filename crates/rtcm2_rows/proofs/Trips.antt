-- Put, then read, and read, then put, over the row: a row and a list of rows. A row owes the three laws of `Faithful` on its bytes.
-- Assumes nothing.
use mathlib.Core.Path.{◌≡◌, refl, sym, ap, ap₂, subst, ◌∙◌}
use mathlib.Core.Bool.{Bool, true, false, cond}
use mathlib.Core.List.{List, [], ◌∷◌, ◌++◌, append_assoc}
use Prim.Native.Nat.{ℕ, zero, suc, ◌+◌, ◌*◌, ◌≤◌, ◌<◌}
use native.Mathlib.Nat.{zero-mul, mul-mod_left, mul-div_cancel}
use native.Mathlib.Omega.{arith}
use lib.Dec.{ltb}
use lib.ListN.{length, take, drop, get_or, length-append, length-drop, take-append-drop}
use lib.Seq.{length-take-le, take_at, drop_at, take-add}
use borrow.Author.Tests.{le-ltb, ltb-false}
use Rattle.bits.specs.Fields.{Fit, octets, AreBytes}
use Rattle.bits.proofs.FieldLaws.{length-fit, fit-take, fit-drop}
use Rattle.record_fields.specs.Coding.{Coding, Each}
use Rattle.record_fields.proofs.Faithful.{Faithful}
use Rattle.rtcm2_rows.specs.Rows.{count_of, row_size, entry_of, entries_from, row_bytes, row_after}
use Rattle.rtcm2_rows.proofs.RowLaws.{more, count-whole}

-- a byte, or 0 past the last
pub byte_small : (bs : List ℕ) (j : ℕ) → AreBytes bs → get_or bs j 0 < 256
byte_small [] j f = omega arith
byte_small (b ∷ bs) zero f = f.0
byte_small (b ∷ bs) (suc j) f = byte_small bs j f.1

-- what holds of an entry of any bytes holds of each that is read
pub each_read : {A : Type 0} (k : Coding A) (T : A → Type 0) → ((bs : List ℕ) → AreBytes bs → T (entry_of k bs))
    → (n c : ℕ) (bs : List ℕ) → AreBytes bs → Each T (take c (entries_from k n bs))
unfolding entries_from
each_read k T t n zero bs b = tt
each_read k T t zero (suc c) bs b = tt
each_read k T t (suc n) (suc c) bs b = (t bs b, each_read k T t n c (drop (row_size k) bs) (fit-drop (row_size k) bs b))

module _ {A : Type 0} (k : Coding A) (Good : A → Type 0) (law : Faithful k Good) where
  length-codes : (e : A) → Good e → length (k.codes e) ≡ row_size k
  length-codes e g = length-fit k.widths (k.codes e) (law.fit-codes e g)

  -- ---- put, then read

  -- ROW PUT, ROW READ: the entry
  pub row-put-read : (e : A) (bs : List ℕ) → Good e → row_size k ≤ length bs → entry_of k (row_after k e bs) ≡ e
  row-put-read e bs g h =
      rw (le-ltb (length bs) (row_size k) h)
      (ap k.meant (take_at (k.codes e) (drop (row_size k) bs) (row_size k) (length-codes e g)) ∙ law.meant-codes e g)

  -- ROWS PUT, ROWS READ: how many, and each
  length-bytes : (es : List A) → Each Good es → length (row_bytes k es) ≡ length es * row_size k
  unfolding row_bytes
  length-bytes [] g = sym (zero-mul (row_size k))
  length-bytes (e ∷ es) g =
      length-append (k.codes e) (row_bytes k es) ∙ ap₂ ◌+◌ (length-codes e g.0) (length-bytes es g.1) ∙ sym (more k (length es))

  pub rows-counted : (es : List A) → 0 < row_size k → Each Good es → count_of (row_size k) (length (row_bytes k es)) ≡ length es
  rows-counted es s g =
      ap (count_of (row_size k)) (length-bytes es g)
      ∙ count-whole (row_size k) (length es * row_size k) (λ z. omega arith) (mul-mod_left (length es) (row_size k))
      ∙ mul-div_cancel (length es) s

  pub rows-put-read : (es : List A) (rest : List ℕ) → Each Good es → entries_from k (length es) (row_bytes k es ++ rest) ≡ es
  unfolding row_bytes entries_from
  rows-put-read [] rest g = refl
  rows-put-read (e ∷ es) rest g =
      ap (λ l. entry_of k l ∷ entries_from k (length es) (drop (row_size k) l)) (append_assoc (k.codes e) (row_bytes k es) rest)
      ∙ ap₂ (λ r l. k.meant r ∷ entries_from k (length es) l)
      (take_at (k.codes e) (row_bytes k es ++ rest) (row_size k) (length-codes e g.0))
      (drop_at (k.codes e) (row_bytes k es ++ rest) (row_size k) (length-codes e g.0))
      ∙ ap₂ ◌∷◌ (law.meant-codes e g.0) (rows-put-read es rest g.1)

  -- ---- read, then put

  module _ (eight : k.widths ≡ octets (row_size k)) where
    pub row-again : (bs : List ℕ) → AreBytes bs → row_size k ≤ length bs → k.codes (entry_of k bs) ≡ take (row_size k) bs
    row-again bs b h = law.codes-meant (take (row_size k) bs) (subst (λ ws. Fit ws (take (row_size k) bs)) (sym eight) fits)
      where
        fits : Fit (octets (row_size k)) (take (row_size k) bs)
        fits = subst (λ n. Fit (octets n) (take (row_size k) bs)) (length-take-le (row_size k) bs h) (fit-take (row_size k) bs b)

    -- ROW READ, ROW PUT: no byte changes
    pub row-read-put : (bs : List ℕ) → AreBytes bs → row_after k (entry_of k bs) bs ≡ bs
    row-read-put bs b = go (ltb (length bs) (row_size k)) refl
      where
        go : (t : Bool) → ltb (length bs) (row_size k) ≡ t → cond t bs (k.codes (entry_of k bs) ++ drop (row_size k) bs) ≡ bs
        go true e = refl
        go false e = ap (λ l. l ++ drop (row_size k) bs) (row-again bs b (ltb-false (length bs) (row_size k) e)) ∙ take-append-drop (row_size k) bs

    -- ROWS READ, ROWS PUT: the bytes of the n rows
    pub rows-read-put : (n : ℕ) (bs : List ℕ) → AreBytes bs → n * row_size k ≤ length bs → row_bytes k (entries_from k n bs) ≡ take (n * row_size k) bs
    unfolding row_bytes entries_from
    rows-read-put zero bs b h = rw (zero-mul (row_size k))
    rows-read-put (suc n) bs b h =
        ap₂ ◌++◌ (row-again bs b (omega (arith, more k n)))
        (rows-read-put n (drop (row_size k) bs) (fit-drop (row_size k) bs b) (omega (arith, more k n, length-drop (row_size k) bs)))
        ∙ sym (take-add (row_size k) (n * row_size k) bs)
        ∙ ap (λ j. take j bs) (sym (more k n))
