-- Rows of bytes by a table: what one turn of each loop over the table does. Assumes nothing.
use mathlib.Core.Path.{◌≡◌, refl, sym, ap, ap₂, ◌∙◌}
use mathlib.Core.List.{List, [], ◌∷◌, ◌++◌, append-nil}
use Prim.Native.Nat.{ℕ, zero, suc, ◌+◌, ◌*◌, ◌≤◌, ◌<◌}
use native.Mathlib.Nat.{suc-mul, mul-le-mul_right}
use native.Mathlib.Numerals.{add-one}
use native.Mathlib.Omega.{arith}
use lib.ListN.{length, take, drop, get_or, set, length-take, length-replicate, drop_of_length-le}
use lib.Seq.{drop-cons, append_snoc, take-suc-set, take_all, get_or-take, sets}
use Rattle.bits.specs.Fields.{span}
use Rattle.record_fields.specs.Tables.{put_row, put_rows}
use Rattle.record_fields.specs.declared.Rows.{Rows}
use Rattle.rtcm2_state.specs.Numbers.{low_bytes, number_in}
use Rattle.rtcm2_rows.specs.Sizes.{sized_in, sized_bytes}
use Rattle.rtcm2_rows.specs.Rows.{row_size, count_of, entries_from}
use Rattle.rtcm2_rows.specs.Tables.{few_bytes, few, table_row}
use Rattle.rtcm2_rows.proofs.SizeLaws.{sized-none, sized-one, sized-take, put-none-left, put_one}
use Rattle.rtcm2_rows.proofs.RowLaws.{length-entries, entry_at, count_held}

pub length-few : (ks : List ℕ) → length (few ks) ≡ length ks
length-few [] = refl
length-few (k ∷ ks) = ap suc (length-few ks)

-- the bytes of a row
pub size-table : (ks : List ℕ) → span (few ks) ≡ row_size (table_row ks)
size-table ks = sym (length-replicate (span (few ks)) 8)

few-from : (ks : List ℕ) (i : ℕ) → i < length ks → drop i (few ks) ≡ few_bytes (get_or ks i 0) ∷ drop (suc i) (few ks)
few-from [] i h = absurd (omega arith)
few-from (k ∷ ks) zero h = refl
few-from (k ∷ ks) (suc i) h = few-from ks i (omega arith)

-- size number i, and those behind it
module _ (ks : List ℕ) (i size : ℕ) (h : i < length ks) (e : size ≡ few_bytes (get_or ks i 0)) where
  few-next : drop i (few ks) ≡ size ∷ drop (i + 1) (few ks)
  few-next = few-from ks i h ∙ ap₂ (λ k j. k ∷ drop j (few ks)) (sym e) (sym (add-one i))

  pub span-next : span (drop i (few ks)) ≡ size + span (drop (i + 1) (few ks))
  span-next = ap span few-next

  -- one number more is read
  pub numbers-next : (bs out : List ℕ) (next v : ℕ) → i < length out → v ≡ number_in (take size (drop next bs))
      → take i out ++ sized_in (drop i (few ks)) (drop next bs) ≡ take (i + 1) (set out i v) ++ sized_in (drop (i + 1) (few ks)) (drop (next + size) bs)
  numbers-next bs out next v l q =
      ap (λ r. take i out ++ sized_in r (drop next bs)) few-next
      ∙ ap (λ r. take i out ++ r) (sym (sized-one bs size (drop (i + 1) (few ks)) next (next + size) refl q refl))
      ∙ sym (append_snoc (take i out) v rest)
      ∙ ap (λ x. x ++ rest) (sym (ap (λ j. take j (set out i v)) (add-one i) ∙ take-suc-set out i v l))
    where
      rest : List ℕ
      rest = sized_in (drop (i + 1) (few ks)) (drop (next + size) bs)

  -- one number more is put
  pub numbers-put : (vs l after : List ℕ) (next : ℕ) → after ≡ sets l next (low_bytes size (get_or vs i 0))
      → sets l next (sized_bytes (drop i (few ks)) (drop i vs)) ≡ sets after (next + size) (sized_bytes (drop (i + 1) (few ks)) (drop (i + 1) vs))
  numbers-put vs l after next q =
      ap (λ r. sets l next (sized_bytes r (drop i vs))) few-next ∙ put_one vs l size (drop (i + 1) (few ks)) next (next + size) i refl q

-- past the last size
module _ (ks : List ℕ) (i : ℕ) (h : length ks ≤ i) where
  few-none : drop i (few ks) ≡ []
  few-none = drop_of_length-le (few ks) {i = i} (omega (arith, length-few ks))

  pub span-end : span (drop i (few ks)) ≡ 0
  span-end = ap span few-none

  pub numbers-end : (bs out : List ℕ) (next : ℕ) → length out ≤ i → take i out ++ sized_in (drop i (few ks)) (drop next bs) ≡ out
  numbers-end bs out next l =
      ap (λ r. take i out ++ sized_in r (drop next bs)) few-none
      ∙ ap (λ r. take i out ++ r) (sym (sized-none (drop next bs)))
      ∙ append-nil (take i out)
      ∙ take_all i out l

  pub puts-end : (vs l : List ℕ) (next : ℕ) → sets l next (sized_bytes (drop i (few ks)) (drop i vs)) ≡ l
  puts-end vs l next = ap (λ r. sets l next (sized_bytes r (drop i vs))) few-none ∙ put-none-left l next (drop i vs)

-- ---- rows

module _ (ks : List ℕ) (limit : ℕ) (bs : List ℕ) where
  -- the rows that there are
  abbrev pub rows_there : List (List ℕ)
  rows_there = take (count_of (row_size (table_row ks)) (length bs)) (entries_from (table_row ks) limit bs)

  module _ (i size count : ℕ) (es : size ≡ span (few ks)) (ec : count ≡ count_of size (length bs)) where
    counted : count ≡ count_of (row_size (table_row ks)) (length bs)
    counted = ec ∙ ap (λ s. count_of s (length bs)) (es ∙ size-table ks)

    -- a row below the count is there
    pub row-there : i < count → i * size + span (few ks) ≤ length bs
    row-there h = omega (arith, suc-mul i size, mul-le-mul_right size below, count_held size (length bs), es)
      where
        below : suc i ≤ count_of size (length bs)
        below = omega (arith, ec)

    row_is : i < limit → get_or (entries_from (table_row ks) limit bs) i [] ≡ sized_in (few ks) (drop (i * size) bs)
    row_is h =
        entry_at (table_row ks) limit bs i [] h
        ∙ sized-take (few ks) (row_size (table_row ks)) (drop (i * row_size (table_row ks)) bs) (omega (arith, size-table ks))
        ∙ ap (λ s. sized_in (few ks) (drop (i * s) bs)) (sym (es ∙ size-table ks))

    pub rows_next : (ws ls ms vs : List ℕ) (r s : Rows) → i < limit → i < count → vs ≡ sized_in (few ks) (drop (i * size) bs)
        → s ≡ put_row ws ls ms vs r → put_rows ws ls ms (drop i rows_there) r ≡ put_rows ws ls ms (drop (i + 1) rows_there) s
    rows_next ws ls ms vs r s l h ev q =
        ap (λ k. put_rows ws ls ms k r) (drop-cons rows_there i [] (omega (arith, length-take c es', length-entries (table_row ks) limit bs, counted)))
        ∙ ap₂ (λ x k. put_rows ws ls ms (drop k rows_there) (put_row ws ls ms x r))
        (get_or-take c es' i [] (omega (arith, counted)) ∙ row_is l ∙ sym ev) (sym (add-one i))
        ∙ ap (put_rows ws ls ms (drop (i + 1) rows_there)) (sym q)
      where
        c : ℕ
        c = count_of (row_size (table_row ks)) (length bs)

        es' : List (List ℕ)
        es' = entries_from (table_row ks) limit bs

    pub rows-counted : length rows_there ≤ count
    rows-counted = omega (arith, length-take (count_of (row_size (table_row ks)) (length bs)) (entries_from (table_row ks) limit bs), counted)

  pub rows-limited : length rows_there ≤ limit
  rows-limited =
      omega (arith, length-take (count_of (row_size (table_row ks)) (length bs)) (entries_from (table_row ks) limit bs), length-entries (table_row ks) limit bs)

  pub rows_end : (i : ℕ) (ws ls ms : List ℕ) (r : Rows) → length rows_there ≤ i → put_rows ws ls ms (drop i rows_there) r ≡ r
  rows_end i ws ls ms r h = ap (λ k. put_rows ws ls ms k r) (drop_of_length-le rows_there {i = i} h)
