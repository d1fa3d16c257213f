-- Entries as bytes, a row for each, over the row: the bytes of a row are the codes of a coding, eight bits each. Assumes nothing.
use Rattle.std.specs.Prelude.{cond, List, [], ◌∷◌, ◌++◌, ℕ, zero, suc, ◌/◌, ◌%◌, ltb, eqb, length, take, drop}
use Rattle.answer.specs.Order.{Says, refuses, answers, Check, in_order}
use Rattle.record_fields.specs.Coding.{Coding}
use Rattle.rtcm2_rows.specs.declared.row.Put.{Put}
use Rattle.rtcm2_rows.specs.declared.row.Put.TheVariants.{Done, Refused}

-- how many rows of s bytes are l bytes: 0 where some are left over, or where a row has none
unfoldable pub count_of : ℕ → ℕ → ℕ
count_of s l = cond (eqb s 0) 0 (cond (eqb (l % s) 0) (l / s) 0)

module _ {A : Type 0} (k : Coding A) where
  -- the bytes of a row
  abbrev pub row_size : ℕ
  row_size = length k.widths

  -- the entry that the first row says
  abbrev pub entry_of : List ℕ → A
  entry_of bs = k.meant (take row_size bs)

  -- n entries, row after row; what is past the last byte counts as 0
  unfoldable pub entries_from : ℕ → List ℕ → List A
  entries_from zero bs = []
  entries_from (suc n) bs = entry_of bs ∷ entries_from n (drop row_size bs)

  -- the rows of entries, one after the other
  unfoldable pub row_bytes : List A → List ℕ
  row_bytes [] = []
  row_bytes (e ∷ es) = k.codes e ++ row_bytes es

  -- PUT: 13
  abbrev pub put_order : List ℕ → List Check
  put_order bs = (ltb (length bs) row_size, 13) ∷ []

  abbrev pub put_by : List ℕ → Put
  put_by bs = in_order (put_order bs) Refused Done

  -- what the lent bytes then hold: the row, and past it what they held before; on a refusal what they held before
  abbrev pub row_after : A → List ℕ → List ℕ
  row_after e bs = in_order (put_order bs) (λ n. bs) (k.codes e ++ drop row_size bs)

-- in the table's terms
abbrev pub says_put : Put → Says (Unit {0})
says_put Done = answers tt
says_put (Refused n) = refuses n
