-- A row of bytes by a table: how many bytes each of its twelve numbers has, at most four, the low one first. Assumes nothing.
use Rattle.std.specs.Prelude.{cond, List, [], ◌∷◌, ℕ, ltb}
use Rattle.bits.specs.Fields.{span, octets}
use Rattle.record_fields.specs.Coding.{Coding}
use Rattle.rtcm2_rows.specs.Sizes.{sized_in, sized_bytes}

-- a size over 4 counts as 4
abbrev pub few_bytes : ℕ → ℕ
few_bytes k = cond (ltb 4 k) 4 k

abbrev pub few : List ℕ → List ℕ
few [] = []
few (k ∷ ks) = few_bytes k ∷ few ks

-- A ROW BY ITS TABLE: the sizes, the entry of such numbers, and the numbers of an entry
abbrev pub row_by : {A : Type 0} → List ℕ → (List ℕ → A) → (A → List ℕ) → Coding A
row_by ks meant numbers = record {
  widths = octets (span (few ks));
  meant = λ bs. meant (sized_in (few ks) bs);
  codes = λ e. sized_bytes (few ks) (numbers e);
}

-- the numbers alone
abbrev pub table_row : List ℕ → Coding (List ℕ)
table_row ks = row_by ks (λ vs. vs) (λ vs. vs)
