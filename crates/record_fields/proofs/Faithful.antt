-- What a layout owes on its codes, and what follows for rows of them: a good entry's codes mean it, and codes that fit are those of what
-- they mean. Assumes nothing.
use mathlib.Core.Path.{◌≡◌, refl, ap, ap₂, ◌∙◌}
use mathlib.Core.Bool.{Bool, false}
use mathlib.Core.List.{List, [], ◌∷◌, map}
use Prim.Native.Nat.{ℕ, zero, suc, ◌+◌, ◌*◌, ◌-◌, ◌/◌, ◌%◌, ◌<◌}
use native.Mathlib.Omega.{arith}
use lib.ListN.{length, get_or, length-map}
use Rattle.bits.specs.Fields.{span, Fit}
use Rattle.bits.specs.Rows.{AllFit}
use Rattle.bits.proofs.RowLaws.{length-rows}
use Rattle.record_fields.specs.Coding.{Coding, rows_of, entry_bits, Each}

-- a good entry's codes fit their widths and mean it; codes that fit are those of what they mean
pub record Faithful {A : Type 0} (k : Coding A) (Good : A → Type 0) : Type 0 where
  pub meant-codes : (e : A) → Good e → k.meant (k.codes e) ≡ e
  pub fit-codes : (e : A) → Good e → Fit k.widths (k.codes e)
  pub codes-meant : (vs : List ℕ) → Fit k.widths vs → k.codes (k.meant vs) ≡ vs

-- an entry that has its types and that no range check refuses
abbrev pub Fine : {A : Type 0} → (A → Type 0) → (A → Bool) → A → Type 0
Fine Typed out e = Typed e × (out e ≡ false)

pub fill-left : (m : ℕ) → (24 - m % 24) % 24 ≡ 24 * ((m + 23) / 24) - m
fill-left m = go (m % 24) refl
  where
    go : (r : ℕ) → m % 24 ≡ r → (24 - r) % 24 ≡ 24 * ((m + 23) / 24) - m
    go zero q = omega arith
    go (suc r) q = omega arith

module _ {A : Type 0} (k : Coding A) where
  pub length-entries : (es : List A) → length (entry_bits k es) ≡ length es * span k.widths
  unfolding entry_bits
  length-entries es = length-rows k.widths (rows_of k es) ∙ ap (λ n. n * span k.widths) (length-map es k.codes)

  module _ (Good : A → Type 0) (law : Faithful k Good) where
    pub fit-rows : (es : List A) → Each Good es → AllFit k.widths (rows_of k es)
    fit-rows [] g = tt
    fit-rows (e ∷ es) g = (law.fit-codes e g.0, fit-rows es g.1)

    pub row_of : (es : List A) (i : ℕ) (d : A) → i < length es → Each Good es → k.meant (get_or (rows_of k es) i []) ≡ get_or es i d
    row_of [] i d h g = absurd (omega arith)
    row_of (e ∷ es) zero d h g = law.meant-codes e g.0
    row_of (e ∷ es) (suc i) d h g = row_of es i d (omega arith) g.1

    pub rows-meant : (rs : List (List ℕ)) → AllFit k.widths rs → rows_of k (map k.meant rs) ≡ rs
    rows-meant [] f = refl
    rows-meant (r ∷ rs) f = ap₂ ◌∷◌ (law.codes-meant r f.0) (rows-meant rs f.1)
