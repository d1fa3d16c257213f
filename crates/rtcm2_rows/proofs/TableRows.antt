-- What a row by its table owes, and what follows: its numbers are those of its bytes, and it is faithful where its numbers are. Assumes nothing.
use mathlib.Core.Path.{◌≡◌, refl, sym, ap, ap₂, subst, ◌∙◌}
use mathlib.Core.List.{List, [], ◌∷◌, ◌++◌, map, append-nil}
use Prim.Native.Nat.{ℕ, zero, suc, ◌/◌}
use native.Mathlib.Omega.{arith}
use lib.ListN.{length, take, drop, length-replicate, length-drop, take-append-drop}
use lib.Seq.{length-take-le}
use Rattle.bits.specs.Fields.{span, octets, Fit, AreBytes}
use Rattle.bits.proofs.FieldLaws.{length-fit, fit-take, fit-drop}
use Rattle.record_fields.proofs.Faithful.{Faithful}
use Rattle.rtcm2_state.specs.Numbers.{low_bytes, number_in}
use Rattle.rtcm2_state.proofs.NumberLaws.{bytes-number}
use Rattle.rtcm2_rows.specs.Sizes.{sized_in, sized_bytes}
use Rattle.rtcm2_rows.specs.Rows.{row_size, entries_from}
use Rattle.rtcm2_rows.specs.Tables.{few, row_by, table_row}
use Rattle.rtcm2_rows.proofs.SizeLaws.{Within, length-sized, sized-back}

-- ---- numbers and their bytes

low-bytes : (k n : ℕ) (bs : List ℕ) → AreBytes bs → AreBytes (low_bytes k n ++ bs)
unfolding low_bytes
low-bytes zero n bs b = b
low-bytes (suc k) n bs b = (omega arith, low-bytes k (n / 256) bs b)

sized-bytes : (ks ns : List ℕ) → AreBytes (sized_bytes ks ns)
unfolding sized_bytes
sized-bytes [] ns = tt
sized-bytes (k ∷ ks) [] = low-bytes k 0 (sized_bytes ks []) (sized-bytes ks [])
sized-bytes (k ∷ ks) (n ∷ ns) = low-bytes k n (sized_bytes ks ns) (sized-bytes ks ns)

sized-again : (ks bs : List ℕ) → AreBytes bs → length bs ≡ span ks → sized_bytes ks (sized_in ks bs) ≡ bs
unfolding sized_in sized_bytes
sized-again [] [] b l = refl
sized-again [] (x ∷ bs) b l = absurd (omega arith)
sized-again (k ∷ ks) bs b l =
    ap₂ ◌++◌ (ap (λ j. low_bytes j (number_in (take k bs))) (sym whole) ∙ bytes-number (take k bs) (fit-take k bs b))
    (sized-again ks (drop k bs) (fit-drop k bs b) (omega (arith, length-drop k bs)))
    ∙ take-append-drop k bs
  where
    whole : length (take k bs) ≡ k
    whole = length-take-le k bs (omega arith)

-- ---- a row by its table

module _ {A : Type 0} (ks : List ℕ) (meant : List ℕ → A) (to : A → List ℕ) where
  -- the numbers of the entries that bytes say are those of the bytes
  pub table-rows : (numbers : A → List ℕ) → ((bs : List ℕ) → numbers (meant (sized_in (few ks) bs)) ≡ sized_in (few ks) bs) → (n c : ℕ) (bs : List ℕ)
      → map numbers (take c (entries_from (row_by ks meant to) n bs)) ≡ take c (entries_from (table_row ks) n bs)
  unfolding entries_from
  table-rows numbers law n zero bs = refl
  table-rows numbers law zero (suc c) bs = refl
  table-rows numbers law (suc n) (suc c) bs =
      ap₂ ◌∷◌ (law (take (row_size (table_row ks)) bs)) (table-rows numbers law n c (drop (row_size (table_row ks)) bs))

  module _ (Good : A → Type 0) (within : (e : A) → Good e → Within (few ks) (to e)) (back : (e : A) → Good e → meant (to e) ≡ e)
      (again : (bs : List ℕ) → to (meant (sized_in (few ks) bs)) ≡ sized_in (few ks) bs) where
    pub table-faithful : Faithful (row_by ks meant to) Good
    table-faithful = record {
      meant-codes = λ e g.
          ap meant (ap (sized_in (few ks)) (sym (append-nil (sized_bytes (few ks) (to e)))) ∙ sized-back (few ks) (to e) [] (within e g)) ∙ back e g;
      fit-codes = λ e g. subst (λ n. Fit (octets n) (sized_bytes (few ks) (to e))) (length-sized (few ks) (to e)) (sized-bytes (few ks) (to e));
      codes-meant = λ bs f. ap (sized_bytes (few ks)) (again bs) ∙ whole bs f;
    }
      where
        whole : (bs : List ℕ) → Fit (octets (span (few ks))) bs → sized_bytes (few ks) (sized_in (few ks) bs) ≡ bs
        whole bs f =
            let l = length-fit (octets (span (few ks))) bs f ∙ length-replicate (span (few ks)) 8 in
            sized-again (few ks) bs (subst (λ n. Fit (octets n) bs) (sym l) f) l
