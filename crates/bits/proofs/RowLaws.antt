-- The field law for rows, over the layout, the start and the number of rows: what is put is read back, and what is read and put
-- again are the same bits. Assumes nothing.
use mathlib.Core.Path.{◌≡◌, refl, sym, ap, ap₂, ◌∙◌}
use mathlib.Core.Bool.{Bool}
use mathlib.Core.List.{List, [], ◌∷◌, ◌++◌, append_assoc}
use Prim.Native.Nat.{ℕ, zero, suc, ◌+◌, ◌*◌, ◌≤◌, ◌<◌}
use native.Mathlib.Nat.{add_comm, suc-mul, zero-mul}
use native.Mathlib.Omega.{arith}
use lib.ListN.{length, take, drop, get_or, length-append}
use lib.Seq.{drop-drop, take-add}
use Rattle.bits.specs.Fields.{fields_at, packed, span}
use Rattle.bits.specs.Rows.{packed_rows, rows_at, AllFit}
use Rattle.bits.proofs.FieldLaws.{field-front, fits-fields, length-packed, fields-put, put-fields}

-- fields depend on the bits up to their end alone
pub fields-front : (ws : List ℕ) (o : ℕ) (p q : List Bool) → o + span ws ≤ length p → fields_at ws o (p ++ q) ≡ fields_at ws o p
fields-front [] o p q h = refl
fields-front (w ∷ ws) o p q h = ap₂ ◌∷◌ (field-front o w p q (omega arith)) (fields-front ws (o + w) p q (omega arith))

pub length-rows : (ws : List ℕ) (rs : List (List ℕ)) → length (packed_rows ws rs) ≡ length rs * span ws
length-rows ws [] = omega (arith, zero-mul (span ws))
length-rows ws (r ∷ rs) =
    length-append (packed ws r) (packed_rows ws rs) ∙ ap₂ ◌+◌ (length-packed ws r) (length-rows ws rs) ∙ step (length rs) (span ws)
  where
    step : (n t : ℕ) → t + n * t ≡ suc n * t
    step n t = omega (arith, suc-mul n t)

pub rows-put : (ws : List ℕ) (rs : List (List ℕ)) (a b : List Bool) → AllFit ws rs → (i : ℕ) → i < length rs
    → fields_at ws (length a + i * span ws) (a ++ (packed_rows ws rs ++ b)) ≡ get_or rs i []
rows-put ws [] a b f i h = absurd (omega arith)
rows-put ws (r ∷ rs) a b f zero h =
    rw (append_assoc (packed ws r) (packed_rows ws rs) b)
    (ap (λ n. fields_at ws n (a ++ (packed ws r ++ (packed_rows ws rs ++ b)))) here ∙ fields-put ws r a (packed_rows ws rs ++ b) f.0)
  where
    here : length a + zero * span ws ≡ length a
    here = omega (arith, zero-mul (span ws))
rows-put ws (r ∷ rs) a b f (suc i) h =
    rw (append_assoc (packed ws r) (packed_rows ws rs) b)
    (ap₂ (λ n l. fields_at ws n l) far (sym (append_assoc a (packed ws r) (packed_rows ws rs ++ b)))
    ∙ rows-put ws rs (a ++ packed ws r) b f.1 i (omega arith))
  where
    far : length a + suc i * span ws ≡ length (a ++ packed ws r) + i * span ws
    far = omega (arith, length-append a (packed ws r), length-packed ws r, suc-mul i (span ws))

pub put-rows : (ws : List ℕ) (n o : ℕ) (bs : List Bool) → o + n * span ws ≤ length bs
    → packed_rows ws (rows_at ws n o bs) ≡ take (n * span ws) (drop o bs)
put-rows ws zero o bs h = sym (ap (λ k. take k (drop o bs)) (zero-mul (span ws)))
put-rows ws (suc n) o bs h =
    ap₂ ◌++◌ (put-fields ws o bs (omega (arith, m)))
    (put-rows ws n (o + span ws) bs (omega (arith, m)) ∙ ap (take (n * span ws)) (sym (drop-drop (span ws) o bs)))
    ∙ sym (take-add (span ws) (n * span ws) (drop o bs)) ∙ ap (λ k. take k (drop o bs)) (sym m)
  where
    m : suc n * span ws ≡ span ws + n * span ws
    m = suc-mul n (span ws) ∙ add_comm (n * span ws) (span ws)

pub fits-rows : (ws : List ℕ) (n o : ℕ) (bs : List Bool) → AllFit ws (rows_at ws n o bs)
fits-rows ws zero o bs = tt
fits-rows ws (suc n) o bs = (fits-fields ws o bs, fits-rows ws n (o + span ws) bs)

pub length-rows-at : (ws : List ℕ) (n o : ℕ) (bs : List Bool) → length (rows_at ws n o bs) ≡ n
length-rows-at ws zero o bs = refl
length-rows-at ws (suc n) o bs = ap suc (length-rows-at ws n (o + span ws) bs)

pub rows-at : (ws : List ℕ) (n o i : ℕ) (bs : List Bool) → i < n → get_or (rows_at ws n o bs) i [] ≡ fields_at ws (o + i * span ws) bs
rows-at ws zero o i bs h = absurd (omega arith)
rows-at ws (suc n) o zero bs h = ap (λ k. fields_at ws k bs) here
  where
    here : o ≡ o + zero * span ws
    here = omega (arith, zero-mul (span ws))
rows-at ws (suc n) o (suc i) bs h = rows-at ws n (o + span ws) i bs (omega arith) ∙ ap (λ k. fields_at ws k bs) far
  where
    far : o + span ws + i * span ws ≡ o + suc i * span ws
    far = omega (arith, suc-mul i (span ws))

-- rows depend on the bits up to their end alone
pub rows-front : (ws : List ℕ) (n o : ℕ) (p q : List Bool) → o + n * span ws ≤ length p → rows_at ws n o (p ++ q) ≡ rows_at ws n o p
rows-front ws zero o p q h = refl
rows-front ws (suc n) o p q h =
    ap₂ ◌∷◌ (fields-front ws o p q (omega (arith, suc-mul n (span ws)))) (rows-front ws n (o + span ws) p q (omega (arith, suc-mul n (span ws))))
