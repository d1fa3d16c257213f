-- A layout by tables owes two equations, and the rest follows: the three laws of `Faithful`, and that what is read is in range. Low bits
-- always fit, and values that fit are known by their places, so no layout takes a list apart. Assumes nothing.
use mathlib.Core.Path.{◌≡◌, refl, sym, ap, ap₂, ◌∙◌}
use mathlib.Core.Bool.{Bool, true, false, ◌||◌, cond}
use mathlib.Core.List.{List, [], ◌∷◌}
use Prim.Native.Nat.{ℕ, zero, suc, ◌-◌, ◌%◌, ◌^◌, ◌≤◌, ◌<◌}
use native.Mathlib.Nat.{mod-lt, mod_self, mod-eq_of_lt}
use native.Mathlib.Omega.{arith}
use lib.IntN.{ℤ}
use lib.Signed.{mag}
use lib.Dec.{ltb, leb, eqb}
use lib.Pow.{pow_pos}
use lib.ListN.{length, drop, get_or}
use borrow.Author.Tests.{ne_eqb, ltb-true, leb-true, le-ltb}
use Rattle.bits.specs.Fields.{Fit}
use Rattle.bits.specs.Signed.{signed, code}
use Rattle.bits.proofs.SignedLaws.{signed-code, code_lt}
use Rattle.record_fields.specs.Tables.{padded, row, codes_of, row_out}
use Rattle.record_fields.proofs.Faithful.{Faithful, Fine}
use Rattle.record_fields.proofs.TableLaws.{InRow, row_told}

-- ---- values by their places

-- each value is below two to its width
abbrev pub Below : List ℕ → List ℕ → Type 0
Below ws vs = (i : ℕ) → get_or vs i 0 < 2 ^ get_or ws i 0

pub fit-below : (ws vs : List ℕ) → Fit ws vs → Below ws vs
fit-below [] [] f i = omega arith
fit-below [] (v ∷ vs) f i = absurd f
fit-below (w ∷ ws) [] f i = absurd f
fit-below (w ∷ ws) (v ∷ vs) f zero = f.0
fit-below (w ∷ ws) (v ∷ vs) f (suc i) = fit-below ws vs f.1 i

-- the values at place i and on, one for each width
abbrev pub places_from : ℕ → List ℕ → List ℕ → List ℕ
places_from i [] vs = []
places_from i (w ∷ ws) vs = get_or vs i 0 ∷ places_from (suc i) ws vs

places-next : (i : ℕ) (ws : List ℕ) (v : ℕ) (vs : List ℕ) → places_from (suc i) ws (v ∷ vs) ≡ places_from i ws vs
places-next i [] v vs = refl
places-next i (w ∷ ws) v vs = ap (λ l. get_or vs i 0 ∷ l) (places-next (suc i) ws v vs)

-- values that fit are all there are
pub fit-places : (ws vs : List ℕ) → Fit ws vs → places_from 0 ws vs ≡ vs
fit-places [] [] f = refl
fit-places [] (v ∷ vs) f = absurd f
fit-places (w ∷ ws) [] f = absurd f
fit-places (w ∷ ws) (v ∷ vs) f = ap (λ l. v ∷ l) (places-next 0 ws v vs ∙ fit-places ws vs f.1)

-- ---- codes of an entry

low-fit : (ws vs : List ℕ) → Fit ws (codes_of ws vs)
low-fit [] vs = tt
low-fit (w ∷ ws) [] = (pow_pos w, low-fit ws [])
low-fit (w ∷ ws) (v ∷ vs) = (mod-lt v (pow_pos w), low-fit ws vs)

-- the codes of a row in its ranges: a number whose most is within its width is its own code
abbrev pub codes_within : (ws ms us : List ℕ) → List ℕ
codes_within ws [] us = codes_of ws us
codes_within [] (m ∷ ms) us = []
codes_within (w ∷ ws) (m ∷ ms) [] = codes_of (w ∷ ws) []
codes_within (w ∷ ws) (m ∷ ms) (u ∷ us) = cond (ltb m (2 ^ w)) u (u % 2 ^ w) ∷ codes_within ws ms us

codes-within : (ls ws ms us : List ℕ) → InRow ls ms us → codes_of ws us ≡ codes_within ws ms us
codes-within ls ws [] us r = refl
codes-within ls [] (m ∷ ms) us r = refl
codes-within ls (w ∷ ws) (m ∷ ms) [] r = refl
codes-within ls (w ∷ ws) (m ∷ ms) (u ∷ us) r = ap₂ ◌∷◌ (own (ltb m (2 ^ w)) refl) (codes-within (drop 1 ls) ws ms us r.2)
  where
    own : (b : Bool) → ltb m (2 ^ w) ≡ b → u % 2 ^ w ≡ cond b u (u % 2 ^ w)
    own true e = mod-eq_of_lt (omega (arith, ltb-true m (2 ^ w) e, r.1))
    own false e = refl

-- the low bits of a signed number's code mean it
pub signed_low : (h : ℕ) (z : ℤ) → mag z < 2 ^ h → signed h (code h z % 2 ^ suc h) ≡ z
signed_low h z l = ap (signed h) (mod-eq_of_lt (code_lt h z l)) ∙ signed-code h z l

-- ---- numbers of codes

-- the number of a code of w bits: from 0 on, or from 1 on, where code 0 means two to the width, as for satellites
abbrev pub number_of : (z w v : ℕ) → ℕ
number_of zero w v = v
number_of (suc z) w v = cond (eqb v 0) (2 ^ w) v

-- the lowest and the highest such number
abbrev lowest : ℕ → ℕ
lowest zero = 0
lowest (suc z) = 1

abbrev highest : (z w : ℕ) → ℕ
highest zero w = 2 ^ w - 1
highest (suc z) w = 2 ^ w

number-low : (z w v : ℕ) → v < 2 ^ w → number_of z w v % 2 ^ w ≡ v
number-low zero w v h = mod-eq_of_lt h
number-low (suc z) w zero h = mod_self (2 ^ w)
number-low (suc z) w (suc v) h = rw (ne_eqb (suc v) 0 (λ q. omega arith)) (mod-eq_of_lt h)

number-least : (z w v : ℕ) → lowest z ≤ number_of z w v
number-least zero w v = omega arith
number-least (suc z) w zero = omega (arith, pow_pos w)
number-least (suc z) w (suc v) = rw (ne_eqb (suc v) 0 (λ q. omega arith)) (omega arith)

number-most : (z w v : ℕ) → v < 2 ^ w → number_of z w v ≤ highest z w
number-most zero w v h = omega arith
number-most (suc z) w zero h = omega arith
number-most (suc z) w (suc v) h = rw (ne_eqb (suc v) 0 (λ q. omega arith)) (omega arith)

-- of a test that no code fails nothing is left
low-left : (z w v l : ℕ) → ltb (number_of z w v) l ≡ cond (leb l (lowest z)) false (ltb (number_of z w v) l)
low-left z w v l = go (leb l (lowest z)) refl
  where
    go : (b : Bool) → leb l (lowest z) ≡ b → ltb (number_of z w v) l ≡ cond b false (ltb (number_of z w v) l)
    go true e = le-ltb (number_of z w v) l (omega (arith, number-least z w v, leb-true l (lowest z) e))
    go false e = refl

high-left : (z w v m : ℕ) → v < 2 ^ w → ltb m (number_of z w v) ≡ cond (leb (highest z w) m) false (ltb m (number_of z w v))
high-left z w v m h = go (leb (highest z w) m) refl
  where
    go : (b : Bool) → leb (highest z w) m ≡ b → ltb m (number_of z w v) ≡ cond b false (ltb m (number_of z w v))
    go true e = le-ltb m (number_of z w v) (omega (arith, number-most z w v h, leb-true (highest z w) m e))
    go false e = refl

-- the numbers of a row of codes
abbrev pub numbers_of : (zs ws vs : List ℕ) → List ℕ
numbers_of zs [] vs = []
numbers_of zs (w ∷ ws) vs = number_of (get_or zs 0 0) w (get_or vs 0 0) ∷ numbers_of (drop 1 zs) ws (drop 1 vs)

-- what a range check has left to say of them: nothing of a least or a most that no code of its width passes
abbrev pub left_out : (zs ws ls ms us : List ℕ) → Bool
left_out zs ws ls [] us = false
left_out zs [] ls (m ∷ ms) us = row_out ls (m ∷ ms) us
left_out zs (w ∷ ws) ls (m ∷ ms) us =
    cond (leb (get_or ls 0 0) (lowest (get_or zs 0 0))) false (ltb (get_or us 0 0) (get_or ls 0 0))
    || cond (leb (highest (get_or zs 0 0) w) m) false (ltb m (get_or us 0 0))
    || left_out (drop 1 zs) ws (drop 1 ls) ms (drop 1 us)

numbers-codes : (n : ℕ) (zs ws vs : List ℕ) → length ws ≤ n → Fit ws vs → codes_of ws (padded n (numbers_of zs ws vs)) ≡ vs
numbers-codes n zs [] [] h f = refl
numbers-codes n zs [] (v ∷ vs) h f = absurd f
numbers-codes n zs (w ∷ ws) [] h f = absurd f
numbers-codes zero zs (w ∷ ws) (v ∷ vs) h f = absurd (omega arith)
numbers-codes (suc n) zs (w ∷ ws) (v ∷ vs) h f =
    ap₂ ◌∷◌ (number-low (get_or zs 0 0) w v f.0) (numbers-codes n (drop 1 zs) ws vs (omega arith) f.1)

left_out_lem : (n : ℕ) (zs ws ls ms vs : List ℕ) → length ws ≤ n → Fit ws vs
    → row_out ls ms (padded n (numbers_of zs ws vs)) ≡ left_out zs ws ls ms (padded n (numbers_of zs ws vs))
left_out_lem n zs ws ls [] vs h f = refl
left_out_lem n zs [] ls (m ∷ ms) vs h f = refl
left_out_lem n zs (w ∷ ws) ls (m ∷ ms) [] h f = absurd f
left_out_lem zero zs (w ∷ ws) ls (m ∷ ms) (v ∷ vs) h f = absurd (omega arith)
left_out_lem (suc n) zs (w ∷ ws) ls (m ∷ ms) (v ∷ vs) h f =
    ap₂ ◌||◌ (ap₂ ◌||◌ (low-left (get_or zs 0 0) w v (get_or ls 0 0)) (high-left (get_or zs 0 0) w v m f.0))
    (left_out_lem n (drop 1 zs) ws (drop 1 ls) ms vs (omega arith) f.1)

-- ---- A LAYOUT BY TABLES: widths, least, most, and `zs` with 1 where code 0 means two to the width. Its numbers read are those of the codes

module _ {A : Type 0} (zs ws ls ms : List ℕ) (meant : List ℕ → A) (numbers : A → List ℕ) (short : length ws ≤ 12)
    (again : (vs : List ℕ) → Below ws vs → numbers (meant vs) ≡ row (numbers_of zs ws (places_from 0 ws vs))) where
  numbers-read : (vs : List ℕ) → Fit ws vs → numbers (meant vs) ≡ row (numbers_of zs ws vs)
  numbers-read vs f = again vs (fit-below ws vs f) ∙ ap (λ l. row (numbers_of zs ws l)) (fit-places ws vs f)

  -- it is faithful when the codes of an entry in its ranges mean it
  pub tables-faithful : (Typed : A → Type 0)
      → ((e : A) → Typed e → row_out ls ms (numbers e) ≡ false → meant (codes_within ws ms (numbers e)) ≡ e)
      → Faithful record { widths = ws; meant = meant; codes = λ e. codes_of ws (numbers e) } (Fine Typed (λ e. row_out ls ms (numbers e)))
  tables-faithful Typed back = record {
    meant-codes = λ e g. ap meant (codes-within ls ws ms (numbers e) (row_told ls ms (numbers e) g.1)) ∙ back e g.0 g.1;
    fit-codes = λ e g. low-fit ws (numbers e);
    codes-meant = λ vs f. ap (codes_of ws) (numbers-read vs f) ∙ numbers-codes 12 zs ws vs short f;
  }

  -- and what is read is out of range where what the widths leave to say says so, and nowhere else
  pub tables-left : (vs : List ℕ) → Fit ws vs → row_out ls ms (numbers (meant vs)) ≡ left_out zs ws ls ms (numbers (meant vs))
  tables-left vs f =
      ap (row_out ls ms) (numbers-read vs f) ∙ left_out_lem 12 zs ws ls ms vs short f ∙ ap (left_out zs ws ls ms) (sym (numbers-read vs f))
