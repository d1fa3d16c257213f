-- The field law, over the width, the offset and the layout: what is put is read back, and what is read and put again are the same bits.
-- Assumes nothing.
use mathlib.Core.Path.{◌≡◌, refl, sym, ap, ap₂, ◌∙◌}
use mathlib.Core.Bool.{Bool}
use mathlib.Core.List.{List, [], ◌∷◌, ◌++◌, append-nil, append_assoc}
use Prim.Native.Nat.{ℕ, zero, suc, ◌+◌, ◌*◌, ◌/◌, ◌%◌, ◌^◌, ◌≤◌, ◌<◌}
use native.Mathlib.Nat.{add_assoc, mod-eq_of_lt}
use native.Mathlib.Omega.{arith}
use lib.ListN.{length, take, drop, length-append, length-take, length-drop}
use lib.Seq.{take_all, take-append-le, drop-append-le, take_at, drop_at, drop-drop, take-add}
use lib.Pow.{pow_mono}
use Rattle.bits.specs.Bits.{bits, number}
use Rattle.bits.specs.Fields.{field_at, fields_at, packed, span, Fit, AreBytes}
use Rattle.bits.proofs.Numbers.{length-bits, number-bits, number_lt, bits-number, bits-split, number_append}

-- ONE FIELD
pub fits-field : (o w : ℕ) (bs : List Bool) → field_at o w bs < 2 ^ w
fits-field o w bs = bound (number_lt (take w (drop o bs))) (pow_mono {i = length (take w (drop o bs))} {j = w} (omega (arith, length-take w (drop o bs))))
  where
    bound : {a b c : ℕ} → a < b → b ≤ c → a < c
    bound p q = omega arith

-- a field depends on the bits up to its end alone
pub field-front : (o w : ℕ) (p q : List Bool) → o + w ≤ length p → field_at o w (p ++ q) ≡ field_at o w p
field-front o w p q h =
    let u : o ≤ length p = omega arith in
    let v : w ≤ length (drop o p) = omega (arith, length-drop o p) in
    rw (drop-append-le o p q, take-append-le w (drop o p) q)

pub field_put : (a : List Bool) (w v : ℕ) (b : List Bool) → v < 2 ^ w → field_at (length a) w (a ++ (bits w v ++ b)) ≡ v
field_put a w v b h =
    rw (drop_at a (bits w v ++ b) (length a) refl, take_at (bits w v) b w (length-bits w v), number-bits w v) (mod-eq_of_lt h)

pub put-field : (o w : ℕ) (bs : List Bool) → o + w ≤ length bs → bits w (field_at o w bs) ≡ take w (drop o bs)
put-field o w bs h = bits-number w (take w (drop o bs)) (omega (arith, length-take w (drop o bs), length-drop o bs))

-- FIELDS OF A LAYOUT
pub fits-fields : (ws : List ℕ) (o : ℕ) (bs : List Bool) → Fit ws (fields_at ws o bs)
fits-fields [] o bs = tt
fits-fields (w ∷ ws) o bs = (fits-field o w bs, fits-fields ws (o + w) bs)

pub length-fit : (ws vs : List ℕ) → Fit ws vs → length vs ≡ length ws
length-fit [] [] f = refl
length-fit [] (v ∷ vs) f = absurd f
length-fit (w ∷ ws) [] f = absurd f
length-fit (w ∷ ws) (v ∷ vs) f = ap suc (length-fit ws vs f.1)

pub length-packed : (ws vs : List ℕ) → length (packed ws vs) ≡ span ws
length-packed [] vs = refl
length-packed (w ∷ ws) [] = length-append (bits w 0) (packed ws []) ∙ ap₂ ◌+◌ (length-bits w 0) (length-packed ws [])
length-packed (w ∷ ws) (v ∷ vs) = length-append (bits w v) (packed ws vs) ∙ ap₂ ◌+◌ (length-bits w v) (length-packed ws vs)

pub fields-put : (ws vs : List ℕ) (a b : List Bool) → Fit ws vs → fields_at ws (length a) (a ++ (packed ws vs ++ b)) ≡ vs
fields-put [] [] a b f = refl
fields-put [] (v ∷ vs) a b f = absurd f
fields-put (w ∷ ws) [] a b f = absurd f
fields-put (w ∷ ws) (v ∷ vs) a b f =
    rw (append_assoc (bits w v) (packed ws vs) b)
    (ap₂ ◌∷◌ (field_put a w v (packed ws vs ++ b) f.0)
    (ap₂ (λ n l. fields_at ws n l) far (sym (append_assoc a (bits w v) (packed ws vs ++ b)))
    ∙ fields-put ws vs (a ++ bits w v) b f.1))
  where
    far : length a + w ≡ length (a ++ bits w v)
    far = sym (length-append a (bits w v) ∙ ap (λ n. length a + n) (length-bits w v))

pub put-fields : (ws : List ℕ) (o : ℕ) (bs : List Bool) → o + span ws ≤ length bs → packed ws (fields_at ws o bs) ≡ take (span ws) (drop o bs)
put-fields [] o bs h = refl
put-fields (w ∷ ws) o bs h =
    ap₂ ◌++◌ (put-field o w bs (omega arith)) (put-fields ws (o + w) bs (omega arith) ∙ ap (take (span ws)) (sym (drop-drop w o bs)))
    ∙ sym (take-add w (span ws) (drop o bs))

-- the same for a list that the layout fills
pub fields-packed : (ws vs : List ℕ) → Fit ws vs → fields_at ws 0 (packed ws vs) ≡ vs
fields-packed ws vs f = ap (fields_at ws 0) (sym (append-nil (packed ws vs))) ∙ fields-put ws vs [] [] f

pub packed-fields : (ws : List ℕ) (bs : List Bool) → length bs ≡ span ws → packed ws (fields_at ws 0 bs) ≡ bs
packed-fields ws bs l = put-fields ws 0 bs (omega arith) ∙ take_all (span ws) bs (omega arith)

-- A LAYOUT IN ONE NUMBER
-- the values that a number holds: the last field is lowest
abbrev pub values_of : List ℕ → ℕ → List ℕ
values_of [] n = []
values_of (w ∷ ws) n = n / 2 ^ span ws % 2 ^ w ∷ values_of ws n

-- the number that holds these values
abbrev pub number_of : List ℕ → List ℕ → ℕ
number_of [] vs = 0
number_of (w ∷ ws) [] = 0
number_of (w ∷ ws) (v ∷ vs) = v * 2 ^ span ws + number_of ws vs

pub field-bits : (o w k n : ℕ) → field_at o w (bits (o + (w + k)) n) ≡ n / 2 ^ k % 2 ^ w
field-bits o w k n =
    rw (bits-split o (w + k) n, drop_at (bits o (n / 2 ^ (w + k))) (bits (w + k) n) o (length-bits o (n / 2 ^ (w + k))))
    (rw (bits-split w k n, take_at (bits w (n / 2 ^ k)) (bits k n) w (length-bits w (n / 2 ^ k)))
    (number-bits w (n / 2 ^ k)))

-- a part of a list is a part of its number
pub number-part : (a b c : ℕ) (l : List Bool) → length l ≡ a + b + c → number l / 2 ^ c % 2 ^ b ≡ field_at a b l
number-part a b c l e =
    sym (field-bits a b c (number l)) ∙ ap (field_at a b) (bits-number (a + (b + c)) l (e ∙ add_assoc a b c))

pub fields_bits : (ws : List ℕ) (o n : ℕ) → fields_at ws o (bits (o + span ws) n) ≡ values_of ws n
fields_bits [] o n = refl
fields_bits (w ∷ ws) o n =
    ap₂ ◌∷◌ (field-bits o w (span ws) n) (ap (λ k. fields_at ws (o + w) (bits k n)) (sym (add_assoc o w (span ws))) ∙ fields_bits ws (o + w) n)

pub number-packed : (ws vs : List ℕ) → Fit ws vs → number (packed ws vs) ≡ number_of ws vs
unfolding number
number-packed [] [] f = refl
number-packed [] (v ∷ vs) f = absurd f
number-packed (w ∷ ws) [] f = absurd f
number-packed (w ∷ ws) (v ∷ vs) f =
    number_append (bits w v) (packed ws vs)
    ∙ rw (number-bits w v, mod-eq_of_lt f.0, length-packed ws vs, number-packed ws vs f.1)

-- ---- bytes: so are the first ones, and those past them

pub fit-take : (k : ℕ) (bs : List ℕ) → AreBytes bs → AreBytes (take k bs)
fit-take zero bs f = tt
fit-take (suc k) [] f = tt
fit-take (suc k) (b ∷ bs) f = (f.0, fit-take k bs f.1)

pub fit-drop : (k : ℕ) (bs : List ℕ) → AreBytes bs → AreBytes (drop k bs)
fit-drop zero bs f = f
fit-drop (suc k) [] f = tt
fit-drop (suc k) (b ∷ bs) f = fit-drop k bs f.1
