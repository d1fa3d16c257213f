-- What the loops over a table do, over any table: the fields one after the other, the values pushed, the ranges, the rows; and that fields
-- which lie in the words are those of the bits. Assumes nothing.
use mathlib.Core.Path.{◌≡◌, refl, sym, ap, ap₂, ◌∙◌}
use mathlib.Core.Bool.{Bool, true, false, ◌||◌, cond, or_assoc, or-false}
use mathlib.Core.List.{List, [], ◌∷◌, ◌++◌, map, append-nil}
use Prim.Native.Nat.{ℕ, zero, suc, ◌+◌, ◌-◌, ◌%◌, ◌^◌, ◌≤◌, ◌<◌, min}
use native.Mathlib.Nat.{add-zero, mod-mod}
use native.Mathlib.Numerals.{add-one}
use native.Mathlib.Omega.{arith}
use lib.Dec.{ltb}
use lib.Pow.{pow_pos}
use lib.ListN.{length, take, drop, set, get_or, drop_of_length-le, take-append-drop}
use lib.Seq.{drop-nil, drop-cons, drop-drop, get_or-drop, take_all, take-suc-set, drop-set-lt, append_snoc}
use borrow.Author.Tests.{lt-ltb, le-ltb, ltb-true, ltb-false}
use Rattle.std.specs.Prelude.{fold}
use Rattle.bits.specs.Fields.{field_at, fields_at, span}
use Rattle.bits.specs.Rows.{data_bits}
use Rattle.bits.proofs.FieldLaws.{fits-field}
use Rattle.frame.specs.Widths.{any_of}
use Rattle.frame.proofs.WidthLaws.{both_false}
use Rattle.record_fields.specs.declared.Packer.{Packer}
use Rattle.record_fields.specs.declared.Rows.{Rows}
use Rattle.record_fields.specs.Packing.{field_in, pushed, joined, pushed_all, pushed_rows}
use Rattle.record_fields.specs.Tables.{padded, row, codes_of, fields_in, row_out, put_row, put_rows}
use Rattle.record_fields.proofs.PackCode.{field_in_lem, field-none}
use Rattle.record_fields.proofs.Holds.{Narrow}

-- ---- reading

-- field number i of the table, read from bit o; past the table it is of no bits, and 0
field_next : (ds ws : List ℕ) (k i o : ℕ)
    → padded (suc k) (fields_in ds (drop i ws) o) ≡ field_in ds o (get_or ws i 0) ∷ padded k (fields_in ds (drop (suc i) ws) (o + get_or ws i 0))
field_next ds [] k i o = rw (drop-nil {A = ℕ} i, field-none ds o 0 refl)
field_next ds (w ∷ ws) k zero o = refl
field_next ds (w ∷ ws) k (suc i) o = field_next ds ws k i o

-- one place of the row more
pub fields-next : (ds ws out : List ℕ) (i o w v : ℕ) → i < 12 → length out ≡ 12 → w ≡ get_or ws i 0 → v ≡ field_in ds o w
    → take i out ++ padded (12 - i) (fields_in ds (drop i ws) o)
    ≡ take (i + 1) (set out i v) ++ padded (12 - (i + 1)) (fields_in ds (drop (i + 1) ws) (o + w))
fields-next ds ws out i o w v h l ew ev =
    ap (λ k. take i out ++ padded k (fields_in ds (drop i ws) o)) less
    ∙ ap (λ r. take i out ++ r) (field_next ds ws (12 - (i + 1)) i o)
    ∙ ap₂ (λ x y. take i out ++ (field_in ds o x ∷ padded (12 - (i + 1)) (fields_in ds (drop y ws) (o + x)))) (sym ew) (sym (add-one i))
    ∙ ap (λ x. take i out ++ (x ∷ rest)) (sym ev)
    ∙ sym (append_snoc (take i out) v rest)
    ∙ ap (λ x. x ++ rest) (sym (ap (λ k. take k (set out i v)) (add-one i) ∙ take-suc-set out i v (omega arith)))
  where
    less : 12 - i ≡ suc (12 - (i + 1))
    less = omega arith

    rest : List ℕ
    rest = padded (12 - (i + 1)) (fields_in ds (drop (i + 1) ws) (o + w))

-- past the table there are zeros
pub fields-none : (ds ws out : List ℕ) (i o : ℕ) → length ws ≤ i → drop i out ≡ padded (12 - i) []
    → take i out ++ padded (12 - i) (fields_in ds (drop i ws) o) ≡ out
fields-none ds ws out i o h e =
    ap (λ l. take i out ++ padded (12 - i) (fields_in ds l o)) (drop_of_length-le ws h) ∙ ap (λ l. take i out ++ l) (sym e) ∙ take-append-drop i out

pub zeros-next : (out : List ℕ) (i v : ℕ) → i < 12 → drop i out ≡ padded (12 - i) [] → drop (i + 1) (set out i v) ≡ padded (12 - (i + 1)) []
zeros-next out i v h e =
    drop-set-lt (i + 1) out i v (omega arith) ∙ sym (drop-drop 1 i out) ∙ ap (drop 1) (e ∙ ap (λ k. padded k []) less)
  where
    less : 12 - i ≡ suc (12 - (i + 1))
    less = omega arith

-- a row is full at its twelfth place
pub fields-end : (ds ws out : List ℕ) (i o : ℕ) → i ≤ 12 → 12 ≤ i → length out ≡ 12
    → take i out ++ padded (12 - i) (fields_in ds (drop i ws) o) ≡ out
fields-end ds ws out i o h k l =
    ap (λ n. take i out ++ padded n (fields_in ds (drop i ws) o)) none ∙ append-nil (take i out) ∙ take_all i out (omega arith)
  where
    none : 12 - i ≡ 0
    none = omega arith

-- a row is done at the table's end, or at the twelfth place
pub fields-done : (ds ws out : List ℕ) (i o : ℕ) → min (length ws) 12 ≤ i → i ≤ 12 → length out ≡ 12 → drop i out ≡ padded (12 - i) []
    → take i out ++ padded (12 - i) (fields_in ds (drop i ws) o) ≡ out
fields-done ds ws out i o h k l e = go (ltb i 12) refl
  where
    go : (t : Bool) → ltb i 12 ≡ t → take i out ++ padded (12 - i) (fields_in ds (drop i ws) o) ≡ out
    go true q = let b = ltb-true i 12 q in fields-none ds ws out i o (omega arith) e
    go false q = fields-end ds ws out i o k (ltb-false i 12 q) l

-- fields that lie in the words
pub fields_in_lem : (ds ws : List ℕ) (o : ℕ) → Narrow ws → o + span ws ≤ 744 → fields_in ds ws o ≡ fields_at ws o (data_bits ds)
fields_in_lem ds [] o n r = refl
fields_in_lem ds (w ∷ ws) o n r =
    ap₂ ◌∷◌ (field_in_lem ds o w n.0 (omega arith)) (fields_in_lem ds ws (o + w) n.1 (omega arith))

-- a field is below two to its width
field_fits : (ds : List ℕ) (o w : ℕ) → field_in ds o w < 2 ^ w
unfolding field_in
field_fits ds o w = go (ltb 32 w || ltb 744 (o + w))
  where
    go : (b : Bool) → cond b 0 (field_at o w (data_bits ds)) < 2 ^ w
    go true = pow_pos w
    go false = fits-field o w (data_bits ds)

padded-fit : (ds ws : List ℕ) (n o k : ℕ) → get_or (padded n (fields_in ds ws o)) k 0 < 2 ^ get_or ws k 0
padded-fit ds ws zero o k = pow_pos (get_or ws k 0)
padded-fit ds [] (suc n) o zero = omega arith
padded-fit ds [] (suc n) o (suc k) = padded-fit ds [] n o k
padded-fit ds (w ∷ ws) (suc n) o zero = field_fits ds o w
padded-fit ds (w ∷ ws) (suc n) o (suc k) = padded-fit ds ws n (o + w) k

pub fields_fit : (ds ws : List ℕ) (o : ℕ) (vs : List ℕ) → vs ≡ row (fields_in ds ws o) → (k : ℕ) → get_or vs k 0 < 2 ^ get_or ws k 0
fields_fit ds ws o vs e k = rw e (padded-fit ds ws 12 o k)

-- a row that is read in the words is that of the bits
pub row_read_lem : (ds ws : List ℕ) (o : ℕ) (vs : List ℕ) → vs ≡ row (fields_in ds ws o) → Narrow ws → o + span ws ≤ 744
    → vs ≡ row (fields_at ws o (data_bits ds))
row_read_lem ds ws o vs e n r = e ∙ ap row (fields_in_lem ds ws o n r)

-- ---- putting

-- the value sent is its low bits
push-low : (p : Packer) (w v : ℕ) → pushed p w v ≡ pushed p w (v % 2 ^ w)
unfolding pushed joined
push-low p w v = rw (mod-mod v (2 ^ w))

-- and of a row its codes
pub push-codes : (ws vs : List ℕ) (p : Packer) → pushed_all ws vs p ≡ pushed_all ws (codes_of ws vs) p
push-codes [] vs p = refl
push-codes (w ∷ ws) [] p = push-codes ws [] (pushed p w 0)
push-codes (w ∷ ws) (v ∷ vs) p = push-codes ws vs (pushed p w v) ∙ ap (pushed_all ws (codes_of ws vs)) (push-low p w v)

-- the next value; past the last it is 0
tail-next : (us : List ℕ) (j : ℕ) (p : Packer) → j < length us
    → pushed_all (drop j us) [] p ≡ pushed_all (drop (suc j) us) [] (pushed p (get_or us j 0) 0)
tail-next [] j p l = absurd (omega arith)
tail-next (u ∷ us) zero p l = refl
tail-next (u ∷ us) (suc j) p l = tail-next us j p (omega arith)

all-next : (us ts : List ℕ) (j : ℕ) (p : Packer) → j < length us
    → pushed_all (drop j us) (drop j ts) p ≡ pushed_all (drop (suc j) us) (drop (suc j) ts) (pushed p (get_or us j 0) (get_or ts j 0))
all-next [] ts j p l = absurd (omega arith)
all-next (u ∷ us) [] zero p l = refl
all-next (u ∷ us) (t ∷ ts) zero p l = refl
all-next (u ∷ us) [] (suc j) p l = tail-next us j p (omega arith)
all-next (u ∷ us) (t ∷ ts) (suc j) p l = all-next us ts j p (omega arith)

pub push-next : (ws vs : List ℕ) (i w v : ℕ) (p q : Packer) → i < length ws → w ≡ get_or ws i 0 → v ≡ get_or vs i 0 → q ≡ pushed p w v
    → pushed_all (drop i ws) (drop i vs) p ≡ pushed_all (drop (i + 1) ws) (drop (i + 1) vs) q
push-next ws vs i w v p q h ew ev eq =
    all-next ws vs i p h ∙ ap₂ (λ k r. pushed_all (drop k ws) (drop k vs) r) (sym (add-one i)) (ap₂ (pushed p) (sym ew) (sym ev) ∙ sym eq)

pub push-end : (ws vs : List ℕ) (i : ℕ) (p : Packer) → length ws ≤ i → pushed_all (drop i ws) (drop i vs) p ≡ p
push-end ws vs i p h = ap (λ l. pushed_all l (drop i vs) p) (drop_of_length-le ws h)

-- ---- ranges

-- value number i, with its least and its most
module _ (ls ms vs : List ℕ) (i v l m : ℕ) (ev : v ≡ get_or vs i 0) (el : l ≡ get_or ls i 0) (em : m ≡ get_or ms i 0) (h : i < length ms) where
  out-next : row_out (drop i ls) (drop i ms) (drop i vs) ≡ ltb v l || ltb m v || row_out (drop (i + 1) ls) (drop (i + 1) ms) (drop (i + 1) vs)
  out-next =
      ap (λ k. row_out (drop i ls) k (drop i vs)) (drop-cons ms i 0 h)
      ∙ ap₂ (λ a b. ltb a b || ltb (get_or ms i 0) a || row_out (drop 1 (drop i ls)) (drop (suc i) ms) (drop 1 (drop i vs)))
      (at vs ∙ sym ev) (at ls ∙ sym el)
      ∙ ap₂ (λ a b. ltb v l || ltb (get_or ms i 0) v || row_out a (drop (suc i) ms) b) (drop-drop 1 i ls) (drop-drop 1 i vs)
      ∙ ap₂ (λ a b. ltb v l || ltb a v || row_out (drop (i + 1) ls) (drop b ms) (drop (i + 1) vs)) (sym em) (sym (add-one i))
    where
      at : (k : List ℕ) → get_or (drop i k) 0 0 ≡ get_or k i 0
      at k = get_or-drop i k 0 0 ∙ ap (λ j. get_or k j 0) (add-zero i)

  pub out-low : v < l → row_out (drop i ls) (drop i ms) (drop i vs) ≡ true
  out-low s = out-next ∙ rw (lt-ltb v l s)

  pub out-high : l ≤ v → m < v → row_out (drop i ls) (drop i ms) (drop i vs) ≡ true
  out-high s t = out-next ∙ rw (le-ltb v l s, lt-ltb m v t)

  pub out-fine : l ≤ v → v ≤ m → row_out (drop i ls) (drop i ms) (drop i vs) ≡ row_out (drop (i + 1) ls) (drop (i + 1) ms) (drop (i + 1) vs)
  out-fine s t = out-next ∙ rw (le-ltb v l s, le-ltb m v t)

pub out-end : (ls ms vs : List ℕ) (i : ℕ) → length ms ≤ i → row_out (drop i ls) (drop i ms) (drop i vs) ≡ false
out-end ls ms vs i h = ap (λ k. row_out (drop i ls) k (drop i vs)) (drop_of_length-le ms h)

-- ---- rows

-- what rows leave: a packer with them in it, and whether one of them is outside its range
pub rows-put : (ws ls ms : List ℕ) (rs : List (List ℕ)) (r : Rows)
    → put_rows ws ls ms rs r ≡ record { packer = pushed_rows ws rs r.packer; out = r.out || any_of (row_out ls ms) rs }
unfolding put_row
rows-put ws ls ms [] r = ap (λ b. record { packer = r.packer; out = b }) (sym (or-false r.out))
rows-put ws ls ms (v ∷ vs) r =
    rows-put ws ls ms vs (put_row ws ls ms v r)
    ∙ ap (λ b. record { packer = pushed_rows ws vs (pushed_all ws v r.packer); out = b }) (or_assoc r.out (row_out ls ms v) (any_of (row_out ls ms) vs))

-- the rows of entries are put one entry after the other
pub rows-folded : {A : Type 0} (numbers : A → List ℕ) (ws ls ms : List ℕ) (es : List A) (r : Rows)
    → put_rows ws ls ms (map numbers es) r ≡ fold (λ s e. put_row ws ls ms (numbers e) s) r es
rows-folded numbers ws ls ms [] r = refl
rows-folded numbers ws ls ms (e ∷ es) r = rows-folded numbers ws ls ms es (put_row ws ls ms (numbers e) r)

-- ---- what a range check says, value by value

abbrev pub InRow : List ℕ → List ℕ → List ℕ → Type 0
InRow ls [] vs = Unit {0}
InRow ls (m ∷ ms) vs = (get_or ls 0 0 ≤ get_or vs 0 0) × (get_or vs 0 0 ≤ m) × InRow (drop 1 ls) ms (drop 1 vs)

pub row_fine : (ls ms vs : List ℕ) → InRow ls ms vs → row_out ls ms vs ≡ false
row_fine ls [] vs r = refl
row_fine ls (m ∷ ms) vs r = rw (le-ltb (get_or vs 0 0) (get_or ls 0 0) r.0, le-ltb m (get_or vs 0 0) r.1) (row_fine (drop 1 ls) ms (drop 1 vs) r.2)

pub row_told : (ls ms vs : List ℕ) → row_out ls ms vs ≡ false → InRow ls ms vs
row_told ls [] vs e = tt
row_told ls (m ∷ ms) vs e =
    let a = both_false (ltb (get_or vs 0 0) (get_or ls 0 0) || ltb m (get_or vs 0 0)) (row_out (drop 1 ls) ms (drop 1 vs)) e in
    let b = both_false (ltb (get_or vs 0 0) (get_or ls 0 0)) (ltb m (get_or vs 0 0)) a.0 in
    (ltb-false (get_or vs 0 0) (get_or ls 0 0) b.0, ltb-false m (get_or vs 0 0) b.1, row_told (drop 1 ls) ms (drop 1 vs) a.1)
