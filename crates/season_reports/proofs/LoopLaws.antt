-- One turn of the loops over codes and rows. Assumes nothing.
use mathlib.Core.Path.{◌≡◌, refl, sym, ap, ap₂, ◌∙◌}
use mathlib.Core.Bool.{Bool, true, false, ◌||◌}
use mathlib.Core.List.{List, [], ◌∷◌, ◌++◌, map}
use Prim.Native.Nat.{ℕ, ◌+◌, ◌-◌, ◌≤◌, ◌<◌, min}
use native.Mathlib.Numerals.{add-one}
use native.Mathlib.Omega.{arith}
use lib.Dec.{leb, eqb}
use lib.ListN.{length, take, drop, get_or, set, length-take, length-drop, take-append-drop}
use Rattle.std.proofs.lemmas.List.{drop-take}
use lib.Seq.{take_at, take-suc, take-suc-set, get_or-take, take_all, take-take, drop-drop}
use borrow.Author.Tests.{eqb-true, eq-eqb, ne_eqb, eqb-false, leb-true, leb-false}
use Rattle.frame.specs.Widths.{any_of}
use Rattle.season_reports.specs.Rows.{blank_row}
use Rattle.season_reports.specs.Gathering.{any_twice, keys_of}
use Rattle.season_reports.specs.Tables.{code_of, first_index, with_rows}
use Rattle.season_reports.specs.declared.Row.{Row}
use Rattle.season_reports.specs.declared.table.Table.{Table}
use Rattle.season_reports.proofs.SeenLaws.{any_append, twice-snoc, twice-append}
use Rattle.season_reports.proofs.TotalLaws.{map-append, keys-append}
use Rattle.season_reports.proofs.PlaceLaws.{first-in, first_out}
use Rattle.season_reports.proofs.SoundLaws.{rows_append}

-- the first i of a list, and one more
take_next : {A : Type 0} (xs : List A) (i : ℕ) (d : A) → i < length xs → take (i + 1) xs ≡ take i xs ++ (get_or xs i d ∷ [])
take_next xs i d h = ap (λ j. take j xs) (add-one i) ∙ take-suc xs i d h

pub put_next : {A : Type 0} (xs : List A) (i : ℕ) (x : A) → i < length xs → take (i + 1) (set xs i x) ≡ take i xs ++ (x ∷ [])
put_next xs i x h = ap (λ j. take j (set xs i x)) (add-one i) ∙ take-suc-set xs i x h

-- none of the first i has a property, and the next has it not
pub none-next : {A : Type 0} (p : A → Bool) (xs : List A) (i : ℕ) (d : A) → i < length xs → any_of p (take i xs) ≡ false → p (get_or xs i d) ≡ false
    → any_of p (take (i + 1) xs) ≡ false
none-next p xs i d h e f =
    ap (any_of p) (take_next xs i d h) ∙ any_append p (take i xs) (get_or xs i d ∷ []) ∙ ap₂ (λ a b. a || (b || false)) e f

-- ---- codes

pub codes-next : (rows : List Row) (codes : List ℕ) (i c : ℕ) → i < length rows → i < length codes → c ≡ code_of (get_or rows i blank_row).key
    → take i codes ≡ map code_of (keys_of (take i rows)) → take (i + 1) (set codes i c) ≡ map code_of (keys_of (take (i + 1) rows))
codes-next rows codes i c h k e f =
    put_next codes i c k ∙ ap₂ (λ l x. l ++ (x ∷ [])) f e
    ∙ sym (ap (λ l. map code_of (keys_of l)) (take_next rows i blank_row h) ∙ ap (map code_of) (keys-append (take i rows) (get_or rows i blank_row ∷ []))
    ∙ map-append code_of (keys_of (take i rows)) ((get_or rows i blank_row).key ∷ []))

eqb-sym : (a b : ℕ) → eqb a b ≡ eqb b a
eqb-sym a b = go (eqb a b) refl
  where
    go : (t : Bool) → eqb a b ≡ t → eqb a b ≡ eqb b a
    go true e = e ∙ sym (eq-eqb b a (sym (eqb-true a b e)))
    go false e = e ∙ sym (ne_eqb b a (λ h. eqb-false a b e (sym h)))

module _ (xs : List ℕ) (i : ℕ) (h : i < length xs) where
  -- the next one stands among those before it, or not
  twice-next : any_twice eqb (take (i + 1) xs) ≡ any_twice eqb (take i xs) || any_of (eqb (get_or xs i 0)) (take i xs)
  twice-next = ap (any_twice eqb) (take_next xs i 0 h) ∙ twice-snoc eqb eqb-sym (take i xs) (get_or xs i 0)

  size : length (take i xs) ≡ i
  size = omega (arith, length-take i xs)

  pub twice-hit : first_index (eqb (get_or xs i 0)) (take i xs) < i → any_twice eqb xs ≡ true
  twice-hit f =
      sym (ap (any_twice eqb) (take-append-drop (i + 1) xs))
      ∙ twice-append eqb eqb-sym (take (i + 1) xs) (drop (i + 1) xs)
      (twice-next ∙ ap (λ b. any_twice eqb (take i xs) || b) (first-in (eqb (get_or xs i 0)) (take i xs) (omega (arith, size))) ∙ last (any_twice eqb (take i xs)))
    where
      last : (u : Bool) → u || true ≡ true
      last true = refl
      last false = refl

  pub twice-miss : any_twice eqb (take i xs) ≡ false → i ≤ first_index (eqb (get_or xs i 0)) (take i xs) → any_twice eqb (take (i + 1) xs) ≡ false
  twice-miss e f = twice-next ∙ ap₂ ◌||◌ e (first_out (eqb (get_or xs i 0)) (take i xs) (omega (arith, size)))

-- ---- parts of a report

-- what is copied from a report's rows are eighteen of those in use, or those that are left
pub part-law : (source new rest : List Row) (used from n : ℕ) → from ≤ used → used ≤ length source → n ≡ min (used - from) 18
    → new ≡ take (from + n - from) (drop from source) → take n (new ++ rest) ≡ take 18 (drop from (take used source))
part-law source new rest used from n h l e q =
    take_at new rest n size ∙ q ∙ ap (λ j. take j (drop from source)) same ∙ sym (go (leb (used - from) 18) refl)
    ∙ ap (take 18) (sym (ap (λ u. drop from (take u source)) whole ∙ drop-take from (used - from) source))
  where
    same : from + n - from ≡ n
    same = omega arith

    whole : used ≡ from + (used - from)
    whole = omega arith

    size : length new ≡ n
    size = omega (arith, ap length q, length-take (from + n - from) (drop from source), length-drop from source)

    go : (t : Bool) → leb (used - from) 18 ≡ t → take 18 (take (used - from) (drop from source)) ≡ take n (drop from source)
    go true s =
        let few : used - from ≤ 18 = leb-true (used - from) 18 s in
        let all : used - from ≡ n = omega arith in
        take_all 18 (take (used - from) (drop from source)) (omega (arith, length-take (used - from) (drop from source)))
        ∙ ap (λ j. take j (drop from source)) all
    go false s =
        let many : 18 < used - from = leb-false (used - from) 18 s in
        let all : 18 ≡ n = omega arith in
        take-take 18 (used - from) (drop from source) (omega arith) ∙ ap (λ j. take j (drop from source)) all

-- eighteen rows at a time, or those that are left
pub part-turn : (t : Table) (rows : List Row) (from n : ℕ) → n ≡ min 18 (length rows - from)
    → with_rows t (drop from rows) ≡ with_rows (with_rows t (take 18 (drop from rows))) (drop (from + n) rows)
part-turn t rows from n e =
    ap (with_rows t) (sym (take-append-drop n (drop from rows))) ∙ rows_append t (take n (drop from rows)) (drop n (drop from rows))
    ∙ ap₂ (λ a b. with_rows (with_rows t a) b) front (drop-drop n from rows)
  where
    size : length (drop from rows) ≡ length rows - from
    size = length-drop from rows

    front : take n (drop from rows) ≡ take 18 (drop from rows)
    front = go (leb 18 (length rows - from)) refl
      where
        go : (b : Bool) → leb 18 (length rows - from) ≡ b → take n (drop from rows) ≡ take 18 (drop from rows)
        go true f =
            let h = leb-true 18 (length rows - from) f in
            let all : n ≡ 18 = omega (arith, e, h) in
            ap (λ m. take m (drop from rows)) all
        go false f =
            let h = leb-false 18 (length rows - from) f in
            take_all n (drop from rows) (omega (arith, e, h, size)) ∙ sym (take_all 18 (drop from rows) (omega (arith, e, h, size)))

-- the place of a code among those before it, of the codes in use and of all
pub first-before : (codes : List ℕ) (used i : ℕ) → i < used
    → first_index (eqb (get_or (take used codes) i 0)) (take i (take used codes)) ≡ first_index (eqb (get_or codes i 0)) (take i codes)
first-before codes used i h =
    ap₂ (λ x l. first_index (eqb x) l) (get_or-take used codes i 0 h) (take-take i used codes (omega arith))
