-- The first of a list that has a property, and what is said of each of a list. Assumes nothing.
use mathlib.Core.Path.{◌≡◌, refl, sym, ap, ap₂, ◌∙◌}
use mathlib.Core.Bool.{Bool, true, false, cond, ◌||◌, true≢false}
use mathlib.Core.List.{List, [], ◌∷◌, ◌++◌, map}
use Prim.Native.Nat.{ℕ, zero, suc, ◌+◌, ◌≤◌, ◌<◌}
use native.Mathlib.Omega.{arith}
use lib.Dec.{eqb}
use native.Mathlib.Numerals.{add-one}
use lib.ListN.{length, take, drop, get_or, set, drop_of_length-le}
use lib.Seq.{drop-cons}
use Rattle.frame.specs.Widths.{any_of}
use Rattle.record_fields.specs.Coding.{Each}
use Rattle.season_reports.specs.Rows.{same_key}
use Rattle.season_reports.specs.Gathering.{keys_of, any_twice}
use Rattle.season_reports.specs.Tables.{code_of, first_index, SoundRow}
use Rattle.season_reports.specs.declared.Key.{Key}
use Rattle.season_reports.specs.declared.Row.{Row}
use Rattle.season_reports.proofs.RowLaws.{code_same}

module _ {A : Type 0} (p : A → Bool) where
  pub first-most : (xs : List A) → first_index p xs ≤ length xs
  unfolding first_index
  first-most [] = omega arith
  first-most (x ∷ xs) = go (p x) (first-most xs)
    where
      go : (t : Bool) → first_index p xs ≤ length xs → cond t 0 (suc (first_index p xs)) ≤ suc (length xs)
      go true h = omega arith
      go false h = omega arith

  -- one is there, with the property
  pub first-hit : (xs : List A) (d : A) → first_index p xs < length xs → p (get_or xs (first_index p xs) d) ≡ true
  unfolding first_index
  first-hit [] d h = absurd (omega arith)
  first-hit (x ∷ xs) d h = go (p x) refl (first-hit xs d) h
    where
      go : (t : Bool) → p x ≡ t → (first_index p xs < length xs → p (get_or xs (first_index p xs) d) ≡ true)
          → cond (p x) 0 (suc (first_index p xs)) < suc (length xs) → p (get_or (x ∷ xs) (cond (p x) 0 (suc (first_index p xs))) d) ≡ true
      go true e again h = rw e e
      go false e again h = let k : suc (first_index p xs) < suc (length xs) = rw e at h in rw e (again (omega arith))

  pub first-in : (xs : List A) → first_index p xs < length xs → any_of p xs ≡ true
  unfolding first_index
  first-in [] h = absurd (omega arith)
  first-in (x ∷ xs) h = go (p x) refl (first-in xs) h
    where
      go : (t : Bool) → p x ≡ t → (first_index p xs < length xs → any_of p xs ≡ true)
          → cond (p x) 0 (suc (first_index p xs)) < suc (length xs) → p x || any_of p xs ≡ true
      go true e again h = rw e
      go false e again h = let k : suc (first_index p xs) < suc (length xs) = rw e at h in rw e (again (omega arith))

  pub first_out : (xs : List A) → length xs ≤ first_index p xs → any_of p xs ≡ false
  unfolding first_index
  first_out [] h = refl
  first_out (x ∷ xs) h = go (p x) refl (first_out xs) h
    where
      go : (t : Bool) → p x ≡ t → (length xs ≤ first_index p xs → any_of p xs ≡ false)
          → suc (length xs) ≤ cond (p x) 0 (suc (first_index p xs)) → p x || any_of p xs ≡ false
      go true e again h = absurd (let k : suc (length xs) ≤ 0 = rw e at h in omega arith)
      go false e again h = let k : suc (length xs) ≤ suc (first_index p xs) = rw e at h in rw e (again (omega arith))

  -- the first of a list without it is further on by one place
  pub first-at : (xs : List A) (i : ℕ) (d : A) → i < length xs → any_of p (take i xs) ≡ false → p (get_or xs i d) ≡ true → first_index p xs ≡ i
  unfolding first_index
  first-at [] i d h n e = absurd (omega arith)
  first-at (x ∷ xs) zero d h n e = rw e
  first-at (x ∷ xs) (suc i) d h n e = go (p x) refl n (λ m. first-at xs i d (omega arith) m e)
    where
      go : (t : Bool) → p x ≡ t → p x || any_of p (take i xs) ≡ false → (any_of p (take i xs) ≡ false → first_index p xs ≡ i)
          → cond (p x) 0 (suc (first_index p xs)) ≡ suc i
      go true f m again = absurd (true≢false (sym (ap (λ b. b || any_of p (take i xs)) f) ∙ m))
      go false f m again = rw f (ap suc (again (sym (ap (λ b. b || any_of p (take i xs)) f) ∙ m)))

  pub first-none : (xs : List A) → any_of p xs ≡ false → first_index p xs ≡ length xs
  unfolding first_index
  first-none [] e = refl
  first-none (x ∷ xs) e = go (p x) refl e (first-none xs)
    where
      go : (t : Bool) → p x ≡ t → p x || any_of p xs ≡ false → (any_of p xs ≡ false → first_index p xs ≡ length xs)
          → cond (p x) 0 (suc (first_index p xs)) ≡ suc (length xs)
      go true f m again = absurd (true≢false (sym (ap (λ b. b || any_of p xs) f) ∙ m))
      go false f m again = rw f (ap suc (again (sym (ap (λ b. b || any_of p xs) f) ∙ m)))

-- by codes it is the same place, of rows within their types
pub first_code_lem : (r : Row) (rows : List Row) → SoundRow r → Each SoundRow rows
    → first_index (eqb (code_of r.key)) (map code_of (keys_of rows)) ≡ first_index (λ s. same_key r.key s.key) rows
unfolding first_index
first_code_lem r [] p q = refl
first_code_lem r (s ∷ rows) p q =
    ap₂ (λ t n. cond t 0 (suc n))
    (code_same r.key s.key p.typed.station p.typed.satellite q.0.typed.station q.0.typed.satellite)
    (first_code_lem r rows p q.1)

-- and a code stands again exactly where its key does
any_code : (r : Row) (rows : List Row) → SoundRow r → Each SoundRow rows
    → any_of (eqb (code_of r.key)) (map code_of (keys_of rows)) ≡ any_of (same_key r.key) (keys_of rows)
any_code r [] p q = refl
any_code r (s ∷ rows) p q =
    ap₂ ◌||◌ (code_same r.key s.key p.typed.station p.typed.satellite q.0.typed.station q.0.typed.satellite)
    (any_code r rows p q.1)

pub any-key : (k : Key) (rows : List Row) → any_of (λ s. same_key k s.key) rows ≡ any_of (same_key k) (keys_of rows)
any-key k [] = refl
any-key k (s ∷ rows) = ap (λ b. same_key k s.key || b) (any-key k rows)

-- ---- each of a list

module _ {A : Type 0} (P : A → Type 0) where
  pub each_append : (xs ys : List A) → Each P xs → Each P ys → Each P (xs ++ ys)
  each_append [] ys p q = q
  each_append (x ∷ xs) ys p q = (p.0, each_append xs ys p.1 q)

  pub each_set : (xs : List A) (i : ℕ) (x : A) → Each P xs → P x → Each P (set xs i x)
  each_set [] i x p q = p
  each_set (y ∷ xs) zero x p q = (q, p.1)
  each_set (y ∷ xs) (suc i) x p q = (p.0, each_set xs i x p.1 q)

  pub each_at : (xs : List A) (i : ℕ) (d : A) → Each P xs → i < length xs → P (get_or xs i d)
  each_at [] i d p h = absurd (omega arith)
  each_at (x ∷ xs) zero d p h = p.0
  each_at (x ∷ xs) (suc i) d p h = each_at xs i d p.1 (omega arith)

  pub each_all : (xs : List A) (d : A) → ((i : ℕ) → i < length xs → P (get_or xs i d)) → Each P xs
  each_all [] d h = tt
  each_all (x ∷ xs) d h = (h 0 (omega arith), each_all xs d (λ i l. h (suc i) (omega arith)))

  pub each_take : (n : ℕ) (xs : List A) → Each P xs → Each P (take n xs)
  each_take zero xs p = tt
  each_take (suc n) [] p = tt
  each_take (suc n) (x ∷ xs) p = (p.0, each_take n xs p.1)

  pub each-drop : (n : ℕ) (xs : List A) → Each P xs → Each P (drop n xs)
  each-drop zero xs p = p
  each-drop (suc n) [] p = tt
  each-drop (suc n) (x ∷ xs) p = each-drop n xs p.1

-- ---- one turn of a loop over a list

module _ {A : Type 0} (p : A → Bool) (i : ℕ) (xs : List A) (d : A) where
  pub turn-hit : i < length xs → p (get_or xs i d) ≡ true → any_of p (drop i xs) ≡ true
  turn-hit h e = rw (drop-cons xs i d h, e)

  pub turn-miss : i < length xs → p (get_or xs i d) ≡ false → any_of p (drop i xs) ≡ any_of p (drop (i + 1) xs)
  turn-miss h e = rw (drop-cons xs i d h, e, add-one i)

  pub turn_end : length xs ≤ i → any_of p (drop i xs) ≡ false
  turn_end h = rw (drop_of_length-le xs h)

-- a code stands again exactly where its key does
pub twice-code : (rows : List Row) → Each SoundRow rows → any_twice eqb (map code_of (keys_of rows)) ≡ any_twice same_key (keys_of rows)
unfolding any_twice
twice-code [] q = refl
twice-code (r ∷ rows) q = ap₂ ◌||◌ (any_code r rows q.0 q.1) (twice-code rows q.1)
