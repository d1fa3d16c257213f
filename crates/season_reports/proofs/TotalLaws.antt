-- Totals of a key: over lists one after the other, of a key that no row has, and of rows that are gathered already. Assumes nothing.
use mathlib.Core.Path.{◌≡◌, refl, sym, ap, ap₂, ◌∙◌}
use mathlib.Core.Bool.{Bool, true, false, cond, ◌||◌, true≢false}
use mathlib.Core.List.{List, [], ◌∷◌, ◌++◌, map}
use Rattle.frame.proofs.WidthLaws.{both_false}
use Rattle.season_reports.specs.Rows.{same_key, empty_row, together}
use Rattle.season_reports.specs.Gathering.{first_seen, any_twice, key_twice, keys_of, total_of, gathered}
use Rattle.season_reports.specs.declared.Key.{Key}
use Rattle.season_reports.specs.declared.Row.{Row}
use Rattle.season_reports.proofs.RowLaws.{key-eq, together-assoc, together-empty, empty-together}
use Rattle.season_reports.proofs.SeenLaws.{among, seen-among, seen_apart, seen_twice}

-- ---- lists

pub map-append : {A B : Type 0} (f : A → B) (xs ys : List A) → map f (xs ++ ys) ≡ map f xs ++ map f ys
map-append f [] ys = refl
map-append f (x ∷ xs) ys = ap (λ l. f x ∷ l) (map-append f xs ys)

pub map_same : {A B : Type 0} (f g : A → B) (xs : List A) → ((x : A) → f x ≡ g x) → map f xs ≡ map g xs
map_same f g [] h = refl
map_same f g (x ∷ xs) h = ap₂ (λ a l. a ∷ l) (h x) (map_same f g xs h)

pub keys-append : (xs ys : List Row) → keys_of (xs ++ ys) ≡ keys_of xs ++ keys_of ys
keys-append = map-append (λ r. r.key)

-- ---- totals

pub total-key : (k : Key) (rows : List Row) → (total_of k rows).key ≡ k
unfolding total_of together
total-key k [] = refl
total-key k (r ∷ rows) = go (same_key k r.key) (total-key k rows)
  where
    go : (t : Bool) → (total_of k rows).key ≡ k → (cond t (together r (total_of k rows)) (total_of k rows)).key ≡ k
    go true e = e
    go false e = e

pub total-append : (k : Key) (xs ys : List Row) → total_of k (xs ++ ys) ≡ together (total_of k xs) (total_of k ys)
unfolding total_of
total-append k [] ys = sym (together-empty k (total_of k ys))
total-append k (r ∷ xs) ys = go (same_key k r.key) (total-append k xs ys)
  where
    go : (t : Bool) → total_of k (xs ++ ys) ≡ together (total_of k xs) (total_of k ys)
        → cond t (together r (total_of k (xs ++ ys))) (total_of k (xs ++ ys)) ≡ together (cond t (together r (total_of k xs)) (total_of k xs)) (total_of k ys)
    go true e = ap (together r) e ∙ sym (together-assoc r (total_of k xs) (total_of k ys))
    go false e = e

pub total-none : (k : Key) (rows : List Row) → among k (keys_of rows) ≡ false → total_of k rows ≡ empty_row k
unfolding total_of
total-none k [] e = refl
total-none k (r ∷ rows) e =
    let b = both_false (same_key k r.key) (among k (keys_of rows)) e in
    rw b.0 (total-none k rows b.1)

-- one row more, of this key or of another
one-own : (k : Key) (r : Row) → same_key k r.key ≡ true → total_of k (r ∷ []) ≡ r
unfolding total_of
one-own k r e = rw e (ap (λ j. together r (empty_row j)) (key-eq k r.key e) ∙ empty-together r r.key refl)

pub total-own : (k : Key) (rows : List Row) (r : Row) → same_key k r.key ≡ true → total_of k (rows ++ (r ∷ [])) ≡ together (total_of k rows) r
total-own k rows r e = total-append k rows (r ∷ []) ∙ ap (together (total_of k rows)) (one-own k r e)

pub total-other : (k : Key) (rows : List Row) (r : Row) → same_key k r.key ≡ false → total_of k (rows ++ (r ∷ [])) ≡ total_of k rows
total-other k rows r e =
    total-append k rows (r ∷ []) ∙ ap (together (total_of k rows)) (total-none k (r ∷ []) (ap (λ b. b || false) e))
    ∙ empty-together (total_of k rows) k (total-key k rows)

-- ---- rows that are gathered

-- the keys of rows that have theirs
keys-map : (f : Key → Row) → ((k : Key) → (f k).key ≡ k) → (ks : List Key) → keys_of (map f ks) ≡ ks
keys-map f own [] = refl
keys-map f own (k ∷ ks) = ap₂ (λ j l. j ∷ l) (own k) (keys-map f own ks)

pub gathered-keys : (rows : List Row) → keys_of (gathered rows) ≡ first_seen (keys_of rows)
unfolding gathered
gathered-keys rows = keys-map (λ k. total_of k rows) (λ k. total-key k rows) (first_seen (keys_of rows))

-- the total of a key over a row for each of some keys, none twice
picked : (f : Key → Row) → ((k : Key) → (f k).key ≡ k) → (j : Key) (ks : List Key) → key_twice ks ≡ false → among j ks ≡ true → total_of j (map f ks) ≡ f j
unfolding total_of any_twice
picked f own j [] e m = absurd (true≢false (sym m))
picked f own j (k ∷ ks) e m = go (same_key j k) refl (picked f own j ks both.1)
  where
    both : (among k ks ≡ false) × (key_twice ks ≡ false)
    both = both_false (among k ks) (key_twice ks) e

    go : (t : Bool) → same_key j k ≡ t → (among j ks ≡ true → total_of j (map f ks) ≡ f j)
        → cond (same_key j (f k).key) (together (f k) (total_of j (map f ks))) (total_of j (map f ks)) ≡ f j
    go true q again =
        let s : j ≡ k = key-eq j k q in
        let none : among j (keys_of (map f ks)) ≡ false = ap (among j) (keys-map f own ks) ∙ ap (λ i. among i ks) s ∙ both.0 in
        ap (λ i. cond (same_key j i) (together (f k) (total_of j (map f ks))) (total_of j (map f ks))) (own k) ∙ rw q
        (ap (together (f k)) (total-none j (map f ks) none) ∙ empty-together (f k) j (own k ∙ sym s) ∙ ap f (sym s))
    go false q again =
        ap (λ i. cond (same_key j i) (together (f k) (total_of j (map f ks))) (total_of j (map f ks))) (own k) ∙ rw q
        (again (sym (ap (λ b. b || among j ks) q) ∙ m))

-- gathering keeps every total
total-gathered : (k : Key) (rows : List Row) → total_of k (gathered rows) ≡ total_of k rows
unfolding gathered
total-gathered k rows = go (among k (keys_of rows)) refl
  where
    go : (t : Bool) → among k (keys_of rows) ≡ t → total_of k (gathered rows) ≡ total_of k rows
    go true e =
        picked (λ j. total_of j rows) (λ j. total-key j rows) k (first_seen (keys_of rows)) (seen_apart (keys_of rows))
        (seen-among k (keys_of rows) ∙ e)
    go false e =
        total-none k (gathered rows) (ap (among k) (gathered-keys rows) ∙ seen-among k (keys_of rows) ∙ e)
        ∙ sym (total-none k rows e)

-- gathered rows are told by their keys and totals
same-gathered : (ps qs : List Row) → first_seen (keys_of ps) ≡ first_seen (keys_of qs) → ((k : Key) → total_of k ps ≡ total_of k qs)
    → gathered ps ≡ gathered qs
unfolding gathered
same-gathered ps qs e h = ap (map (λ k. total_of k ps)) e ∙ map_same (λ k. total_of k ps) (λ k. total_of k qs) (first_seen (keys_of qs)) h

-- SPLIT: rows gathered in two parts and gathered again are the rows gathered at once
pub split : (xs ys : List Row) → gathered (gathered xs ++ gathered ys) ≡ gathered (xs ++ ys)
split xs ys =
    same-gathered (gathered xs ++ gathered ys) (xs ++ ys) keys (λ k. total-append k (gathered xs) (gathered ys)
    ∙ ap₂ together (total-gathered k xs) (total-gathered k ys) ∙ sym (total-append k xs ys))
  where
    keys : first_seen (keys_of (gathered xs ++ gathered ys)) ≡ first_seen (keys_of (xs ++ ys))
    keys =
        ap first_seen (keys-append (gathered xs) (gathered ys) ∙ ap₂ ◌++◌ (gathered-keys xs) (gathered-keys ys))
        ∙ seen_twice (keys_of xs) (keys_of ys) ∙ ap first_seen (sym (keys-append xs ys))
