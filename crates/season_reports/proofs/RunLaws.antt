-- A table to which all rows were added says what is defined over all of them: their totals, or which refusal. Assumes nothing.
use mathlib.Core.Path.{◌≡◌, refl, sym, ap, ap₂, ◌∙◌}
use mathlib.Core.Bool.{Bool, true, false, ◌||◌, true≢false}
use mathlib.Core.List.{List, [], ◌∷◌, ◌++◌, map}
use Prim.Native.Nat.{ℕ, zero, suc, ◌+◌, ◌^◌, ◌<◌}
use native.Mathlib.Omega.{arith}
use lib.Dec.{leb}
use lib.ListN.{length, get_or, set, length-map}
use borrow.Author.Tests.{le-leb, leb-true}
use Rattle.frame.specs.Widths.{any_of}
use Rattle.frame.proofs.WidthLaws.{both_false}
use Rattle.season_reports.specs.Rows.{same_key, blank_row, together, over_count}
use Rattle.season_reports.specs.Gathering.{first_seen, any_twice, key_twice, keys_of, total_of, gathered}
use Rattle.season_reports.specs.declared.Key.{Key}
use Rattle.season_reports.specs.declared.Row.{Row}
use Rattle.season_reports.proofs.RowLaws.{key-eq, key-refl, key-same, key-sym, together-empty}
use Rattle.season_reports.proofs.SeenLaws.{among, any_append, seen-seen, seen-new, seen-among, seen_apart}
use Rattle.season_reports.proofs.TotalLaws.{map-append, keys-append, total-key, total-append, total-none, total-own, total-other}
use Rattle.season_reports.proofs.TotalLaws.{gathered-keys}

-- ---- gathered rows, one row more

pub gathered-length : (rows : List Row) → length (gathered rows) ≡ length (first_seen (keys_of rows))
unfolding gathered
gathered-length rows = length-map (first_seen (keys_of rows)) (λ k. total_of k rows)

-- of keys that are not k, functions that differ at k alone say the same
map-others : {A : Type 0} (f g : Key → A) (k : Key) (ks : List Key) → among k ks ≡ false → ((j : Key) → same_key j k ≡ false → f j ≡ g j) → map f ks ≡ map g ks
map-others f g k [] e h = refl
map-others f g k (j ∷ ks) e h =
    let b = both_false (same_key k j) (among k ks) e in
    ap₂ (λ a l. a ∷ l) (h j (key-sym j k ∙ b.0)) (map-others f g k ks b.1 h)

-- and where k stands once, its place alone is other
map-own : {A : Type 0} (f g : Key → A) (k d : Key) (ks : List Key) (i : ℕ) → key_twice ks ≡ false → i < length ks → get_or ks i d ≡ k
    → ((j : Key) → same_key j k ≡ false → f j ≡ g j) → map g ks ≡ set (map f ks) i (g k)
unfolding any_twice
map-own f g k d [] i e h at same = absurd (omega arith)
map-own f g k d (j ∷ ks) zero e h at same =
    let b = both_false (among j ks) (key_twice ks) e in
    ap₂ (λ a l. a ∷ l) (ap g at) (sym (map-others f g k ks (ap (λ x. among x ks) (sym at) ∙ b.0) same))
map-own f g k d (j ∷ ks) (suc i) e h at same =
    let b = both_false (among j ks) (key_twice ks) e in
    ap₂ (λ a l. a ∷ l) (sym (same j (other (same_key j k) refl b.0))) (map-own f g k d ks i b.1 (omega arith) at same)
  where
    there : (xs : List Key) (n : ℕ) → n < length xs → get_or xs n d ≡ k → among k xs ≡ true
    there [] n l q = absurd (omega arith)
    there (x ∷ xs) zero l q = ap (λ b. b || among k xs) (key-same k x (sym q))
    there (x ∷ xs) (suc n) l q = go (same_key k x) (there xs n (omega arith) q)
      where
        go : (t : Bool) → among k xs ≡ true → t || among k xs ≡ true
        go true m = refl
        go false m = m

    other : (t : Bool) → same_key j k ≡ t → among j ks ≡ false → same_key j k ≡ false
    other true q n = absurd (true≢false (sym (there ks i (omega arith) at) ∙ ap (λ x. among x ks) (sym (key-eq j k q)) ∙ n))
    other false q n = q

-- ---- by places

pub map_at : {A B : Type 0} (f : A → B) (xs : List A) (i : ℕ) (d : A) (e : B) → i < length xs → get_or (map f xs) i e ≡ f (get_or xs i d)
map_at f [] i d e h = absurd (omega arith)
map_at f (x ∷ xs) zero d e h = refl
map_at f (x ∷ xs) (suc i) d e h = map_at f xs i d e (omega arith)

at_key : (p : List Row) (i : ℕ) → i < length (gathered p) → get_or (gathered p) i blank_row ≡ total_of (get_or (first_seen (keys_of p)) i blank_row.key) p
unfolding gathered
at_key p i h =
    map_at (λ k. total_of k p) (first_seen (keys_of p)) i blank_row.key blank_row (omega (arith, length-map (first_seen (keys_of p)) (λ k. total_of k p)))

-- a gathered row has the totals of its key
pub gathered-at : (p : List Row) (i : ℕ) → i < length (gathered p) → get_or (gathered p) i blank_row ≡ total_of (get_or (gathered p) i blank_row).key p
gathered-at p i h =
    at_key p i h
    ∙ ap (λ j. total_of j p) (sym (ap (λ r. r.key) (at_key p i h) ∙ total-key (get_or (first_seen (keys_of p)) i blank_row.key) p))

-- a key that was seen: its row alone is other
pub gathered-old : (p : List Row) (r : Row) (i : ℕ) → i < length (gathered p) → get_or (keys_of (gathered p)) i r.key ≡ r.key
    → among r.key (keys_of p) ≡ true → gathered (p ++ (r ∷ [])) ≡ set (gathered p) i (together (total_of r.key p) r)
unfolding gathered
gathered-old p r i h at e =
    ap (map (λ k. total_of k (p ++ (r ∷ [])))) (ap first_seen (keys-append p (r ∷ [])) ∙ seen-seen (keys_of p) r.key e)
    ∙ map-own (λ k. total_of k p) (λ k. total_of k (p ++ (r ∷ []))) r.key r.key (first_seen (keys_of p)) i (seen_apart (keys_of p))
    (omega (arith, length-map (first_seen (keys_of p)) (λ k. total_of k p)))
    (sym (ap (λ l. get_or l i r.key) (gathered-keys p)) ∙ at)
    (λ j q. sym (total-other j p r q))
    ∙ ap (set (map (λ k. total_of k p) (first_seen (keys_of p))) i) (total-own r.key p r (key-refl r.key))

-- a new key: its row behind the others
pub gathered-new : (p : List Row) (r : Row) → among r.key (keys_of p) ≡ false → gathered (p ++ (r ∷ [])) ≡ gathered p ++ (r ∷ [])
unfolding gathered
gathered-new p r e =
    ap (map f) (ap first_seen (keys-append p (r ∷ [])) ∙ seen-new (keys_of p) r.key e)
    ∙ map-append f (first_seen (keys_of p)) (r.key ∷ [])
    ∙ ap₂ (λ l x. l ++ (x ∷ []))
    (map-others f (λ k. total_of k p) r.key (first_seen (keys_of p)) (seen-among r.key (keys_of p) ∙ e) (λ j q. total-other j p r q))
    (total-own r.key p r (key-refl r.key) ∙ ap (λ x. together x r) (total-none r.key p e) ∙ together-empty r.key r)
  where
    f : Key → Row
    f k = total_of k (p ++ (r ∷ []))

-- ---- counts do not fall

over-more : (a b : Row) → over_count a ≡ true → over_count (together a b) ≡ true
unfolding over_count together
over-more a b e = go (leb (2 ^ 32) a.usable) refl e
  where
    go : (t : Bool) → leb (2 ^ 32) a.usable ≡ t → leb (2 ^ 32) a.usable || leb (2 ^ 32) a.stops ≡ true
        → leb (2 ^ 32) (a.usable + b.usable) || leb (2 ^ 32) (a.stops + b.stops) ≡ true
    go true f h = rw (le-leb (2 ^ 32) (a.usable + b.usable) (omega (arith, leb-true (2 ^ 32) a.usable f)))
    go false f h =
        let k = leb-true (2 ^ 32) a.stops (sym (ap (λ u. u || leb (2 ^ 32) a.stops) f) ∙ h) in
        ap (λ u. leb (2 ^ 32) (a.usable + b.usable) || u) (le-leb (2 ^ 32) (a.stops + b.stops) (omega arith)) ∙ last (leb (2 ^ 32) (a.usable + b.usable))
      where
        last : (u : Bool) → u || true ≡ true
        last true = refl
        last false = refl

any-more : (f g : Key → Row) (ks : List Key) → ((k : Key) → over_count (f k) ≡ true → over_count (g k) ≡ true) → any_of over_count (map f ks) ≡ true
    → any_of over_count (map g ks) ≡ true
any-more f g [] h e = e
any-more f g (k ∷ ks) h e = go (over_count (f k)) refl (any-more f g ks h) e
  where
    go : (t : Bool) → over_count (f k) ≡ t → (any_of over_count (map f ks) ≡ true → any_of over_count (map g ks) ≡ true)
        → over_count (f k) || any_of over_count (map f ks) ≡ true → over_count (g k) || any_of over_count (map g ks) ≡ true
    go true q again m = rw (h k q)
    go false q again m =
        ap (λ u. over_count (g k) || u) (again (sym (ap (λ u. u || any_of over_count (map f ks)) q) ∙ m)) ∙ last (over_count (g k))
      where
        last : (u : Bool) → u || true ≡ true
        last true = refl
        last false = refl

any-front : (xs ys : List Row) → any_of over_count xs ≡ true → any_of over_count (xs ++ ys) ≡ true
any-front xs ys e = any_append over_count xs ys ∙ ap (λ b. b || any_of over_count ys) e

pub over-stays : (p : List Row) (r : Row) → any_of over_count (gathered p) ≡ true → any_of over_count (gathered (p ++ (r ∷ []))) ≡ true
unfolding gathered
over-stays p r e = go (among r.key (keys_of p)) refl
  where
    grow : any_of over_count (map (λ k. total_of k (p ++ (r ∷ []))) (first_seen (keys_of p))) ≡ true
    grow =
        any-more (λ k. total_of k p) (λ k. total_of k (p ++ (r ∷ []))) (first_seen (keys_of p))
        (λ k q. ap over_count (total-append k p (r ∷ [])) ∙ over-more (total_of k p) (total_of k (r ∷ [])) q) e

    go : (t : Bool) → among r.key (keys_of p) ≡ t → any_of over_count (gathered (p ++ (r ∷ []))) ≡ true
    go true f =
        ap (λ ks. any_of over_count (map (λ k. total_of k (p ++ (r ∷ []))) ks)) (ap first_seen (keys-append p (r ∷ [])) ∙ seen-seen (keys_of p) r.key f) ∙ grow
    go false f =
        ap (λ ks. any_of over_count (map (λ k. total_of k (p ++ (r ∷ []))) ks)) (ap first_seen (keys-append p (r ∷ [])) ∙ seen-new (keys_of p) r.key f)
        ∙ ap (any_of over_count) (map-append (λ k. total_of k (p ++ (r ∷ []))) (first_seen (keys_of p)) (r.key ∷ []))
        ∙ any-front (map (λ k. total_of k (p ++ (r ∷ []))) (first_seen (keys_of p))) (total_of r.key (p ++ (r ∷ [])) ∷ []) grow
