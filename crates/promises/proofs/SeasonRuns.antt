-- Rows of entries, gathered, are the rows of a season; rows that have room, neither 18 nor 19, and their parts; rows that are right stay so.
-- Assumes nothing.
use mathlib.Core.Path.{◌≡◌, refl, sym, ap, ap₂, ◌∙◌}
use mathlib.Core.Bool.{Bool, true, false, cond, ◌||◌, true≢false}
use mathlib.Core.List.{List, [], ◌∷◌, ◌++◌, map, append-nil}
use Prim.Native.Nat.{ℕ, suc, ◌+◌, ◌^◌, ◌≤◌}
use native.Mathlib.Nat.{zero-add}
use native.Mathlib.Omega.{arith}
use lib.Dec.{leb}
use lib.IntN.{ℤ, pos, ◌+ℤ◌, ◌*ℤ◌, +ℤ_idl, zero-*ℤ, suc_ℤ-*ℤ}
use lib.ListN.{length}
use lib.Signed.{lt_z}
use borrow.Author.Tests.{lt-leb, leb-false, le-ltb, ltb-false}
use Rattle.answer.specs.Order.{NoneApplies}
use Rattle.frame.specs.Widths.{any_of}
use Rattle.frame.proofs.WidthLaws.{both_false}
use Rattle.record_values.specs.Values.{Reading, exactly, stop}
use Rattle.season_reports.specs.Rows.{same_key, empty_row, widest, together, wrong_sum, over_count}
use Rattle.season_reports.specs.Gathering.{new_after, first_seen, keys_of, total_of, gathered}
use Rattle.season_reports.specs.Season.{Entry, usable_with, usable_of, stops_with, stops_of, ends_of, sum_of, row_of, season_rows, reading_row, entry_row}
use Rattle.season_reports.specs.Journals.{contents_of}
use Rattle.season_reports.specs.Reports.{most_rows, sum_order, journal_rows}
use Rattle.season_reports.specs.declared.Key.{Key}
use Rattle.season_reports.specs.declared.Row.{Row}
use Rattle.season_reports.specs.declared.Extremes.TheVariants.{Present}
use Rattle.season_reports.proofs.Integers.{most-refl, most-told}
use Rattle.season_reports.proofs.RowLaws.{key-eq}
use Rattle.season_reports.proofs.RightLaws.{together-right}
use Rattle.season_reports.proofs.SeenLaws.{among, any_append, new-same, seen-longer, seen-among}
use Rattle.season_reports.proofs.TotalLaws.{map_same, keys-append, total-append, total-none, split}
use Rattle.season_reports.proofs.RunLaws.{gathered-length}

-- ---- the rows of entries, gathered, are the rows of a season

reading-key : (k : Key) (r : Reading) → (reading_row k r).key ≡ k
reading-key k (exactly mm) = refl
reading-key k stop = refl

keys-entries : (es : List Entry) → keys_of (map entry_row es) ≡ map (λ e. e.key) es
keys-entries [] = refl
keys-entries (e ∷ es) = ap₂ (λ k l. k ∷ l) (reading-key e.key e.reading) (keys-entries es)

row_with : Key → List ℤ → ℕ → Row
row_with k us n = record { key = k; usable = length us; stops = n; extremes = ends_of us; sum = sum_of us }

one_more : (n : ℕ) → 1 + n ≡ suc n
one_more n = omega arith

-- an entry more
with-entry : (j k : Key) (r : Reading) (us : List ℤ) (n : ℕ) → together (reading_row j r) (row_with k us n) ≡ row_with k (usable_with r us) (stops_with r n)
unfolding together row_with ends_of sum_of widest
with-entry j k (exactly mm) us n =
    ap₂ (λ u s. record { key = k; usable = u; stops = s; extremes = widest (Present mm mm) (ends_of us); sum = mm +ℤ sum_of us })
    (one_more (length us)) (zero-add n)
with-entry j k stop us n =
    ap₂ (λ u s. record { key = k; usable = u; stops = s; extremes = ends_of us; sum = pos 0 +ℤ sum_of us }) (zero-add (length us)) (one_more n)
    ∙ ap (λ z. record { key = k; usable = length us; stops = suc n; extremes = ends_of us; sum = z }) (+ℤ_idl (sum_of us))

pub total-entries : (k : Key) (es : List Entry) → total_of k (map entry_row es) ≡ row_of k es
unfolding total_of row_of row_with usable_of stops_of ends_of sum_of
total-entries k [] = refl
total-entries k (e ∷ es) =
    ap (λ j. cond (same_key k j) (together (entry_row e) (total_of k (map entry_row es))) (total_of k (map entry_row es))) (reading-key e.key e.reading)
    ∙ go (same_key k e.key) (total-entries k es)
  where
    go : (t : Bool) → total_of k (map entry_row es) ≡ row_of k es
        → cond t (together (entry_row e) (total_of k (map entry_row es))) (total_of k (map entry_row es))
        ≡ row_with k (cond t (usable_with e.reading (usable_of k es)) (usable_of k es)) (cond t (stops_with e.reading (stops_of k es)) (stops_of k es))
    go true h = ap (together (entry_row e)) h ∙ with-entry e.key k e.reading (usable_of k es) (stops_of k es)
    go false h = h

pub season-gathered : (es : List Entry) → gathered (map entry_row es) ≡ season_rows es
unfolding gathered season_rows
season-gathered es =
    ap (λ l. map (λ k. total_of k (map entry_row es)) (first_seen l)) (keys-entries es)
    ∙ map_same (λ k. total_of k (map entry_row es)) (λ k. row_of k es) (first_seen (map (λ e. e.key) es)) (λ k. total-entries k es)

-- ---- gathered again

pub none-gathered : ◌≡◌ {A = List Row} [] (gathered [])
unfolding gathered new_after
none-gathered = refl

gathered-once : (xs : List Row) → gathered (gathered xs) ≡ gathered xs
gathered-once xs =
    ap gathered (sym (append-nil (gathered xs)) ∙ ap (λ l. gathered xs ++ l) none-gathered) ∙ split xs [] ∙ ap gathered (append-nil xs)

pub gathered-front : (xs ys : List Row) → gathered (gathered xs ++ ys) ≡ gathered (xs ++ ys)
gathered-front xs ys = sym (split (gathered xs) ys) ∙ ap (λ l. gathered (l ++ gathered ys)) (gathered-once xs) ∙ split xs ys

-- ---- rows that have room: neither 18 nor 19 applies to their totals

pub record RowsFit (p : List Row) : Type 0 where
  pub few : length (first_seen (keys_of p)) ≤ most_rows
  pub counts : (k : Key) → over_count (total_of k p) ≡ false

empty-counts : (k : Key) → over_count (empty_row k) ≡ false
unfolding over_count
empty-counts k = rw (lt-leb (2 ^ 32) 0 (omega arith))

none-at : (g : Key → Row) (j : Key) (ks : List Key) → any_of over_count (map g ks) ≡ false → among j ks ≡ true → over_count (g j) ≡ false
none-at g j [] e m = absurd (true≢false (sym m))
none-at g j (k ∷ ks) e m = go (same_key j k) refl (none-at g j ks b.1)
  where
    b : (over_count (g k) ≡ false) × (any_of over_count (map g ks) ≡ false)
    b = both_false (over_count (g k)) (any_of over_count (map g ks)) e

    go : (t : Bool) → same_key j k ≡ t → (among j ks ≡ true → over_count (g j) ≡ false) → over_count (g j) ≡ false
    go true q again = ap (λ i. over_count (g i)) (key-eq j k q) ∙ b.0
    go false q again = again (sym (ap (λ u. u || among j ks) q) ∙ m)

counts-told : (p : List Row) → any_of over_count (gathered p) ≡ false → (k : Key) → over_count (total_of k p) ≡ false
unfolding gathered
counts-told p e k = go (among k (keys_of p)) refl
  where
    go : (t : Bool) → among k (keys_of p) ≡ t → over_count (total_of k p) ≡ false
    go true q = none-at (λ j. total_of j p) k (first_seen (keys_of p)) e (seen-among k (keys_of p) ∙ q)
    go false q = ap over_count (total-none k p q) ∙ empty-counts k

none_over : (p : List Row) (ks : List Key) → ((k : Key) → over_count (total_of k p) ≡ false) → any_of over_count (map (λ k. total_of k p) ks) ≡ false
none_over p [] h = refl
none_over p (k ∷ ks) h = rw (h k) (none_over p ks h)

counts-none : (p : List Row) → RowsFit p → any_of over_count (gathered p) ≡ false
unfolding gathered
counts-none p r = none_over p (first_seen (keys_of p)) r.counts

pub room-order : (p : List Row) → RowsFit p → NoneApplies (sum_order p)
room-order p r = (le-ltb most_rows (length (gathered p)) (omega (arith, gathered-length p, r.few)), (counts-none p r, tt))

pub order-room : (p : List Row) → NoneApplies (sum_order p) → RowsFit p
order-room p n = record {
  few = omega (arith, gathered-length p, ltb-false most_rows (length (gathered p)) n.0);
  counts = counts-told p n.1.0;
}

-- a part of rows that have room has room

over-parts : (a b : Row) → over_count (together a b) ≡ false → (over_count a ≡ false) × (over_count b ≡ false)
unfolding over_count together
over-parts a b e =
    let o = both_false (leb (2 ^ 32) (a.usable + b.usable)) (leb (2 ^ 32) (a.stops + b.stops)) e in
    let u = leb-false (2 ^ 32) (a.usable + b.usable) o.0 in
    let s = leb-false (2 ^ 32) (a.stops + b.stops) o.1 in (
      rw (lt-leb (2 ^ 32) a.usable (omega (arith, u)), lt-leb (2 ^ 32) a.stops (omega (arith, s))),
      rw (lt-leb (2 ^ 32) b.usable (omega (arith, u)), lt-leb (2 ^ 32) b.stops (omega (arith, s))),
    )

or-true : (b : Bool) → b || true ≡ true
or-true true = refl
or-true false = refl

or_swap : (a b c : Bool) → a || (b || c) ≡ b || (a || c)
or_swap true true c = refl
or_swap true false c = refl
or_swap false b c = refl

-- of one key more that is seen, at most one is new no longer
new-fewer : (x : Key) (s t ks : List Key) → ((j : Key) → among j t ≡ same_key j x || among j s)
    → length (new_after s ks) ≤ suc (length (new_after t ks))
unfolding new_after
new-fewer x s t [] h = omega arith
new-fewer x s t (k ∷ ks) h = go (among k s) (same_key k x) refl refl (new-fewer x s t ks h) (new-fewer x (k ∷ s) (k ∷ t) ks grow)
  where
    grow : (j : Key) → same_key j k || among j t ≡ same_key j x || (same_key j k || among j s)
    grow j = ap (λ b. same_key j k || b) (h j) ∙ or_swap (same_key j k) (same_key j x) (among j s)

    same : same_key k x ≡ true → (j : Key) → same_key j k || among j s ≡ among j t
    same f j = ap (λ i. same_key j i || among j s) (key-eq k x f) ∙ sym (h j)

    go : (a b : Bool) → among k s ≡ a → same_key k x ≡ b → length (new_after s ks) ≤ suc (length (new_after t ks))
        → length (new_after (k ∷ s) ks) ≤ suc (length (new_after (k ∷ t) ks))
        → length (cond (among k s) (new_after s ks) (k ∷ new_after (k ∷ s) ks))
        ≤ suc (length (cond (among k t) (new_after t ks) (k ∷ new_after (k ∷ t) ks)))
    go true b e f old new = rw (e, h k ∙ ap (λ u. same_key k x || u) e ∙ or-true (same_key k x)) old
    go false true e f old new = rw (e, h k ∙ ap (λ u. u || among k s) f) (omega (arith, ap length (new-same (k ∷ s) t ks (same f))))
    go false false e f old new = rw (e, h k ∙ ap₂ ◌||◌ f e) (omega (arith, new))

seen-behind : (xs ys : List Key) → length (first_seen ys) ≤ length (first_seen (xs ++ ys))
seen-behind [] ys = omega arith
seen-behind (x ∷ xs) ys = omega (arith, seen-behind xs ys, new-fewer x [] (x ∷ []) (xs ++ ys) (λ j. refl), opened)
  where
    opened : length (first_seen (x ∷ (xs ++ ys))) ≡ suc (length (new_after (x ∷ []) (xs ++ ys)))
    opened = unfold new_after in refl

pub room-front : (p q : List Row) → RowsFit (p ++ q) → RowsFit p
room-front p q r = record {
  few = omega (arith, seen-longer (keys_of p) (keys_of q), ap (λ l. length (first_seen l)) (keys-append p q), r.few);
  counts = λ k. (over-parts (total_of k p) (total_of k q) (sym (ap over_count (total-append k p q)) ∙ r.counts k)).0;
}

pub room-behind : (p q : List Row) → RowsFit (p ++ q) → RowsFit q
room-behind p q r = record {
  few = omega (arith, seen-behind (keys_of p) (keys_of q), ap (λ l. length (first_seen l)) (keys-append p q), r.few);
  counts = λ k. (over-parts (total_of k p) (total_of k q) (sym (ap over_count (total-append k p q)) ∙ r.counts k)).1;
}

-- ---- rows that are right stay so

empty_right : (k : Key) → wrong_sum (empty_row k) ≡ false
unfolding wrong_sum
empty_right k = refl

pub total_right : (k : Key) (p : List Row) → any_of wrong_sum p ≡ false → wrong_sum (total_of k p) ≡ false
unfolding total_of
total_right k [] e = empty_right k
total_right k (r ∷ p) e = go (same_key k r.key) (total_right k p b.1)
  where
    b : (wrong_sum r ≡ false) × (any_of wrong_sum p ≡ false)
    b = both_false (wrong_sum r) (any_of wrong_sum p) e

    go : (t : Bool) → wrong_sum (total_of k p) ≡ false → wrong_sum (cond t (together r (total_of k p)) (total_of k p)) ≡ false
    go true h = together-right r (total_of k p) b.0 h
    go false h = h

pub none-wrong : (p : List Row) (ks : List Key) → any_of wrong_sum p ≡ false → any_of wrong_sum (map (λ k. total_of k p) ks) ≡ false
none-wrong p [] e = refl
none-wrong p (k ∷ ks) e = rw (total_right k p e) (none-wrong p ks e)

one-times : (z : ℤ) → pos 1 *ℤ z ≡ z
one-times z = suc_ℤ-*ℤ (pos 0) z ∙ ap (λ x. x +ℤ z) (zero-*ℤ z) ∙ +ℤ_idl z

entry-right : (k : Key) (r : Reading) → wrong_sum (reading_row k r) ≡ false
unfolding wrong_sum
entry-right k (exactly mm) =
    ap (λ z. lt_z mm z || lt_z z mm) (one-times mm) ∙ ap (λ b. b || b) (most-told mm mm (most-refl mm))
entry-right k stop = refl

pub entries-right : (es : List Entry) → any_of wrong_sum (map entry_row es) ≡ false
entries-right [] = refl
entries-right (e ∷ es) = rw (entry-right e.key e.reading) (entries-right es)

pub both_right : (p q : List Row) → any_of wrong_sum p ≡ false → any_of wrong_sum q ≡ false → any_of wrong_sum (p ++ q) ≡ false
both_right p q e f = any_append wrong_sum p q ∙ ap₂ ◌||◌ e f

pub journal-right : (bs : List ℕ) → any_of wrong_sum (journal_rows bs) ≡ false
unfolding journal_rows
journal-right bs = entries-right (contents_of bs).entries
