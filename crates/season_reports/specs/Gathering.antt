-- Rows gathered by their keys: every key once, in the order first seen, with the totals over all rows that have it. An entry is a row of its
-- own, so this is what entries and reports share. Assumes nothing.
use Rattle.std.specs.Prelude.{Bool, false, cond, ◌||◌, List, [], ◌∷◌, map}
use Rattle.frame.specs.Widths.{any_of}
use Rattle.season_reports.specs.Rows.{same_key, empty_row, together}
use Rattle.season_reports.specs.declared.Key.{Key}
use Rattle.season_reports.specs.declared.Row.{Row}

-- the keys of a list that are not among those seen before, each once, in order
unfoldable pub new_after : List Key → List Key → List Key
new_after seen [] = []
new_after seen (k ∷ ks) = cond (any_of (same_key k) seen) (new_after seen ks) (k ∷ new_after (k ∷ seen) ks)

-- EACH KEY ONCE, in the order first seen
abbrev pub first_seen : List Key → List Key
first_seen ks = new_after [] ks

-- one of a list stands in it again
unfoldable pub any_twice : {A : Type 0} → (A → A → Bool) → List A → Bool
any_twice same [] = false
any_twice same (x ∷ xs) = any_of (same x) xs || any_twice same xs

abbrev pub key_twice : List Key → Bool
key_twice ks = any_twice same_key ks

abbrev pub keys_of : List Row → List Key
keys_of rows = map (λ r. r.key) rows

-- THE TOTALS of a key over all rows that have it
unfoldable pub total_of : Key → List Row → Row
total_of k [] = empty_row k
total_of k (r ∷ rows) = cond (same_key k r.key) (together r (total_of k rows)) (total_of k rows)

-- GATHERED: a row of totals for each key, in the order first seen
unfoldable pub gathered : List Row → List Row
gathered rows = map (λ k. total_of k rows) (first_seen (keys_of rows))
