-- Keys in the order first seen: of lists one after the other, of a list with no key twice, and of keys that are seen already. Assumes nothing.
use mathlib.Core.Path.{◌≡◌, refl, sym, ap, ap₂, ◌∙◌}
use mathlib.Core.Bool.{Bool, true, false, cond, ◌||◌, true≢false}
use mathlib.Core.List.{List, [], ◌∷◌, ◌++◌, append-nil}
use Prim.Native.Nat.{◌≤◌}
use native.Mathlib.Omega.{arith}
use lib.ListN.{length, length-append}
use Rattle.frame.specs.Widths.{any_of}
use Rattle.season_reports.specs.Rows.{same_key}
use Rattle.season_reports.specs.Gathering.{new_after, first_seen, any_twice, key_twice}
use Rattle.season_reports.specs.declared.Key.{Key}
use Rattle.season_reports.proofs.RowLaws.{key-eq, key-refl}

-- ---- any of a list

or-false : (b : Bool) → b || false ≡ b
or-false true = refl
or-false false = refl

or_assoc : (a b c : Bool) → (a || b) || c ≡ a || (b || c)
or_assoc true b c = refl
or_assoc false b c = refl

or_comm : (a b : Bool) → a || b ≡ b || a
or_comm true true = refl
or_comm true false = refl
or_comm false true = refl
or_comm false false = refl

module _ {A : Type 0} where
  pub any_append : (p : A → Bool) (xs ys : List A) → any_of p (xs ++ ys) ≡ any_of p xs || any_of p ys
  any_append p [] ys = refl
  any_append p (x ∷ xs) ys = ap (λ b. p x || b) (any_append p xs ys) ∙ sym (or_assoc (p x) (any_of p xs) (any_of p ys))

  -- one of a list stands in it again: of a list and one more, over a test that goes both ways
  module _ (same : A → A → Bool) (both : (a b : A) → same a b ≡ same b a) where
    pub twice-snoc : (xs : List A) (y : A) → any_twice same (xs ++ (y ∷ [])) ≡ any_twice same xs || any_of (same y) xs
    unfolding any_twice
    twice-snoc [] y = refl
    twice-snoc (x ∷ xs) y =
        ap₂ ◌||◌ (any_append (same x) xs (y ∷ []) ∙ ap (λ b. any_of (same x) xs || b) (or-false (same x y) ∙ both x y)) (twice-snoc xs y)
        ∙ shuffle (any_of (same x) xs) (same y x) (any_twice same xs) (any_of (same y) xs)
      where
        shuffle : (a b c d : Bool) → (a || b) || (c || d) ≡ (a || c) || (b || d)
        shuffle true b c d = refl
        shuffle false true true d = refl
        shuffle false true false d = refl
        shuffle false false c d = refl

    pub twice-append : (xs ys : List A) → any_twice same xs ≡ true → any_twice same (xs ++ ys) ≡ true
    unfolding any_twice
    twice-append [] ys e = absurd (true≢false (sym e))
    twice-append (x ∷ xs) ys e = go (any_of (same x) xs) refl (λ f. twice-append xs ys f)
      where
        go : (t : Bool) → any_of (same x) xs ≡ t → (any_twice same xs ≡ true → any_twice same (xs ++ ys) ≡ true)
            → any_of (same x) (xs ++ ys) || any_twice same (xs ++ ys) ≡ true
        go true f again = rw (any_append (same x) xs ys, f)
        go false f again =
            ap (λ b. any_of (same x) (xs ++ ys) || b) (again (sym (ap (λ b. b || any_twice same xs) f) ∙ e))
            ∙ or_comm (any_of (same x) (xs ++ ys)) true

-- ---- seen

abbrev pub among : Key → List Key → Bool
among k ks = any_of (same_key k) ks

-- what is seen matters by its keys alone
pub new-same : (s t ks : List Key) → ((k : Key) → among k s ≡ among k t) → new_after s ks ≡ new_after t ks
unfolding new_after
new-same s t [] h = refl
new-same s t (k ∷ ks) h =
    ap₂ (λ b c. cond b (new_after s ks) c) (h k) (ap (λ l. k ∷ l) (new-same (k ∷ s) (k ∷ t) ks (λ j. ap (λ b. same_key j k || b) (h j))))
    ∙ ap (λ l. cond (among k t) l (k ∷ new_after (k ∷ t) ks)) (new-same s t ks h)

new-append : (s xs ys : List Key) → new_after s (xs ++ ys) ≡ new_after s xs ++ new_after (xs ++ s) ys
unfolding new_after
new-append s [] ys = refl
new-append s (k ∷ xs) ys = go (among k s) refl (new-append s xs ys) (new-append (k ∷ s) xs ys)
  where
    -- a key that is among others is no more than they are
    absorb : among k s ≡ true → (j : Key) → among j (xs ++ s) ≡ same_key j k || among j (xs ++ s)
    absorb e j = by (same_key j k) refl
      where
        by : (t : Bool) → same_key j k ≡ t → among j (xs ++ s) ≡ same_key j k || among j (xs ++ s)
        by true f =
            any_append (same_key j) xs s ∙ ap (λ b. among j xs || b) (ap (λ i. among i s) (key-eq j k f) ∙ e) ∙ or_comm (among j xs) true
            ∙ sym (ap (λ b. b || among j (xs ++ s)) f)
        by false f = sym (ap (λ b. b || among j (xs ++ s)) f)

    move : (j : Key) → among j (xs ++ (k ∷ s)) ≡ same_key j k || among j (xs ++ s)
    move j =
        any_append (same_key j) xs (k ∷ s) ∙ sym (or_assoc (among j xs) (same_key j k) (among j s))
        ∙ ap (λ b. b || among j s) (or_comm (among j xs) (same_key j k)) ∙ or_assoc (same_key j k) (among j xs) (among j s)
        ∙ ap (λ b. same_key j k || b) (sym (any_append (same_key j) xs s))

    go : (t : Bool) → among k s ≡ t → new_after s (xs ++ ys) ≡ new_after s xs ++ new_after (xs ++ s) ys
        → new_after (k ∷ s) (xs ++ ys) ≡ new_after (k ∷ s) xs ++ new_after (xs ++ (k ∷ s)) ys
        → cond (among k s) (new_after s (xs ++ ys)) (k ∷ new_after (k ∷ s) (xs ++ ys))
        ≡ cond (among k s) (new_after s xs) (k ∷ new_after (k ∷ s) xs) ++ new_after (k ∷ (xs ++ s)) ys
    go true e old new = rw e (old ∙ ap (λ l. new_after s xs ++ l) (new-same (xs ++ s) (k ∷ (xs ++ s)) ys (absorb e)))
    go false e old new =
        rw e (ap (λ l. k ∷ l) (new ∙ ap (λ l. new_after (k ∷ s) xs ++ l) (new-same (xs ++ (k ∷ s)) (k ∷ (xs ++ s)) ys move)))

-- one key more: seen, or new
pub seen-seen : (xs : List Key) (k : Key) → among k xs ≡ true → first_seen (xs ++ (k ∷ [])) ≡ first_seen xs
unfolding new_after
seen-seen xs k e =
    new-append [] xs (k ∷ [])
    ∙ ap (λ b. new_after [] xs ++ cond b [] (k ∷ [])) (any_append (same_key k) xs [] ∙ or-false (among k xs) ∙ e) ∙ append-nil (new_after [] xs)

pub seen-new : (xs : List Key) (k : Key) → among k xs ≡ false → first_seen (xs ++ (k ∷ [])) ≡ first_seen xs ++ (k ∷ [])
unfolding new_after
seen-new xs k e =
    new-append [] xs (k ∷ [])
    ∙ ap (λ b. new_after [] xs ++ cond b [] (k ∷ [])) (any_append (same_key k) xs [] ∙ or-false (among k xs) ∙ e)

-- first seen is no shorter for more keys
pub seen-longer : (xs ys : List Key) → length (first_seen xs) ≤ length (first_seen (xs ++ ys))
seen-longer xs ys = rw (new-append [] xs ys, length-append (new_after [] xs) (new_after (xs ++ []) ys)) (omega arith)

-- ---- which keys are seen

new-among : (j : Key) (s xs : List Key) → among j (new_after s xs) || among j s ≡ among j xs || among j s
unfolding new_after
new-among j s [] = refl
new-among j s (k ∷ xs) = go (among k s) refl (new-among j s xs) (new-among j (k ∷ s) xs)
  where
    by : (t : Bool) → same_key j k ≡ t → among k s ≡ true → (same_key j k || among j xs) || among j s ≡ among j xs || among j s
    by true f e = rw f (sym (ap (λ b. among j xs || b) (ap (λ i. among i s) (key-eq j k f) ∙ e) ∙ or_comm (among j xs) true))
    by false f e = rw f

    go : (t : Bool) → among k s ≡ t → among j (new_after s xs) || among j s ≡ among j xs || among j s
        → among j (new_after (k ∷ s) xs) || (same_key j k || among j s) ≡ among j xs || (same_key j k || among j s)
        → among j (cond (among k s) (new_after s xs) (k ∷ new_after (k ∷ s) xs)) || among j s ≡ (same_key j k || among j xs) || among j s
    go true e old new = rw e (old ∙ sym (by (same_key j k) refl e))
    go false e old new = rw e (turn (same_key j k) (among j (new_after (k ∷ s) xs)) (among j xs) (among j s) new)
      where
        turn : (a n x b : Bool) → n || (a || b) ≡ x || (a || b) → (a || n) || b ≡ (a || x) || b
        turn true n x b h = refl
        turn false n x b h = h

pub seen-among : (j : Key) (xs : List Key) → among j (first_seen xs) ≡ among j xs
seen-among j xs = sym (or-false _) ∙ new-among j [] xs ∙ or-false _

-- no key twice, and none that was seen
abbrev Apart : List Key → List Key → Type 0
Apart s ks = (key_twice ks ≡ false) × ((j : Key) → among j s ≡ true → among j ks ≡ false)

apart_cons : (k : Key) (s ks : List Key) → among k s ≡ false → Apart (k ∷ s) ks → Apart s (k ∷ ks)
unfolding any_twice
apart_cons k s ks e p = (
  rw (p.1 k (ap (λ b. b || among k s) (key-refl k))) p.0,
  λ j f. apart j f (same_key j k) refl,
)
  where
    apart : (j : Key) → among j s ≡ true → (t : Bool) → same_key j k ≡ t → same_key j k || among j ks ≡ false
    apart j f true g = absurd (true≢false (sym f ∙ ap (λ i. among i s) (key-eq j k g) ∙ e))
    apart j f false g = ap (λ b. b || among j ks) g ∙ p.1 j (ap (λ b. same_key j k || b) f ∙ or_comm (same_key j k) true)

new_apart : (s xs : List Key) → Apart s (new_after s xs)
unfolding new_after any_twice
new_apart s [] = (refl, λ j e. refl)
new_apart s (k ∷ xs) = go (among k s) refl (new_apart s xs) (new_apart (k ∷ s) xs)
  where
    go : (t : Bool) → among k s ≡ t → Apart s (new_after s xs) → Apart (k ∷ s) (new_after (k ∷ s) xs)
        → Apart s (cond (among k s) (new_after s xs) (k ∷ new_after (k ∷ s) xs))
    go true e p q = rw e p
    go false e p q = rw e (apart_cons k s (new_after (k ∷ s) xs) e q)

pub seen_apart : (xs : List Key) → key_twice (first_seen xs) ≡ false
seen_apart xs = (new_apart [] xs).0

-- ---- first seen of what is first seen

-- keys that are new after some are new after those of them that are first seen, and only once
new-new : (s t xs : List Key) → ((j : Key) → among j s ≡ true → among j t ≡ true) → new_after t (new_after s xs) ≡ new_after t xs
unfolding new_after
new-new s t [] h = refl
new-new s t (k ∷ xs) h = go (among k s) (among k t) refl refl (new-new s t xs h) (new-new (k ∷ s) t xs) (new-new (k ∷ s) (k ∷ t) xs)
  where
    keep : among k t ≡ true → (j : Key) → same_key j k || among j s ≡ true → among j t ≡ true
    keep f j e = by (same_key j k) refl e
      where
        by : (u : Bool) → same_key j k ≡ u → same_key j k || among j s ≡ true → among j t ≡ true
        by true g d = ap (λ i. among i t) (key-eq j k g) ∙ f
        by false g d = h j (sym (ap (λ b. b || among j s) g) ∙ d)

    grow : (j : Key) → same_key j k || among j s ≡ true → same_key j k || among j t ≡ true
    grow j e = by (same_key j k) refl e
      where
        by : (u : Bool) → same_key j k ≡ u → same_key j k || among j s ≡ true → same_key j k || among j t ≡ true
        by true g d = ap (λ b. b || among j t) g
        by false g d = ap (λ b. same_key j k || b) (h j (sym (ap (λ b. b || among j s) g) ∙ d)) ∙ or_comm (same_key j k) true

    go : (a b : Bool) → among k s ≡ a → among k t ≡ b → new_after t (new_after s xs) ≡ new_after t xs
        → (((j : Key) → same_key j k || among j s ≡ true → among j t ≡ true) → new_after t (new_after (k ∷ s) xs) ≡ new_after t xs)
        → (((j : Key) → same_key j k || among j s ≡ true → same_key j k || among j t ≡ true) → new_after (k ∷ t) (new_after (k ∷ s) xs) ≡ new_after (k ∷ t) xs)
        → new_after t (cond (among k s) (new_after s xs) (k ∷ new_after (k ∷ s) xs)) ≡ cond (among k t) (new_after t xs) (k ∷ new_after (k ∷ t) xs)
    go true true e f old kept grown = rw (e, f) old
    go true false e f old kept grown = absurd (true≢false (sym (h k e) ∙ f))
    go false true e f old kept grown = rw (e, f) (kept (keep f))
    go false false e f old kept grown = rw (e, f) (ap (λ l. k ∷ l) (grown grow))

pub seen_twice : (xs ys : List Key) → first_seen (first_seen xs ++ first_seen ys) ≡ first_seen (xs ++ ys)
seen_twice xs ys =
    new-append [] (first_seen xs) (first_seen ys)
    ∙ ap₂ ◌++◌ (new-new [] [] xs (λ j e. e))
    (new-same (first_seen xs ++ []) (xs ++ []) (first_seen ys) (λ j. any_append (same_key j) (first_seen xs) [] ∙ ap (λ b. b || false) (seen-among j xs)
    ∙ sym (any_append (same_key j) xs [])) ∙ new-new [] (xs ++ []) ys (λ j e. absurd (true≢false (sym e))))
    ∙ sym (new-append [] xs ys)
