-- Lists filled entry by entry, the parts of a list in threes, and what the parts of a list keep. Assumes nothing.
use mathlib.Core.Path.{◌≡◌, refl, sym, ap, ◌∙◌}
use mathlib.Core.Bool.{Bool, true, false}
use mathlib.Core.List.{List, [], ◌∷◌, ◌++◌, map}
use Prim.Native.Nat.{ℕ, zero, suc, ◌+◌, ◌-◌, ◌≤◌, ◌<◌, min}
use native.Mathlib.Nat.{zero-add, add-zero}
use native.Mathlib.Numerals.{add-one}
use native.Mathlib.Omega.{arith}
use lib.Dec.{ltb, eqb}
use lib.ListN.{length, take, drop, get_or, set, length-take, length-map, get_or-map}
use denote.Param.Members.{Mut}
use Rattle.std.specs.Array.{IsMapOf}
use Rattle.std.specs.Fn.{Called}
use Rattle.std.proofs.lemmas.List.{ext_get_or}
use lib.Seq.{take-suc-set, take-nil, take_all, take-take, drop-cons, drop-set-lt, drop-drop}
use borrow.Author.Tests.{ltb-true, ltb-false}
use Rattle.frame.specs.Widths.{any_of}
use Rattle.frame.proofs.WidthLaws.{both_false}
use Rattle.record_fields.specs.Coding.{Each}
use Rattle.profile.specs.Profile.{listed, repeated}

-- ---- filled entry by entry

-- what calls at each element gave, where each gave h of its element
pub mapped : {F A B : Type 0} (g : Mut F (A × Unit {0}) B) (h : A → B) (f : F) (n : ℕ) (xs : List A) (ys : List B) → IsMapOf g f xs ys n → length xs ≡ n
    → ((p : F) (x : A) (y : B) (q : F) → Called g p (x, tt) y q → y ≡ h x) → ys ≡ map h xs
mapped g h f n [] [] m e k = refl
mapped g h f n [] (y ∷ ys) m e k = absurd (omega (arith, m.long))
mapped g h f n (x ∷ xs) ys m e k =
    ext_get_or (h x) ys (map h (x ∷ xs)) (omega (arith, m.long, length-map (x ∷ xs) h))
    (λ i l. let at = m.at i x (h x) (omega (arith, m.long)) in k _ _ _ _ at.2 ∙ sym (get_or-map h (x ∷ xs) i x))

module _ {A : Type 0} (g : ℕ → A) where
  listed-snoc : (n i : ℕ) → listed g (suc n) i ≡ listed g n i ++ (g (i + n) ∷ [])
  listed-snoc zero i = ap (λ j. g j ∷ []) (sym (add-zero i))
  listed-snoc (suc n) i = ap (λ r. g i ∷ r) (listed-snoc n (suc i) ∙ ap (λ j. listed g n (suc i) ++ (g j ∷ [])) move)
    where
      move : suc i + n ≡ i + suc n
      move = omega arith

  pub listed_next : (l : List A) (i : ℕ) (x : A) → i < length l → x ≡ g i → take i l ≡ listed g i 0 → take (i + 1) (set l i x) ≡ listed g (i + 1) 0
  listed_next l i x h is e =
      ap (λ j. take j (set l i x)) (add-one i) ∙ take-suc-set l i x h ∙ ap (λ t. t ++ (x ∷ [])) e
      ∙ ap (λ y. listed g i 0 ++ (y ∷ [])) (is ∙ ap g (sym (zero-add i)))
      ∙ sym (ap (λ j. listed g j 0) (add-one i) ∙ listed-snoc i 0)

  pub length-listed : (n i : ℕ) → length (listed g n i) ≡ n
  length-listed zero i = refl
  length-listed (suc n) i = ap suc (length-listed n (suc i))

  pub listed_at : (n i : ℕ) (d : A) → i < n → get_or (listed g n 0) i d ≡ g i
  listed_at n i d l = from n 0 i d l ∙ ap g (zero-add i)
    where
      from : (n o i : ℕ) (d : A) → i < n → get_or (listed g n o) i d ≡ g (o + i)
      from zero o i d l = absurd (omega arith)
      from (suc n) o zero d l = ap g (sym (add-zero o))
      from (suc n) o (suc i) d l = from n (suc o) i d (omega arith) ∙ ap g move
        where
          move : suc o + i ≡ o + suc i
          move = omega arith

-- alike, number by number
pub listed-alike : {A : Type 0} (g k : ℕ → A) (n i : ℕ) → ((j : ℕ) → j < i + n → g j ≡ k j) → listed g n i ≡ listed k n i
listed-alike g k zero i h = refl
listed-alike g k (suc n) i h = rw (h i (omega arith), listed-alike g k n (suc i) (λ j l. h j (omega arith)))

-- what is behind stays
pub rest-next : {A : Type 0} (l m : List A) (i : ℕ) (x : A) → drop i l ≡ drop i m → drop (i + 1) (set l i x) ≡ drop (i + 1) m
rest-next l m i x e = drop-set-lt (i + 1) l i x (omega arith) ∙ sym (drop-drop 1 i l) ∙ ap (drop 1) e ∙ drop-drop 1 i m

-- ---- parts of a list

drop-take : {A : Type 0} (m n : ℕ) (l : List A) → drop m (take n l) ≡ take (n - m) (drop m l)
drop-take zero n l = ap (λ j. take j l) all
  where
    all : n ≡ n - 0
    all = omega arith
drop-take (suc m) zero l = sym (ap (λ j. take j (drop (suc m) l)) none)
  where
    none : 0 - suc m ≡ 0
    none = omega arith
drop-take (suc m) (suc n) [] = sym (take-nil (suc n - suc m))
drop-take (suc m) (suc n) (x ∷ l) = drop-take m n l ∙ ap (λ j. take j (drop m l)) less
  where
    less : n - m ≡ suc n - suc m
    less = omega arith

take-least : {A : Type 0} (m n : ℕ) (l : List A) → take m (take n l) ≡ take (min m n) l
take-least m n l = go (ltb n m) refl
  where
    go : (b : Bool) → ltb n m ≡ b → take m (take n l) ≡ take (min m n) l
    go true e = take_all m (take n l) (omega (arith, length-take n l, ltb-true n m e)) ∙ ap (λ j. take j l) least
      where
        least : n ≡ min m n
        least = omega (arith, ltb-true n m e)
    go false e = take-take m n l (ltb-false n m e) ∙ ap (λ j. take j l) least
      where
        least : m ≡ min m n
        least = omega (arith, ltb-false n m e)

-- the m entries from number o on of the first c: at most what is left
pub part-taken : {A : Type 0} (m o c : ℕ) (l : List A) → take m (drop o (take c l)) ≡ take (min m (c - o)) (drop o l)
part-taken m o c l = ap (take m) (drop-take o c l) ∙ take-least m (c - o) (drop o l)

-- three entries, one by one
pub three-taken : {A : Type 0} (o : ℕ) (l : List A) (d : A) → o + 3 ≤ length l → take 3 (drop o l) ≡ get_or l o d ∷ get_or l (o + 1) d ∷ get_or l (o + 2) d ∷ []
three-taken o l d h =
    ap (take 3) (drop-cons l o d (omega arith) ∙ ap (λ r. get_or l o d ∷ r)
    (drop-cons l (suc o) d (omega arith) ∙ ap (λ r. get_or l (suc o) d ∷ r) (drop-cons l (suc (suc o)) d (omega arith))))
    ∙ ap (λ j. get_or l o d ∷ get_or l j d ∷ get_or l (suc (suc o)) d ∷ []) one ∙ ap (λ j. get_or l o d ∷ get_or l (o + 1) d ∷ get_or l j d ∷ []) two
  where
    one : suc o ≡ o + 1
    one = omega arith

    two : suc (suc o) ≡ o + 2
    two = omega arith

-- where a list has a number, it does not matter what stands for one that it has not
pub get_d_any : {A : Type 0} (l : List A) (i : ℕ) (a b : A) → i < length l → get_or l i a ≡ get_or l i b
get_d_any [] i a b h = absurd (omega arith)
get_d_any (x ∷ l) zero a b h = refl
get_d_any (x ∷ l) (suc i) a b h = get_d_any l i a b (omega arith)

-- ---- what a list keeps in its parts

module _ {A : Type 0} (p : A → Bool) where
  pub none-take : (n : ℕ) (l : List A) → any_of p l ≡ false → any_of p (take n l) ≡ false
  none-take zero l e = refl
  none-take (suc n) [] e = refl
  none-take (suc n) (x ∷ l) e = let s = both_false (p x) (any_of p l) e in rw (s.0, none-take n l s.1)

  pub none-drop : (n : ℕ) (l : List A) → any_of p l ≡ false → any_of p (drop n l) ≡ false
  none-drop zero l e = e
  none-drop (suc n) [] e = refl
  none-drop (suc n) (x ∷ l) e = none-drop n l (both_false (p x) (any_of p l) e).1

pub once-take : (n : ℕ) (l : List ℕ) → repeated l ≡ false → repeated (take n l) ≡ false
unfolding repeated
once-take zero l e = refl
once-take (suc n) [] e = refl
once-take (suc n) (x ∷ l) e = let s = both_false (any_of (eqb x) l) (repeated l) e in rw (none-take (eqb x) n l s.0, once-take n l s.1)

pub once-drop : (n : ℕ) (l : List ℕ) → repeated l ≡ false → repeated (drop n l) ≡ false
unfolding repeated
once-drop zero l e = e
once-drop (suc n) [] e = refl
once-drop (suc n) (x ∷ l) e = once-drop n l (both_false (any_of (eqb x) l) (repeated l) e).1

module _ {A : Type 0} (P : A → Type 0) where
  pub each_take : (n : ℕ) (l : List A) → Each P l → Each P (take n l)
  each_take zero l e = tt
  each_take (suc n) [] e = tt
  each_take (suc n) (x ∷ l) e = (e.0, each_take n l e.1)

  pub each-drop : (n : ℕ) (l : List A) → Each P l → Each P (drop n l)
  each-drop zero l e = e
  each-drop (suc n) [] e = tt
  each-drop (suc n) (x ∷ l) e = each-drop n l e.1

module _ {A B : Type 0} (f : A → B) where
  pub map-take : (n : ℕ) (l : List A) → map f (take n l) ≡ take n (map f l)
  map-take zero l = refl
  map-take (suc n) [] = refl
  map-take (suc n) (x ∷ l) = ap (λ r. f x ∷ r) (map-take n l)

  pub map-drop : (n : ℕ) (l : List A) → map f (drop n l) ≡ drop n (map f l)
  map-drop zero l = refl
  map-drop (suc n) [] = refl
  map-drop (suc n) (x ∷ l) = map-drop n l
