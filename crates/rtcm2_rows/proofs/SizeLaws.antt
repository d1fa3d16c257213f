-- Numbers of given sizes, read and put one at a time, and inverse. Assumes nothing.
use mathlib.Core.Path.{◌≡◌, refl, sym, ap, ap₂, ◌∙◌}
use mathlib.Core.List.{List, [], ◌∷◌, ◌++◌, append_assoc}
use Prim.Native.Nat.{ℕ, zero, suc, ◌+◌, ◌-◌, ◌^◌, ◌≤◌, ◌<◌}
use native.Mathlib.Nat.{add-zero, sub-zero}
use native.Mathlib.Omega.{arith}
use lib.ListN.{length, take, drop, get_or, set, length-append}
use lib.Seq.{get_or-drop, drop-drop, take-take, take-nil, drop-nil, take_at, drop_at, sets}
use Rattle.bits.specs.Fields.{span}
use Rattle.rtcm2_state.specs.Numbers.{low_bytes, number_in}
use Rattle.rtcm2_state.proofs.NumberLaws.{length-bytes, number-bytes}
use Rattle.rtcm2_rows.specs.Sizes.{sized_in, sized_bytes}

-- ---- reading

pub sized-none : (bs : List ℕ) → [] ≡ sized_in [] bs
unfolding sized_in
sized-none bs = refl

-- the number at a place, and those behind it
pub sized-one : (bs : List ℕ) {x : ℕ} {xs : List ℕ} (k : ℕ) (ks : List ℕ) (at on : ℕ) → on ≡ at + k → x ≡ number_in (take k (drop at bs))
    → xs ≡ sized_in ks (drop on bs) → x ∷ xs ≡ sized_in (k ∷ ks) (drop at bs)
unfolding sized_in
sized-one bs k ks at on e q r = ap₂ ◌∷◌ q (r ∙ ap (sized_in ks) (ap (λ j. drop j bs) e ∙ sym (drop-drop k at bs)))

-- ---- putting

pub sets-both : (xs bs l : List ℕ) (i : ℕ) → sets l i (xs ++ bs) ≡ sets (sets l i xs) (i + length xs) bs
sets-both [] bs l i = ap (λ j. sets l j bs) none
  where
    none : i ≡ i + 0
    none = omega arith
sets-both (x ∷ xs) bs l i = sets-both xs bs (set l i x) (suc i) ∙ ap (λ j. sets (sets l i (x ∷ xs)) j bs) on
  where
    on : suc i + length xs ≡ i + suc (length xs)
    on = omega arith

bytes-first : (k : ℕ) (ks ns : List ℕ) → sized_bytes (k ∷ ks) ns ≡ low_bytes k (get_or ns 0 0) ++ sized_bytes ks (drop 1 ns)
unfolding sized_bytes
bytes-first k ks [] = refl
bytes-first k ks (n ∷ ns) = refl

pub put-none-left : (l : List ℕ) (at : ℕ) (ns : List ℕ) → sets l at (sized_bytes [] ns) ≡ l
unfolding sized_bytes
put-none-left l at ns = refl

-- number i at its place, and those behind it
pub put_one : (ns l : List ℕ) {after : List ℕ} (k : ℕ) (ks : List ℕ) (at on i : ℕ) → on ≡ at + k → after ≡ sets l at (low_bytes k (get_or ns i 0))
    → sets l at (sized_bytes (k ∷ ks) (drop i ns)) ≡ sets after on (sized_bytes ks (drop (i + 1) ns))
put_one ns l k ks at on i e q =
    ap (sets l at) (bytes-first k ks (drop i ns) ∙ ap₂ (λ x r. low_bytes k x ++ sized_bytes ks r) head (drop-drop 1 i ns))
    ∙ sets-both (low_bytes k (get_or ns i 0)) (sized_bytes ks (drop (i + 1) ns)) l at
    ∙ ap₂ (λ m j. sets m j (sized_bytes ks (drop (i + 1) ns))) (sym q) place
  where
    head : get_or (drop i ns) 0 0 ≡ get_or ns i 0
    head = get_or-drop i ns 0 0 ∙ ap (λ j. get_or ns j 0) (add-zero i)

    place : at + length (low_bytes k (get_or ns i 0)) ≡ on
    place = omega (arith, length-bytes k (get_or ns i 0))

pub length-sized : (ks ns : List ℕ) → length (sized_bytes ks ns) ≡ span ks
unfolding sized_bytes
length-sized [] ns = refl
length-sized (k ∷ ks) [] = length-append (low_bytes k 0) (sized_bytes ks []) ∙ ap₂ ◌+◌ (length-bytes k 0) (length-sized ks [])
length-sized (k ∷ ks) (n ∷ ns) = length-append (low_bytes k n) (sized_bytes ks ns) ∙ ap₂ ◌+◌ (length-bytes k n) (length-sized ks ns)

-- numbers in two parts
pub sized-both : (ks ms ns : List ℕ) → sized_bytes (ks ++ ms) ns ≡ sized_bytes ks ns ++ sized_bytes ms (drop (length ks) ns)
unfolding sized_bytes
sized-both [] ms ns = refl
sized-both (k ∷ ks) ms [] = ap (λ l. low_bytes k 0 ++ l) (sized-both ks ms [] ∙ ap (λ l. sized_bytes ks [] ++ sized_bytes ms l) (drop-nil (length ks)))
    ∙ sym (append_assoc (low_bytes k 0) (sized_bytes ks []) (sized_bytes ms []))
sized-both (k ∷ ks) ms (n ∷ ns) =
    ap (λ l. low_bytes k n ++ l) (sized-both ks ms ns) ∙ sym (append_assoc (low_bytes k n) (sized_bytes ks ns) (sized_bytes ms (drop (length ks) ns)))

-- ---- inverse

-- numbers that their sizes can hold
abbrev pub Within : List ℕ → List ℕ → Type 0
Within [] [] = Unit {0}
Within [] (n ∷ ns) = ⊥
Within (k ∷ ks) [] = ⊥
Within (k ∷ ks) (n ∷ ns) = (n < 256 ^ k) × Within ks ns

pub sized-back : (ks ns rest : List ℕ) → Within ks ns → sized_in ks (sized_bytes ks ns ++ rest) ≡ ns
unfolding sized_in sized_bytes
sized-back [] [] rest w = refl
sized-back [] (n ∷ ns) rest w = absurd w
sized-back (k ∷ ks) [] rest w = absurd w
sized-back (k ∷ ks) (n ∷ ns) rest w =
    ap (λ l. number_in (take k l) ∷ sized_in ks (drop k l)) (append_assoc (low_bytes k n) (sized_bytes ks ns) rest)
    ∙ ap₂ (λ a l. number_in a ∷ sized_in ks l) (take_at (low_bytes k n) (sized_bytes ks ns ++ rest) k (length-bytes k n))
    (drop_at (low_bytes k n) (sized_bytes ks ns ++ rest) k (length-bytes k n))
    ∙ ap₂ ◌∷◌ (number-bytes k n w.0) (sized-back ks ns rest w.1)

-- ---- no byte past them is looked at

cut : (k n : ℕ) (l : List ℕ) → drop k (take n l) ≡ take (n - k) (drop k l)
cut zero n l = ap (λ m. take m l) (sym (sub-zero n))
cut (suc k) zero l = sym (ap (λ m. take m (drop (suc k) l)) none)
  where
    none : 0 - suc k ≡ 0
    none = omega arith
cut (suc k) (suc n) [] = sym (take-nil (suc n - suc k))
cut (suc k) (suc n) (x ∷ l) = cut k n l ∙ ap (λ m. take m (drop k l)) less
  where
    less : n - k ≡ suc n - suc k
    less = omega arith

pub sized-take : (ks : List ℕ) (n : ℕ) (bs : List ℕ) → span ks ≤ n → sized_in ks (take n bs) ≡ sized_in ks bs
unfolding sized_in
sized-take [] n bs h = refl
sized-take (k ∷ ks) n bs h =
    ap₂ ◌∷◌ (ap number_in (take-take k n bs (omega arith))) (ap (sized_in ks) (cut k n bs) ∙ sized-take ks (n - k) (drop k bs) (omega arith))
