-- Changes byte by byte, and how many there can be. Assumes nothing.
use Rattle.std.proofs.Common.{◌≡◌, ℕ, suc, ◌+◌, ◌*◌, ◌%◌, ◌^◌, ◌<◌, ◌≤◌, Bool, true, false, cond, eqb, List, [], ◌∷◌, ◌++◌, length, get_or, take, drop, set, sym, refl, ap, ◌∙◌, ap₂, add-one, arith, length-append, length-take-le, drop-cons, take-suc}
use lib.Seq.{sets, drop-length, get_or_at, set_at, append_snoc}
use Rattle.bits.proofs.Stores.{sets-append}
use Rattle.mender.proofs.TextLaws.{change-short}
use Rattle.mender.specs.Report.{Change, changes_from, change_line, change_lines, differs, byte_line}

-- ---- the first byte, and those after it

module _ (at x y : ℕ) (xs ys : List ℕ) where
  pub first-lines : change_lines (changes_from at (x ∷ xs) (y ∷ ys)) ≡ byte_line (at % 2 ^ 64) x y ++ change_lines (changes_from (suc at) xs ys)
  unfolding changes_from change_lines
  first-lines = go (eqb x y)
    where
      go : (t : Bool) → change_lines (cond t (changes_from (suc at) xs ys) (record { offset = at; old = x; new = y } ∷ changes_from (suc at) xs ys))
          ≡ cond t [] (change_line (at % 2 ^ 64) x y) ++ change_lines (changes_from (suc at) xs ys)
      go true = refl
      go false = refl

  pub first_count : length (changes_from at (x ∷ xs) (y ∷ ys)) ≡ differs x y + length (changes_from (suc at) xs ys)
  unfolding changes_from
  first_count = go (eqb x y)
    where
      go : (t : Bool) → length (cond t (changes_from (suc at) xs ys) (record { offset = at; old = x; new = y } ∷ changes_from (suc at) xs ys))
          ≡ cond t 0 1 + length (changes_from (suc at) xs ys)
      go true = omega arith
      go false = omega arith

-- ---- byte i of two lists

abbrev pub from : ℕ → List ℕ → List ℕ → ℕ → List Change
from at bs ws i = changes_from (at + i) (drop i bs) (drop i ws)

module _ (at : ℕ) (bs ws : List ℕ) (i : ℕ) (h : i < length ws) (long : length ws ≤ length bs) where
  abbrev x : ℕ
  x = get_or bs i 0

  abbrev y : ℕ
  y = get_or ws i 0

  split : from at bs ws i ≡ changes_from (at + i) (x ∷ drop (i + 1) bs) (y ∷ drop (i + 1) ws)
  split = ap₂ (changes_from (at + i)) (drop-cons bs i 0 (omega arith) ∙ ap (λ j. x ∷ drop j bs) (sym (add-one i))) (drop-cons ws i 0 h
      ∙ ap (λ j. y ∷ drop j ws) (sym (add-one i)))

  onward : changes_from (suc (at + i)) (drop (i + 1) bs) (drop (i + 1) ws) ≡ from at bs ws (i + 1)
  onward = ap (λ o. changes_from o (drop (i + 1) bs) (drop (i + 1) ws)) same
    where
      same : suc (at + i) ≡ at + (i + 1)
      same = omega arith

  pub byte-count : length (from at bs ws i) ≡ differs x y + length (from at bs ws (i + 1))
  byte-count = ap length split ∙ first_count (at + i) x y (drop (i + 1) bs) (drop (i + 1) ws) ∙ ap (λ c. differs x y + length c) onward

  byte-lines : change_lines (from at bs ws i) ≡ byte_line ((at + i) % 2 ^ 64) x y ++ change_lines (from at bs ws (i + 1))
  byte-lines =
      ap change_lines split ∙ first-lines (at + i) x y (drop (i + 1) bs) (drop (i + 1) ws)
      ∙ ap (λ c. byte_line ((at + i) % 2 ^ 64) x y ++ change_lines c) onward

  pub byte-place : (next : ℕ) {r : ℕ} → r ≡ next + length (byte_line ((at + i) % 2 ^ 64) x y)
      → next + length (change_lines (from at bs ws i)) ≡ r + length (change_lines (from at bs ws (i + 1)))
  byte-place next e =
      omega (arith, ap length byte-lines, length-append (byte_line ((at + i) % 2 ^ 64) x y) (change_lines (from at bs ws (i + 1))))

  pub byte-stored : (next : ℕ) (l : List ℕ) {r : ℕ} {l' : List ℕ} → r ≡ next + length (byte_line ((at + i) % 2 ^ 64) x y)
      → l' ≡ sets l next (byte_line ((at + i) % 2 ^ 64) x y)
      → sets l next (change_lines (from at bs ws i)) ≡ sets l' r (change_lines (from at bs ws (i + 1)))
  byte-stored next l {r} {l'} er el =
      ap (sets l next) byte-lines ∙ sets-append (byte_line ((at + i) % 2 ^ 64) x y) (change_lines (from at bs ws (i + 1))) l next
      ∙ ap₂ (λ m j. sets m j (change_lines (from at bs ws (i + 1)))) (sym el) (sym er)

-- none are left at the end
pub none_left : (at : ℕ) (bs ws : List ℕ) → from at bs ws (length ws) ≡ []
unfolding changes_from
none_left at bs ws = ap (changes_from (at + length ws) (drop (length ws) bs)) (drop-length ws) ∙ go (drop (length ws) bs)
  where
    go : (xs : List ℕ) → changes_from (at + length ws) xs [] ≡ []
    go [] = refl
    go (x ∷ xs) = refl

pub from_start : (at : ℕ) (bs ws : List ℕ) → from at bs ws 0 ≡ changes_from at bs ws
from_start at bs ws = ap (λ o. changes_from o bs ws) none
  where
    none : at + 0 ≡ at
    none = omega arith

-- ---- the bytes put back so far, and the others

module _ (bs ws : List ℕ) (i : ℕ) (h : i < length ws) (long : length ws ≤ length bs) where
  part : length (take i ws) ≡ i
  part = length-take-le i ws (omega arith)

  pub next-byte : get_or (take i ws ++ drop i bs) i 0 ≡ get_or bs i 0
  next-byte =
      ap (λ r. get_or (take i ws ++ r) i 0) (drop-cons bs i 0 (omega arith)) ∙ get_or_at (take i ws) (get_or bs i 0) (drop (suc i) bs) 0 i part

  pub put_next : set (take i ws ++ drop i bs) i (get_or ws i 0) ≡ take (i + 1) ws ++ drop (i + 1) bs
  put_next =
      ap (λ r. set (take i ws ++ r) i (get_or ws i 0)) (drop-cons bs i 0 (omega arith))
      ∙ set_at (take i ws) (get_or bs i 0) (drop (suc i) bs) (get_or ws i 0) i part
      ∙ sym (append_snoc (take i ws) (get_or ws i 0) (drop (suc i) bs))
      ∙ ap (λ r. r ++ drop (suc i) bs) (sym (take-suc ws i 0 h))
      ∙ ap (λ j. take j ws ++ drop j bs) (sym (add-one i))

-- a line is at most 29 bytes
pub byte_fits : (at x y : ℕ) → x < 256 → y < 256 → length (byte_line at x y) ≤ 29 * differs x y
byte_fits at x y h k = go (eqb x y)
  where
    go : (t : Bool) → length (cond t [] (change_line at x y)) ≤ 29 * cond t 0 1
    go true = omega arith
    go false = omega (arith, change-short at x y h k)
