-- The hunt, one test at a time: what a loop over words inside a loop over positions goes by. Assumes nothing.
use mathlib.Core.Path.{◌≡◌, refl, sym, ap, ◌∙◌}
use mathlib.Core.Bool.{Bool, true, false}
use mathlib.Core.List.{List, [], ◌∷◌}
use Prim.Native.Nat.{ℕ, zero, suc, ◌+◌, ◌-◌, ◌*◌, ◌≤◌, ◌<◌}
use native.Mathlib.Nat.{suc-add, add-suc}
use native.Mathlib.Omega.{arith}
use lib.Dec.{leb}
use lib.ListN.{length, drop}
use borrow.Author.Tests.{le-leb, lt-leb, leb-false}
use Rattle.stream.specs.Standing.{word_at, right, size}
use Rattle.stream.specs.Verdict.{Verdict, out, standing, undecided, judged, verdict_from, Hunted, hunt_by, hunt, fault_of, with_fault, stopped}
use Rattle.stream.proofs.Words.{unlike, n-lt}

verdict-step : (k : ℕ) (d : List Bool) → k ≤ 32
    → verdict_from (33 - k) k d ≡ judged (leb (32 + 30 * k) (length d)) (right k (word_at k d)) (leb (size d) (suc k)) k (verdict_from (33 - suc k) (suc k) d)
unfolding verdict_from
verdict-step k d h = rw (up) (rw (down))
  where
    up : 33 - k ≡ suc (32 - k)
    up = omega arith

    down : 33 - suc k ≡ 32 - k
    down = omega arith

module _ (e : Bool) (k : ℕ) (low : k ≤ 32) where
  -- word_at k is right, and is not the last
  pub hunt-next : (d : List Bool) → 32 + 30 * k ≤ length d → right k (word_at k d) ≡ true → suc k < size d → hunt e k d ≡ hunt e (suc k) d
  unfolding hunt
  hunt-next [] c r t = absurd (omega arith)
  hunt-next (b ∷ d) c r t =
      rw (verdict-step k (b ∷ d) low, le-leb (32 + 30 * k) (length (b ∷ d)) c, r, lt-leb (size (b ∷ d)) (suc k) t)

  -- word_at k is right, and is the last
  pub hunt-whole : (d : List Bool) → 32 + 30 * k ≤ length d → right k (word_at k d) ≡ true → size d ≤ suc k → hunt e k d ≡ stopped d 0 true
  unfolding hunt
  hunt-whole [] c r t = absurd (omega arith)
  hunt-whole (b ∷ d) c r t =
      rw (verdict-step k (b ∷ d) low, le-leb (32 + 30 * k) (length (b ∷ d)) c, r, le-leb (size (b ∷ d)) (suc k) t)

  -- word_at k is not right: its fault is met
  pub hunt-out : (d : List Bool) → 32 + 30 * k ≤ length d → right k (word_at k d) ≡ false → hunt e k d ≡ with_fault (fault_of k (word_at k d)) (hunt e 0 (drop 1 d))
  unfolding hunt
  hunt-out [] c r = absurd (omega arith)
  hunt-out (b ∷ d) c r =
      rw (verdict-step k (b ∷ d) low, le-leb (32 + 30 * k) (length (b ∷ d)) c, r)

-- word_at k has not come
pub hunt-wait : (k : ℕ) (d : List Bool) → k ≤ 32 → length d < 32 + 30 * k → hunt false k d ≡ stopped d k false
unfolding hunt
hunt-wait k [] low c = refl
hunt-wait k (b ∷ d) low c = rw (verdict-step k (b ∷ d) low, lt-leb (32 + 30 * k) (length (b ∷ d)) c)

-- and will not come
pub hunt-cut : (k : ℕ) (d : List Bool) → k ≤ 32 → 0 < length d → length d < 32 + 30 * k → hunt true k d ≡ hunt true 0 (drop 1 d)
unfolding hunt
hunt-cut k [] low l c = absurd (omega arith)
hunt-cut k (b ∷ d) low l c = rw (verdict-step k (b ∷ d) low, lt-leb (32 + 30 * k) (length (b ∷ d)) c)

-- nothing is left
pub hunt-none : (e : Bool) (k : ℕ) → hunt e k [] ≡ stopped [] k false
unfolding hunt
hunt-none e k = refl

-- the hunt goes on only
pub hunt-short : (e : Bool) (k : ℕ) (d : List Bool) → length (hunt e k d).rest ≤ length d
unfolding hunt
hunt-short e k [] = omega arith
hunt-short e k (b ∷ d) = go (verdict_from (33 - k) k (b ∷ d)) e (hunt-short e 0 d)
  where
    go : (s : Verdict) (x : Bool) → length (hunt e 0 d).rest ≤ length d → length (hunt_by s x (b ∷ d) (hunt e 0 d)).rest ≤ length (b ∷ d)
    go (out j) x h = omega arith
    go standing x h = omega arith
    go (undecided j) true h = omega arith
    go (undecided j) false h = omega arith

-- what is left is the end of what there was
pub hunt-suffix : (e : Bool) (k : ℕ) (d : List Bool) → (hunt e k d).rest ≡ drop (length d - length (hunt e k d).rest) d
unfolding hunt
hunt-suffix e k [] = refl
hunt-suffix e k (b ∷ d) = go (verdict_from (33 - k) k (b ∷ d)) e (up (hunt-suffix e 0 d))
  where
    r : List Bool
    r = (hunt e 0 d).rest

    more_by : suc (length d) - length r ≡ suc (length d - length r)
    more_by = omega (arith, hunt-short e 0 d)

    up : r ≡ drop (length d - length r) d → r ≡ drop (suc (length d) - length r) (b ∷ d)
    up x = x ∙ ap (λ (m : ℕ). drop m (b ∷ d)) (sym more_by)

    none : (l : List Bool) → l ≡ drop (length l - length l) l
    none l = ap (λ (m : ℕ). drop m l) (zero_is (length l))
      where
        zero_is : (n : ℕ) → 0 ≡ n - n
        zero_is n = omega arith

    go : (s : Verdict) (x : Bool) → r ≡ drop (suc (length d) - length r) (b ∷ d)
        → (hunt_by s x (b ∷ d) (hunt e 0 d)).rest ≡ drop (length (b ∷ d) - length (hunt_by s x (b ∷ d) (hunt e 0 d)).rest) (b ∷ d)
    go (out j) x h = h
    go standing x h = none (b ∷ d)
    go (undecided j) true h = h
    go (undecided j) false h = none (b ∷ d)

-- WHERE THE HUNT STOPS, whatever it began with: at a frame, or with less than 992 bits held
abbrev Low : List Bool → Verdict → Type 0
Low d (out k) = Unit {0}
Low d standing = Unit {0}
Low d (undecided j) = (length d < 32 + 30 * j) × (j ≤ 32)

verdict-low : (n k : ℕ) (d : List Bool) → n + k ≡ 33 → k ≤ 32 → Low d (verdict_from n k d)
unfolding verdict_from
verdict-low zero k d e h = absurd (omega arith)
verdict-low (suc n) k d e h =
    go (leb (32 + 30 * k) (length d)) refl (right k (word_at k d)) (leb (size d) (suc k)) refl
    (verdict-low n (suc k) d (omega (arith, e, suc-add n k, add-suc n k)))
  where
    go : (a : Bool) → leb (32 + 30 * k) (length d) ≡ a → (b c : Bool) → leb (size d) (suc k) ≡ c → (suc k ≤ 32 → Low d (verdict_from n (suc k) d))
        → Low d (judged a b c k (verdict_from n (suc k) d))
    go false ea b c ec next = (leb-false (32 + 30 * k) (length d) ea, h)
    go true ea false c ec next = tt
    go true ea true true ec next = tt
    go true ea true false ec next = next (omega (arith, leb-false (size d) (suc k) ec, n-lt d))

pub record Bounded (h : Hunted) : Type 0 where
  pub few : h.words ≤ 32
  pub free : h.found ≡ false → length h.rest ≤ 991

pub hunt-bounded : (e : Bool) (k : ℕ) (d : List Bool) → k ≤ 32 → Bounded (hunt e k d)
unfolding hunt
hunt-bounded e k [] h = record { few = h; free = λ f. omega arith }
hunt-bounded e k (b ∷ d) h = go (verdict_from (33 - k) k (b ∷ d)) e (verdict-low (33 - k) k (b ∷ d) (omega arith) h) (hunt-bounded e 0 d (omega arith))
  where
    go : (v : Verdict) (x : Bool) → Low (b ∷ d) v → Bounded (hunt e 0 d) → Bounded (hunt_by v x (b ∷ d) (hunt e 0 d))
    go (out j) x l r = record { few = r.few; free = r.free }
    go standing x l r = record { few = omega arith; free = λ f. unlike true refl f }
    go (undecided j) true l r = r
    go (undecided j) false l r = record { few = l.1; free = λ f. omega (arith, l.0, l.1) }
