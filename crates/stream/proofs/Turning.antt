-- Turning all bits of a stream changes no verdict, and of a frame its carried pair alone. Assumes nothing.
use mathlib.Core.Path.{◌≡◌, refl, sym, ap, ap₂, ◌∙◌}
use mathlib.Core.Bool.{Bool, true, false, not, ◌&&◌, cond, not-not}
use mathlib.Core.List.{List, [], ◌∷◌, map}
use Prim.Native.Nat.{ℕ, zero, suc, ◌+◌, ◌-◌, ◌*◌, ◌≤◌}
use native.Mathlib.Nat.{add-suc, suc-add}
use native.Mathlib.Omega.{arith}
use lib.Dec.{leb}
use lib.ListN.{length, take, drop, length-map}
use borrow.Author.Tests.{leb-true, lt-leb}
use Rattle.bits.specs.Bits.{val, number}
use Rattle.word.specs.Word.{data_of, remainder_of, passes}
use Rattle.word.proofs.Linearity.{data-turned, remainder-turned, passes-turned}
use Rattle.frame.specs.Header.{preambled, n_of}
use Rattle.frame.specs.Frames.{after_pair, turned_pair, turned_frame}
use Rattle.stream.specs.Standing.{word_at, right, n_at, size, Stands, stands, data_from, pair_before, frame_at, placed, turned_placed, scan}
use Rattle.stream.specs.Verdict.{judged, verdict_from, headless, failed, fault_of}
use Rattle.stream.proofs.Words.{unlike, word-long}
use Rattle.stream.proofs.Stand.{stands-long, stands-test, test-stands, not_test}

-- ---- lists turned over

pub take-turned : (n : ℕ) (d : List Bool) → take n (map not d) ≡ map not (take n d)
take-turned zero d = refl
take-turned (suc n) [] = refl
take-turned (suc n) (b ∷ d) = ap (λ l. not b ∷ l) (take-turned n d)

pub drop-turned : (n : ℕ) (d : List Bool) → drop n (map not d) ≡ map not (drop n d)
drop-turned zero d = refl
drop-turned (suc n) [] = refl
drop-turned (suc n) (b ∷ d) = drop-turned n d

pub turned-twice : (d : List Bool) → map not (map not d) ≡ d
turned-twice [] = refl
turned-twice (b ∷ d) = rw (not-not b, turned-twice d)

word-turned : (k : ℕ) (d : List Bool) → word_at k (map not d) ≡ map not (word_at k d)
word-turned k d = rw (drop-turned (30 * k) d, take-turned 32 (drop (30 * k) d))

-- ---- words turned over

module _ (k : ℕ) (d : List Bool) (l : 32 + 30 * k ≤ length d) where
  data-same : data_of (word_at k (map not d)) ≡ data_of (word_at k d)
  data-same = rw (word-turned k d) (data-turned (word_at k d) (word-long k d l))

  passes_same : passes (word_at k (map not d)) ≡ passes (word_at k d)
  passes_same = rw (word-turned k d) (passes-turned (word_at k d) (word-long k d l))

  remainder-same : remainder_of (word_at k (map not d)) ≡ remainder_of (word_at k d)
  remainder-same = rw (word-turned k d) (remainder-turned (word_at k d) (word-long k d l))

pub right-turned : (k : ℕ) (d : List Bool) → 32 + 30 * k ≤ length d → right k (word_at k (map not d)) ≡ right k (word_at k d)
unfolding right
right-turned zero d l = ap₂ (λ ds p. preambled ds && p) (data-same 0 d l) (passes_same 0 d l)
right-turned (suc k) d l = passes_same (suc k) d l

-- a word that fails turned over fails with the same remainder, or lacks its preamble as before
pub fault-turned : (k : ℕ) (d : List Bool) → 32 + 30 * k ≤ length d → fault_of k (word_at k (map not d)) ≡ fault_of k (word_at k d)
unfolding fault_of
fault-turned zero d l = ap₂ (λ ds r. cond (preambled ds) (failed r) headless) (data-same 0 d l) (remainder-same 0 d l)
fault-turned (suc k) d l = ap failed (remainder-same (suc k) d l)

pub n-turned : (d : List Bool) → 62 ≤ length d → n_at (map not d) ≡ n_at d
unfolding n_at
n-turned d l = ap n_of (data-same 1 d l)

data_from-turned : (n k : ℕ) (d : List Bool) → 2 + 30 * (n + k) ≤ length d → data_from n k (map not d) ≡ data_from n k d
unfolding data_from
data_from-turned zero k d l = refl
data_from-turned (suc n) k d l =
    ap₂ (λ ds rest. number ds ∷ rest) (data-same k d (omega (arith, suc-add n k))) (data_from-turned n (suc k) d (omega (arith, suc-add n k, add-suc n k)))

-- the two bits before a position
pair-turned : (d : List Bool) → 2 ≤ length d → pair_before (map not d) ≡ turned_pair (pair_before d)
pair-turned [] l = absurd (omega arith)
pair-turned (a ∷ []) l = absurd (omega arith)
pair-turned (a ∷ b ∷ d) l = ap₂ (λ x y. record { d29 = x; d30 = y }) (one a) (one b)
  where
    one : (b : Bool) → val (not b) ≡ 1 - val b
    one true = refl
    one false = refl

-- ---- A FRAME THAT STANDS, turned over, stands and is the same frame but for its pair

pub stands-turned : (d : List Bool) → Stands d → Stands (map not d)
stands-turned d s = record {
  taken = omega (arith, s.taken, n, length-map d not);
  each = λ k h. right-turned k d (omega (arith, s.taken, n)) ∙ s.each k (omega (arith, n));
}
  where
    n : n_at (map not d) ≡ n_at d
    n = n-turned d (stands-long d s)

pub stands-back : (d : List Bool) → Stands (map not d) → Stands d
stands-back d s = rw (turned-twice d) at (stands-turned (map not d) s)

pub frame-turned : (d : List Bool) → Stands d → frame_at (map not d) ≡ turned_frame (frame_at d)
unfolding frame_at after_pair
frame-turned d s =
    rw (
      pair-turned d (omega (arith, s.taken)),
      n-turned d (stands-long d s),
      data-same 0 d (omega (arith, s.taken)),
      data-same 1 d (omega (arith, s.taken)),
      data_from-turned (n_at d) 2 d (omega (arith, s.taken)),
    )

placed-turned : (p : ℕ) (d : List Bool) → Stands d → placed p (map not d) ≡ turned_placed (placed p d)
unfolding placed
placed-turned p d s = rw (frame-turned d s)

test-turned : (d : List Bool) → stands (map not d) ≡ stands d
test-turned d = go (stands d) refl
  where
    go : (t : Bool) → stands d ≡ t → stands (map not d) ≡ t
    go true e = stands-test (map not d) (stands-turned d (test-stands d e))
    go false e = not_test (map not d) (λ s. unlike (stands d) (stands-test d (stands-back d s)) e)

-- ---- THE SCAN of a stream turned over

pub scan-turned : (n p : ℕ) (d : List Bool) → scan n p (map not d) ≡ map turned_placed (scan n p d)
unfolding scan
scan-turned n p [] = refl
scan-turned (suc n) p (b ∷ d) = scan-turned n (suc p) d
scan-turned zero p (b ∷ d) =
    rw (test-turned (b ∷ d)) (go (stands (b ∷ d)) refl (scan-turned (30 * size (b ∷ d) - 1) (suc p) d) (scan-turned 0 (suc p) d))
  where
    go : (t : Bool) → stands (b ∷ d) ≡ t → scan (30 * size (b ∷ d) - 1) (suc p) (map not d) ≡ map turned_placed (scan (30 * size (b ∷ d) - 1) (suc p) d)
        → scan 0 (suc p) (map not d) ≡ map turned_placed (scan 0 (suc p) d)
        → cond t (placed p (map not (b ∷ d)) ∷ scan (30 * size (map not (b ∷ d)) - 1) (suc p) (map not d)) (scan 0 (suc p) (map not d))
        ≡ map turned_placed (cond t (placed p (b ∷ d) ∷ scan (30 * size (b ∷ d) - 1) (suc p) d) (scan 0 (suc p) d))
    go false e f g = g
    go true e f g =
        let s = test-stands (b ∷ d) e in
        rw (placed-turned p (b ∷ d) s, n-turned (b ∷ d) (stands-long (b ∷ d) s), f)

-- ---- THE VERDICTS on a stream turned over

last-turned : (k : ℕ) (d : List Bool) → 32 + 30 * k ≤ length d → leb (size (map not d)) (suc k) ≡ leb (size d) (suc k)
last-turned zero d h = lt-leb (size (map not d)) 1 (omega arith) ∙ sym (lt-leb (size d) 1 (omega arith))
last-turned (suc k) d h = rw (n-turned d (omega arith))

pub verdict-turned : (n k : ℕ) (d : List Bool) → verdict_from n k (map not d) ≡ verdict_from n k d
unfolding verdict_from
verdict-turned zero k d = refl
verdict-turned (suc n) k d = rw (length-map d not) (go (leb (32 + 30 * k) (length d)) refl (verdict-turned n (suc k) d))
  where
    go : (a : Bool) → leb (32 + 30 * k) (length d) ≡ a → verdict_from n (suc k) (map not d) ≡ verdict_from n (suc k) d
        → judged a (right k (word_at k (map not d))) (leb (size (map not d)) (suc k)) k (verdict_from n (suc k) (map not d))
        ≡ judged a (right k (word_at k d)) (leb (size d) (suc k)) k (verdict_from n (suc k) d)
    go false e ih = refl
    go true e ih = rw (right-turned k d (leb-true _ _ e), last-turned k d (leb-true _ _ e), ih)
