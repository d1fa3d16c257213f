-- Laws of the words of a position: what more bits change, how long a word is, when it is right. Assumes nothing.
use mathlib.Core.Path.{◌≡◌, refl, ap, ◌∙◌}
use mathlib.Core.Bool.{Bool, true, false, ◌&&◌}
use mathlib.Core.List.{List, [], ◌∷◌, ◌++◌}
use Prim.Native.Nat.{ℕ, zero, suc, ◌+◌, ◌*◌, ◌≤◌, ◌<◌}
use native.Mathlib.Nat.{add-suc, add-zero, suc-add}
use native.Mathlib.Omega.{arith}
use lib.ListN.{length, drop, length-take, length-drop, get_or-append}
use lib.Seq.{drop-append-le, take-append-le}
use Rattle.bits.specs.Bits.{number}
use Rattle.bits.proofs.FieldLaws.{fits-field}
use Rattle.word.specs.Word.{data_of, passes}
use Rattle.frame.specs.Header.{preambled, n_of}
use Rattle.frame.specs.Frames.{framed, after_pair}
use Rattle.stream.specs.Standing.{word_at, right, n_at, size, data_from, frame_at}

-- two tests that both hold
pub both_left : (a b : Bool) → (a && b) ≡ true → a ≡ true
both_left true b e = refl
both_left false b e = e

pub both_right : (a b : Bool) → (a && b) ≡ true → b ≡ true
both_right true b e = e
both_right false b e = cc

-- a test that holds and does not
pub unlike : {A : Type 0} (a : Bool) → a ≡ true → a ≡ false → A
unlike a p q = absurd (let z : ◌≡◌ {A = ℕ} 0 1 = cc in omega arith)

-- ---- how many words, how long

pub n-lt : (d : List Bool) → n_at d < 32
unfolding n_at n_of
n-lt d = fits-field 16 5 (data_of (word_at 1 d))

pub word-long : (k : ℕ) (d : List Bool) → 32 + 30 * k ≤ length d → length (word_at k d) ≡ 32
word-long k d l = omega (arith, length-take 32 (drop (30 * k) d), length-drop (30 * k) d)

-- ---- more bits change no word that has come

pub word-append : (k : ℕ) (d e : List Bool) → 32 + 30 * k ≤ length d → word_at k (d ++ e) ≡ word_at k d
word-append k d e h =
    let a : 30 * k ≤ length d = omega arith in
    let b : 32 ≤ length (drop (30 * k) d) = simp length-drop (omega arith) in
    rw (drop-append-le (30 * k) d e, take-append-le 32 (drop (30 * k) d) e)

pub n-append : (d e : List Bool) → 62 ≤ length d → n_at (d ++ e) ≡ n_at d
unfolding n_at
n-append d e h = ap (λ w. n_of (data_of w)) (word-append 1 d e h)

data-append : (n k : ℕ) (d e : List Bool) → 2 + 30 * (n + k) ≤ length d → data_from n k (d ++ e) ≡ data_from n k d
unfolding data_from
data-append zero k d e h = refl
data-append (suc n) k d e h =
    rw (word-append k d e (omega (arith, suc-add n k)), data-append n (suc k) d e (omega (arith, suc-add n k, add-suc n k)))

pub frame-append : (d e : List Bool) → 2 + 30 * size d ≤ length d → frame_at (d ++ e) ≡ frame_at d
unfolding frame_at
frame-append d e h =
    rw (
      get_or-append d e false 0 (omega arith),
      get_or-append d e false 1 (omega arith),
      n-append d e (omega arith),
      word-append 0 d e (omega arith),
      word-append 1 d e (omega arith),
      data-append (n_at d) 2 d e (omega arith),
    )

-- ---- the data words

pub length-data_from : (n k : ℕ) (d : List Bool) → length (data_from n k d) ≡ n
unfolding data_from
length-data_from zero k d = refl
length-data_from (suc n) k d = ap suc (length-data_from n (suc k) d)

-- one word more
pub data-more : (n k : ℕ) (d : List Bool) → data_from (suc n) k d ≡ data_from n k d ++ (number (data_of (word_at (k + n) d)) ∷ [])
unfolding data_from
data-more zero k d = rw (add-zero k)
data-more (suc n) k d = ap (λ t. number (data_of (word_at k d)) ∷ t) (data-more n (suc k) d ∙ rw (add-suc k n, suc-add k n))

-- N of the frame that stands is N of its second word
pub frame-n : (d : List Bool) → (frame_at d).n ≡ n_at d
unfolding frame_at framed after_pair
frame-n d = length-data_from (n_at d) 2 d

-- ---- when a word is right

pub right-passes : (k : ℕ) (w : List Bool) → right k w ≡ true → passes w ≡ true
unfolding right
right-passes zero w e = both_right (preambled (data_of w)) (passes w) e
right-passes (suc k) w e = e

pub not_right : (k : ℕ) (w : List Bool) → passes w ≡ false → right k w ≡ false
unfolding right
not_right zero w e = rw e (both_false (preambled (data_of w)))
  where
    both_false : (a : Bool) → (a && false) ≡ false
    both_false true = refl
    both_false false = refl
not_right (suc k) w e = e

pub right-later : (k : ℕ) (w : List Bool) → (k ≡ 0 → ⊥) → right k w ≡ passes w
unfolding right
right-later zero w e = absurd (e refl)
right-later (suc k) w e = refl

pub right-at-first : (k : ℕ) (w : List Bool) → k ≡ 0 → right k w ≡ preambled (data_of w) && passes w
unfolding right
right-at-first zero w e = refl
right-at-first (suc k) w e = absurd (omega arith)

pub right-first : (w : List Bool) → right 0 w ≡ true → preambled (data_of w) ≡ true
unfolding right
right-first w e = both_left (preambled (data_of w)) (passes w) e
