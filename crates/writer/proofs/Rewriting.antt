-- A frame that stands, written after its own two carried bits, gives its own bits, in either polarity. Assumes nothing.
use mathlib.Core.Path.{◌≡◌, refl, sym, ap, ap₂, ◌∙◌}
use mathlib.Core.Bool.{Bool, true, false, not}
use mathlib.Core.List.{List, [], ◌∷◌, ◌++◌, map}
use Prim.Native.Nat.{ℕ, zero, suc, ◌+◌, ◌*◌, ◌≤◌, ◌<◌}
use native.Mathlib.Omega.{arith}
use lib.ListN.{length, take, drop, get_or, length-drop}
use lib.Seq.{drop-cons, get_or-take, take-add, length-take-le}
use Rattle.bits.specs.Bits.{bits, number}
use Rattle.word.specs.Word.{nth, d29*, d30*, data_of, passes, sent}
use Rattle.word.proofs.Sending.{data-number, only-sent}
use Rattle.stream.specs.Standing.{word_at, size, Stands, data_from, frame_at}
use Rattle.stream.proofs.Words.{right-passes}
use Rattle.stream.proofs.Stand.{stands-long}
use Rattle.stream.proofs.Turning.{take-turned, drop-turned, n-turned}
use Rattle.stream.proofs.Data.{word-later, data-later, words-standing}
use Rattle.writer.specs.Sending.{sent_from, sent_bits}
use Rattle.writer.specs.OneFrame.{its_bits}

-- ---- words that pass are what their data are sent as

-- thirty bits after x, y that pass are the word that their data send
thirty : (x y : Bool) (r : List Bool) → 30 ≤ length r → passes (word_at 0 (x ∷ y ∷ r)) ≡ true
    → sent x y (bits 24 (number (data_of (word_at 0 (x ∷ y ∷ r))))) ≡ take 30 r
thirty x y r l p =
    ap (sent x y) (data-number (word_at 0 (x ∷ y ∷ r)))
    ∙ sym (ap (drop 2) (only-sent (word_at 0 (x ∷ y ∷ r)) (ap (λ n. suc (suc n)) (length-take-le 30 r l)) p))

-- the last two of the thirty, and what follows
last-two : (x y : Bool) (r : List Bool) → 30 ≤ length r → drop 30 (x ∷ y ∷ r) ≡ nth (take 30 r) 29 ∷ nth (take 30 r) 30 ∷ drop 30 r
last-two x y r l =
    drop-cons r 28 false (omega arith)
    ∙ ap (λ t. get_or r 28 false ∷ t) (drop-cons r 29 false (omega arith))
    ∙ ap₂ (λ s t. s ∷ t ∷ drop 30 r) (sym (get_or-take 30 r 28 false (omega arith))) (sym (get_or-take 30 r 29 false (omega arith)))

sent-again : (m : ℕ) (x y : Bool) (r : List Bool) → 30 * m ≤ length r → ((k : ℕ) → k < m → passes (word_at k (x ∷ y ∷ r)) ≡ true)
    → sent_from x y (data_from m 0 (x ∷ y ∷ r)) ≡ take (30 * m) r
unfolding sent_from data_from
sent-again zero x y r l p = refl
sent-again (suc m) x y r l p =
    ap₂ (λ s ws. s ++ sent_from (nth s 29) (nth s 30) ws) (thirty x y r (omega arith) (p 0 (omega arith)))
    (sym (data-later m 0 (x ∷ y ∷ r)) ∙ ap (data_from m 0) next)
    ∙ ap (λ t. take 30 r ++ t) (sent-again m (nth (take 30 r) 29) (nth (take 30 r) 30) (drop 30 r) (omega (arith, length-drop 30 r)) later)
    ∙ sym (take-add 30 (30 * m) r)
    ∙ ap (λ n. take n r) many
  where
    next : drop 30 (x ∷ y ∷ r) ≡ nth (take 30 r) 29 ∷ nth (take 30 r) 30 ∷ drop 30 r
    next = last-two x y r (omega arith)

    later : (k : ℕ) → k < m → passes (word_at k (nth (take 30 r) 29 ∷ nth (take 30 r) 30 ∷ drop 30 r)) ≡ true
    later k h = ap (λ d. passes (word_at k d)) (sym next) ∙ ap passes (word-later k (x ∷ y ∷ r)) ∙ p (suc k) (omega arith)

    many : 30 + 30 * m ≡ 30 * suc m
    many = omega arith

-- ---- ITS OWN BITS

pub rewritten : (d : List Bool) → Stands d → sent_bits (d29* d) (d30* d) (frame_at d) ≡ its_bits d
rewritten [] s = absurd (omega (arith, stands-long [] s))
rewritten (x ∷ []) s = absurd (omega (arith, stands-long (x ∷ []) s))
rewritten (x ∷ y ∷ r) s =
    ap (sent_from x y) (words-standing (x ∷ y ∷ r) s)
    ∙ sent-again (size (x ∷ y ∷ r)) x y r (omega (arith, s.taken)) (λ k h. right-passes k (word_at k (x ∷ y ∷ r)) (s.each k h))

-- in the other polarity they are turned over
pub bits-turned : (d : List Bool) → Stands d → its_bits (map not d) ≡ map not (its_bits d)
bits-turned d s =
    ap (λ n. take (30 * (2 + n)) (drop 2 (map not d))) (n-turned d (stands-long d s))
    ∙ ap (take (30 * size d)) (drop-turned 2 d)
    ∙ take-turned (30 * size d) (drop 2 d)
