-- Line bits in bytes, and bytes in a buffer. Assumes nothing.
use mathlib.Core.Path.{◌≡◌, refl, sym, ap, ◌∙◌}
use mathlib.Core.Bool.{Bool}
use mathlib.Core.List.{List, [], ◌∷◌, ◌++◌, append_assoc}
use Prim.Native.Nat.{ℕ, zero, suc, ◌+◌, ◌-◌, ◌*◌, ◌/◌, ◌^◌, ◌≤◌}
use native.Mathlib.Nat.{zero-add, suc-add, div-one}
use native.Mathlib.Omega.{arith}
use lib.ListN.{length, take, drop, length-append, length-drop, take-append-drop}
use lib.Seq.{sets, sets-eq, take_at, drop_at, drop-drop, length-take-le, take-append-le, drop-append-le}
use borrow.Rule.Slice.PartMut.{put_mid}
use Rattle.bits.specs.Bits.{bits}
use Rattle.bits.proofs.Numbers.{length-bits, bits-split}
use Rattle.line.specs.Line.{line_bits, byte_of}
use Rattle.line.proofs.LineLaws.{six-byte, byte-data}
use Rattle.writer.specs.Sending.{bytes_for}
use Rattle.writer.specs.Answer.{over}

-- ---- six bits a byte

pub length-bytes : (n : ℕ) (bs : List Bool) → length (bytes_for n bs) ≡ n
unfolding bytes_for
length-bytes zero bs = refl
length-bytes (suc n) bs = ap suc (length-bytes n (drop 6 bs))

-- the bytes carry their bits
pub line-bytes : (n : ℕ) (bs : List Bool) → length bs ≡ 6 * n → line_bits (bytes_for n bs) ≡ bs
unfolding bytes_for line_bits
line-bytes zero [] l = refl
line-bytes zero (b ∷ bs) l = absurd (omega arith)
line-bytes (suc n) bs l =
    let front : length (take 6 bs) ≡ 6 = length-take-le 6 bs (omega arith) in
    rw (byte-data (take 6 bs) front, six-byte (take 6 bs) front, line-bytes n (drop 6 bs) (omega (arith, length-drop 6 bs)))
    (take-append-drop 6 bs)

-- one list after another
pub bytes-append : (m n : ℕ) (bs cs : List Bool) → length bs ≡ 6 * m → bytes_for (m + n) (bs ++ cs) ≡ bytes_for m bs ++ bytes_for n cs
unfolding bytes_for
bytes-append zero n [] cs l = rw (zero-add n)
bytes-append zero n (b ∷ bs) cs l = absurd (omega arith)
bytes-append (suc m) n bs cs l =
    rw (suc-add m n, take-append-le 6 bs cs (omega arith), drop-append-le 6 bs cs (omega arith))
    (ap (λ r. byte_of (take 6 bs) ∷ r) (bytes-append m n (drop 6 bs) cs (omega (arith, length-drop 6 bs))))

-- the byte of the six highest bits, then those of the rest
highest : (n k w : ℕ) → bytes_for (suc n) (bits (6 + k) w) ≡ byte_of (bits 6 (w / 2 ^ k)) ∷ bytes_for n (bits k w)
unfolding bytes_for
highest n k w =
    rw (
      bits-split 6 k w,
      take_at (bits 6 (w / 2 ^ k)) (bits k w) 6 (length-bits 6 (w / 2 ^ k)),
      drop_at (bits 6 (w / 2 ^ k)) (bits k w) 6 (length-bits 6 (w / 2 ^ k)),
    )

-- a word's five bytes
word_bytes : (w : ℕ) → bytes_for 5 (bits 30 w)
    ≡ byte_of (bits 6 (w / 16777216)) ∷ byte_of (bits 6 (w / 262144)) ∷ byte_of (bits 6 (w / 4096)) ∷ byte_of (bits 6 (w / 64)) ∷ byte_of (bits 6 w) ∷ []
unfolding bytes_for
word_bytes w =
    highest 4 24 w
    ∙ ap (λ r. byte_of (bits 6 (w / 16777216)) ∷ r) (highest 3 18 w
    ∙ ap (λ r. byte_of (bits 6 (w / 262144)) ∷ r) (highest 2 12 w
    ∙ ap (λ r. byte_of (bits 6 (w / 4096)) ∷ r) (highest 1 6 w
    ∙ ap (λ r. byte_of (bits 6 (w / 64)) ∷ r) (highest 0 0 w
    ∙ ap (λ n. byte_of (bits 6 n) ∷ []) (div-one w)))))

-- ---- bytes in a buffer

-- a word's five bytes, copied to their place
pub put_five_lem : (l : List ℕ) (i w : ℕ) {bs : List ℕ} → i + 5 ≤ length l
    → bs ≡ byte_of (bits 6 (w / 16777216)) ∷ byte_of (bits 6 (w / 262144)) ∷ byte_of (bits 6 (w / 4096)) ∷ byte_of (bits 6 (w / 64)) ∷ byte_of (bits 6 w) ∷ []
    → put_mid i (i + 5 - i) l bs ≡ sets l i (bytes_for 5 (bits 30 w))
put_five_lem l i w {bs} h e =
    ap (put_mid i (i + 5 - i) l) (e ∙ sym (word_bytes w))
    ∙ ap (λ r. take i l ++ (five ++ r)) (drop-drop (i + 5 - i) i l ∙ ap (λ j. drop j l) past)
    ∙ sym (sets-eq five l i room ∙ append_assoc (take i l) five (drop (i + length five) l))
  where
    five : List ℕ
    five = bytes_for 5 (bits 30 w)

    past : i + (i + 5 - i) ≡ i + length (bytes_for 5 (bits 30 w))
    past = omega (arith, length-bytes 5 (bits 30 w))

    room : i + length (bytes_for 5 (bits 30 w)) ≤ length l
    room = omega (arith, length-bytes 5 (bits 30 w))

-- stores from the front on
pub sets_over : (bytes l : List ℕ) → length bytes ≤ length l → sets l 0 bytes ≡ over bytes l
sets_over bytes l h = sets-eq bytes l 0 (omega arith) ∙ ap (λ k. bytes ++ drop k l) (zero-add (length bytes))

-- bytes after bytes
pub over-append : (a b l : List ℕ) → over (a ++ b) l ≡ a ++ over b (drop (length a) l)
over-append a b l =
    append_assoc a b (drop (length (a ++ b)) l)
    ∙ ap (λ r. a ++ (b ++ r)) (ap (λ n. drop n l) (length-append a b) ∙ sym (drop-drop (length b) (length a) l))

-- the front and the rest of a buffer that was written
pub take-over : (bytes l : List ℕ) (n : ℕ) → length bytes ≡ n → take n (over bytes l) ≡ bytes
take-over bytes l n e = take_at bytes (drop (length bytes) l) n e

pub drop-over : (bytes l : List ℕ) (n : ℕ) → length bytes ≡ n → drop n (over bytes l) ≡ drop n l
drop-over bytes l n e = drop_at bytes (drop (length bytes) l) n e ∙ ap (λ k. drop k l) e
