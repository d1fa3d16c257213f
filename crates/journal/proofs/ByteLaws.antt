-- A word and its k bytes are inverse, by the field law over the layout of k bytes. Assumes nothing.
use mathlib.Core.Path.{◌≡◌, refl, sym, ap, ap₂, ◌∙◌}
use mathlib.Core.List.{List, [], ◌∷◌, ◌++◌, append-nil, append_assoc}
use Prim.Native.Nat.{ℕ, zero, suc, ◌+◌, ◌-◌, ◌*◌, ◌/◌, ◌%◌, ◌^◌, ◌≤◌, ◌<◌}
use native.Mathlib.Nat.{zero-add, mod-eq_of_lt}
use native.Mathlib.Omega.{arith}
use lib.ListN.{length, take, drop, get_or, replicate}
use borrow.Rule.Slice.PartMut.{put_mid}
use Rattle.std.specs.Int.{w32, byte_at, bytes_high_first, to_be_bytes, from_be_bytes}
use Rattle.bits.specs.Bits.{bits, number}
use Rattle.bits.specs.Fields.{fields_at, packed, span, octets, AreBytes}
use Rattle.bits.proofs.Numbers.{length-bits, number-bits, number_lt, bits-number, number_append}
use Rattle.bits.proofs.FieldLaws.{values_of, length-packed, fields-packed, packed-fields, fields_bits}
use Rattle.journal.specs.Bytes.{bytes_of, word_in}

span-octets : (k : ℕ) → span (octets k) ≡ 8 * k
span-octets zero = refl
span-octets (suc k) = omega (arith, span-octets k)

-- ---- the bytes of a word

bytes-values : (k w : ℕ) → bytes_of k w ≡ values_of (octets k) w
unfolding bytes_of
bytes-values k w = ap (λ j. fields_at (octets k) 0 (bits j w)) (sym (zero-add (span (octets k)))) ∙ fields_bits (octets k) 0 w

pub bytes-none : (w : ℕ) → bytes_of zero w ≡ []
unfolding bytes_of
bytes-none w = refl

-- the highest byte, then those of the k lower ones
pub bytes-first : (k w : ℕ) → bytes_of (suc k) w ≡ w / 2 ^ (8 * k) % 256 ∷ bytes_of k w
bytes-first k w = bytes-values (suc k) w ∙ rw (span-octets k, sym (bytes-values k w))

pub length-bytes : (k w : ℕ) → length (bytes_of k w) ≡ k
length-bytes zero w = ap length (bytes-none w)
length-bytes (suc k) w = ap length (bytes-first k w) ∙ ap suc (length-bytes k w)

-- the lowest k of the four bytes of the library
byte-shifted : (k w : ℕ) → k < 4 → byte_at k w ≡ w / 2 ^ (8 * k) % 256
byte-shifted zero w h = omega arith
byte-shifted (suc zero) w h = refl
byte-shifted (suc (suc zero)) w h = refl
byte-shifted (suc (suc (suc zero))) w h = refl
byte-shifted (suc (suc (suc (suc k)))) w h = absurd (omega arith)

high-first : (k w : ℕ) → k ≤ 4 → bytes_high_first k w ≡ bytes_of k w
high-first zero w h = sym (bytes-none w)
high-first (suc k) w h = ap₂ ◌∷◌ (byte-shifted k w (omega arith)) (high-first k w (omega arith)) ∙ sym (bytes-first k w)

pub lowest-bytes : (k w : ℕ) → k ≤ 4 → take (4 - (4 - k)) (drop (4 - k) (to_be_bytes w32 w)) ≡ bytes_of k w
lowest-bytes k w h = go k h ∙ high-first k w h
  where
    go : (j : ℕ) → j ≤ 4 → take (4 - (4 - j)) (drop (4 - j) (to_be_bytes w32 w)) ≡ bytes_high_first j w
    go zero h = refl
    go (suc zero) h = refl
    go (suc (suc zero)) h = refl
    go (suc (suc (suc zero))) h = refl
    go (suc (suc (suc (suc zero)))) h = refl
    go (suc (suc (suc (suc (suc j))))) h = absurd (omega arith)

-- ---- the word of bytes

pub word_none : word_in [] ≡ 0
unfolding word_in number
word_none = refl

pub word_lt : (bs : List ℕ) → word_in bs < 2 ^ (8 * length bs)
unfolding word_in
word_lt bs = rw (length-packed (octets (length bs)) bs, span-octets (length bs)) at (number_lt (packed (octets (length bs)) bs))

packed-append : (bs cs : List ℕ) → packed (octets (length (bs ++ cs))) (bs ++ cs) ≡ packed (octets (length bs)) bs ++ packed (octets (length cs)) cs
packed-append [] cs = refl
packed-append (b ∷ bs) cs =
    ap (λ p. bits 8 b ++ p) (packed-append bs cs) ∙ sym (append_assoc (bits 8 b) (packed (octets (length bs)) bs) (packed (octets (length cs)) cs))

-- one byte more
pub word-snoc : (bs : List ℕ) (b : ℕ) → b < 256 → word_in (bs ++ (b ∷ [])) ≡ word_in bs * 256 + b
unfolding word_in
word-snoc bs b h =
    ap number (packed-append bs (b ∷ []) ∙ ap (λ p. packed (octets (length bs)) bs ++ p) (append-nil (bits 8 b)))
    ∙ number_append (packed (octets (length bs)) bs) (bits 8 b)
    ∙ rw (length-bits 8 b, number-bits 8 b, mod-eq_of_lt h)

-- up to four bytes behind zeros, as the library reads them
pub word-behind : (bs : List ℕ) → ((i : ℕ) → get_or bs i 0 < 256) → length bs ≤ 4
    → from_be_bytes w32 (put_mid (4 - length bs) (4 - (4 - length bs)) (replicate 4 0) bs) ≡ word_in bs
word-behind [] b h = omega (arith, word_none)
word-behind (p ∷ []) b h = omega (arith, word_none, word-snoc [] p (b 0))
word-behind (p ∷ q ∷ []) b h = omega (arith, word_none, word-snoc [] p (b 0), word-snoc (p ∷ []) q (b 1))
word-behind (p ∷ q ∷ r ∷ []) b h =
    omega (arith, word_none, word-snoc [] p (b 0), word-snoc (p ∷ []) q (b 1), word-snoc (p ∷ q ∷ []) r (b 2))
word-behind (p ∷ q ∷ r ∷ s ∷ []) b h =
    omega (arith, word_none, word-snoc [] p (b 0), word-snoc (p ∷ []) q (b 1), word-snoc (p ∷ q ∷ []) r (b 2), word-snoc (p ∷ q ∷ r ∷ []) s (b 3))
word-behind (p ∷ q ∷ r ∷ s ∷ t ∷ bs) b h = absurd (omega arith)

-- ---- inverse both ways

pub word_bytes : (k w : ℕ) → w < 2 ^ (8 * k) → word_in (bytes_of k w) ≡ w
unfolding word_in bytes_of
word_bytes k w h =
    ap (λ n. number (packed (octets n) (bytes_of k w))) (length-bytes k w)
    ∙ ap number (packed-fields (octets k) (bits (span (octets k)) w) (length-bits (span (octets k)) w))
    ∙ number-bits (span (octets k)) w
    ∙ mod-eq_of_lt (rw (sym (span-octets k)) at h)

pub bytes_word : (bs : List ℕ) → AreBytes bs → bytes_of (length bs) (word_in bs) ≡ bs
unfolding word_in bytes_of
bytes_word bs f =
    ap (fields_at (octets (length bs)) 0) (bits-number (span (octets (length bs))) (packed (octets (length bs)) bs) (length-packed (octets (length bs)) bs))
    ∙ fields-packed (octets (length bs)) bs f
