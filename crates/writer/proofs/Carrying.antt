-- Words sent one after the other: their bits, their bytes and the pair that they carry on. Assumes nothing.
use mathlib.Core.Path.{◌≡◌, refl, sym, ap, ap₂, ◌∙◌}
use mathlib.Core.Bool.{Bool, false}
use mathlib.Core.List.{List, [], ◌∷◌, ◌++◌, append-nil}
use Prim.Native.Nat.{ℕ, suc, ◌+◌, ◌-◌, ◌*◌, ◌/◌, ◌%◌, ◌≤◌, ◌<◌}
use native.Mathlib.Omega.{arith}
use lib.ListN.{length, drop, get_or, length-append}
use lib.Seq.{get_or-drop, get_or-append-add}
use Rattle.bits.specs.Bits.{val, is_nonzero, is_odd, bits, number}
use Rattle.bits.proofs.Xor.{val-odd}
use Rattle.bits.proofs.Numbers.{bits-number, bits-mod, bits-last}
use Rattle.word.specs.Word.{nth, d29*, d30*, sent}
use Rattle.word.specs.Answer.{sent_at}
use Rattle.word.proofs.Sending.{length-sent}
use Rattle.stream.specs.Standing.{pair_before}
use Rattle.writer.specs.Sending.{sent_from, carried_on, bytes_for, sent_after, bytes_after, pair_after}
use Rattle.writer.proofs.Bytes.{bytes-append}

-- ---- thirty bits a word

pub length-sent_from : (a b : Bool) (ws : List ℕ) → length (sent_from a b ws) ≡ 30 * length ws
unfolding sent_from
length-sent_from a b [] = refl
length-sent_from a b (w ∷ ws) =
    let s = sent a b (bits 24 w) in
    length-append s (sent_from (nth s 29) (nth s 30) ws)
    ∙ omega (arith, length-sent a b (bits 24 w), length-sent_from (nth s 29) (nth s 30) ws)

pub length-sent_at : (c w : ℕ) → length (sent_at c w) ≡ 30
length-sent_at c w = length-sent (d29* (bits 2 c)) (d30* (bits 2 c)) (bits 24 w)

pub length-sent_after : (c : ℕ) (ws : List ℕ) → length (sent_after c ws) ≡ 30 * length ws
length-sent_after c ws = length-sent_from (d29* (bits 2 c)) (d30* (bits 2 c)) ws

-- ---- a word, then the others

-- D29 and D30 of a word, as a number
last-two : (s : List Bool) → length s ≡ 30 → bits 2 (number s % 4) ≡ drop 28 s
last-two s l = bits-mod 2 (number s) ∙ bits-last 28 2 s l

pub carries-29 : (s : List Bool) → length s ≡ 30 → d29* (bits 2 (number s % 4)) ≡ nth s 29
carries-29 s l = ap d29* (last-two s l) ∙ get_or-drop 28 s 0 false

pub carries-30 : (s : List Bool) → length s ≡ 30 → d30* (bits 2 (number s % 4)) ≡ nth s 30
carries-30 s l = ap d30* (last-two s l) ∙ get_or-drop 28 s 1 false

pub sent-next : (c w : ℕ) (ws : List ℕ) → sent_after c (w ∷ ws) ≡ sent_at c w ++ sent_after (pair_after c (w ∷ [])) ws
unfolding sent_from
sent-next c w ws =
    ap₂ (λ a b. sent_at c w ++ sent_from a b ws)
    (sym (carries-29 (sent_at c w) (length-sent_at c w)))
    (sym (carries-30 (sent_at c w) (length-sent_at c w)))

pub bytes_next : (c w : ℕ) (ws : List ℕ) → bytes_after c (w ∷ ws) ≡ bytes_for 5 (sent_at c w) ++ bytes_after (pair_after c (w ∷ [])) ws
bytes_next c w ws =
    ap₂ bytes_for five (sent-next c w ws)
    ∙ bytes-append 5 (5 * length ws) (sent_at c w) (sent_after (pair_after c (w ∷ [])) ws) (length-sent_at c w)
  where
    five : 5 * suc (length ws) ≡ 5 + 5 * length ws
    five = omega arith

pub bytes_one : (c w : ℕ) → bytes_after c (w ∷ []) ≡ bytes_for 5 (sent_at c w)
unfolding bytes_for
bytes_one c w = bytes_next c w [] ∙ append-nil (bytes_for 5 (sent_at c w))

pub bytes_word : (c w : ℕ) → bytes_for 5 (bits 30 (number (sent_at c w))) ≡ bytes_after c (w ∷ [])
bytes_word c w = ap (bytes_for 5) (bits-number 30 (sent_at c w) (length-sent_at c w)) ∙ sym (bytes_one c w)

pub pair_lt : (c : ℕ) (ws : List ℕ) → c < 4 → pair_after c ws < 4
pair_lt c [] h = h
pair_lt c (w ∷ ws) h = pair_lt (pair_after c (w ∷ [])) ws (omega arith)

-- ---- the pair as two bits

-- of a carried pair, both bits 0 or 1, to its number ..
pub pair-29 : (a b : ℕ) → a ≤ 1 → b ≤ 1 → is_nonzero a ≡ d29* (bits 2 (a * 2 + b))
unfolding bits
pair-29 a b p q = ap is_nonzero high
  where
    high : a ≡ (a * 2 + b) / 2 % 2
    high = omega arith

pub pair-30 : (a b : ℕ) → a ≤ 1 → b ≤ 1 → is_nonzero b ≡ d30* (bits 2 (a * 2 + b))
unfolding bits
pair-30 a b p q = ap is_nonzero low
  where
    low : b ≡ (a * 2 + b) / 1 % 2
    low = omega arith

-- .. and back
pair-halves : (k : ℕ) → k < 4 → pair_before (bits 2 k) ≡ record { d29 = k / 2; d30 = k % 2 }
unfolding bits
pair-halves k h = ap₂ (λ a b. record { d29 = a; d30 = b }) high low
  where
    high : val (is_odd (k / 2)) ≡ k / 2
    high = omega (arith, val-odd (k / 2))

    low : val (is_odd (k / 1)) ≡ k % 2
    low = omega (arith, val-odd (k / 1))

pair-bits : (s : List Bool) → length s ≡ 30 → carried_on s ≡ pair_before (bits 2 (number s % 4))
pair-bits s l =
    ap (λ n. record { d29 = val (get_or s (n - 2) false); d30 = val (get_or s (n - 1) false) }) l
    ∙ ap₂ (λ a b. record { d29 = val a; d30 = val b }) (sym (carries-29 s l)) (sym (carries-30 s l))

-- the last two bits of a list are those of its end
carried-append : (s t : List Bool) → 2 ≤ length t → carried_on (s ++ t) ≡ carried_on t
carried-append s t h =
    ap₂ (λ i j. record { d29 = val (get_or (s ++ t) i false); d30 = val (get_or (s ++ t) j false) }) (far 2 h) (far 1 (omega arith))
    ∙ ap₂ (λ a b. record { d29 = val a; d30 = val b }) (get_or-append-add s t (length t - 2) false) (get_or-append-add s t (length t - 1) false)
  where
    far : (k : ℕ) → k ≤ length t → length (s ++ t) - k ≡ length s + (length t - k)
    far k e = omega (arith, length-append s t)

-- the pair carried on is D29 and D30 of the last word
pub carried-bits : (c w : ℕ) (ws : List ℕ) → carried_on (sent_after c (w ∷ ws)) ≡ pair_before (bits 2 (pair_after c (w ∷ ws)))
unfolding sent_from
carried-bits c w [] = ap carried_on (append-nil (sent_at c w)) ∙ pair-bits (sent_at c w) (length-sent_at c w)
carried-bits c w (v ∷ ws) =
    ap carried_on (sent-next c w (v ∷ ws))
    ∙ carried-append (sent_at c w) (sent_after (pair_after c (w ∷ [])) (v ∷ ws)) (omega (arith, length-sent_after (pair_after c (w ∷ [])) (v ∷ ws)))
    ∙ carried-bits (pair_after c (w ∷ [])) v ws

pub carried-pair : (c w : ℕ) (ws : List ℕ)
    → carried_on (sent_after c (w ∷ ws)) ≡ record { d29 = pair_after c (w ∷ ws) / 2; d30 = pair_after c (w ∷ ws) % 2 }
carried-pair c w ws = carried-bits c w ws ∙ pair-halves (pair_after c (w ∷ ws)) (pair_lt (pair_after c (w ∷ [])) ws (omega arith))
