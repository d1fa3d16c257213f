-- Words as they are kept with their carried bits: what one is, what each turn of a loop stores or finds, and that keeping and reading are inverse.
-- Assumes nothing.
use mathlib.Core.Path.{◌≡◌, refl, sym, ap, ap₂, ◌∙◌}
use mathlib.Core.Bool.{true, false}
use mathlib.Core.List.{List, [], ◌∷◌, ◌++◌, map, append-nil}
use Prim.Native.Nat.{ℕ, zero, suc, ◌+◌, ◌-◌, ◌*◌, ◌/◌, ◌%◌, ◌^◌, ◌≤◌, ◌<◌}
use native.Mathlib.Nat.{mod-eq_of_lt}
use native.Mathlib.Omega.{arith}
use lib.Dec.{eqb}
use lib.ListN.{length, take, drop, get_or, set, replicate, drop_of_length-le}
use lib.Seq.{append_snoc, take_all, length-take-le, drop-drop, set_at, sets}
use Rattle.std.proofs.lemmas.List.{take_more, get_or_at}
use borrow.Author.Tests.{eqb-true, not-false, eq-eqb, ne_eqb}
use Rattle.std.specs.Prelude.{Ok}
use Rattle.bits.specs.Bits.{bits, number}
use Rattle.bits.specs.Fields.{Fit}
use Rattle.bits.proofs.Numbers.{length-bits, number-bits, number_lt, bits-number, bits-append, bits-split}
use Rattle.word.specs.Word.{d29*, d30*, data_of, passes, sent}
use Rattle.word.specs.Answer.{sent_at, word_of}
use Rattle.word.proofs.Computes.{word-answers}
use Rattle.word.proofs.Sending.{length-sent, data-number, data-sent, passes-sent, only-sent}
use Rattle.frame.specs.Frames.{Below}
use Rattle.frame.proofs.WidthLaws.{both_false}
use Rattle.journal.specs.Bytes.{bytes_of, word_in, written, words_from}
use Rattle.journal.specs.Words.{window_of, windows_from, data_in, broken_after}
use Rattle.journal.proofs.TurnLaws.{word_next, next_place, store-next}

-- ---- one word

pub sent-lt : (c w : ℕ) → number (sent_at c w) < 2 ^ 30
sent-lt c w = rw (length-sent (d29* (bits 2 c)) (d30* (bits 2 c)) (bits 24 w)) at (number_lt (sent_at c w))

pub window-lt : (c w : ℕ) → c < 4 → window_of c w < 2 ^ 32
unfolding window_of
window-lt c w h = omega (arith, sent-lt c w)

-- the bits before it
pub window-first : (c w : ℕ) → window_of c w / 2 ^ 30 ≡ c
unfolding window_of
window-first c w = omega (arith, sent-lt c w)

two-bits : (c : ℕ) → bits 2 c ≡ d29* (bits 2 c) ∷ d30* (bits 2 c) ∷ []
unfolding bits
two-bits c = refl

pub window-bits : (c w : ℕ) → bits 32 (window_of c w) ≡ d29* (bits 2 c) ∷ d30* (bits 2 c) ∷ sent_at c w
unfolding window_of
window-bits c w =
    bits-append 2 30 c (number (sent_at c w)) (sent-lt c w)
    ∙ ap₂ ◌++◌ (two-bits c) (bits-number 30 (sent_at c w) (length-sent (d29* (bits 2 c)) (d30* (bits 2 c)) (bits 24 w)))

-- it passes, and its data is the word
pub window-passes : (c w : ℕ) → passes (bits 32 (window_of c w)) ≡ true
window-passes c w = ap passes (window-bits c w) ∙ passes-sent (d29* (bits 2 c)) (d30* (bits 2 c)) (bits 24 w) (length-bits 24 w)

pub window-data : (c w : ℕ) → w < 2 ^ 24 → number (data_of (bits 32 (window_of c w))) ≡ w
window-data c w h =
    ap (λ l. number (data_of l)) (window-bits c w) ∙ ap number (data-sent (d29* (bits 2 c)) (d30* (bits 2 c)) (bits 24 w) (length-bits 24 w))
    ∙ number-bits 24 w ∙ mod-eq_of_lt h

-- the thirty bits that the encoder answers
pub sent-told : (c w n : ℕ) → c < 4 → w < 2 ^ 24 → word_of c w ≡ Ok n → n ≡ number (sent_at c w)
sent-told c w n hc hw e = let answered = word-answers c w hc hw in cc (answered, e)

-- what passes is its data sent after its own carried bits
pub window-again : (v : ℕ) → v < 2 ^ 32 → passes (bits 32 v) ≡ true → window_of (v / 2 ^ 30) (number (data_of (bits 32 v))) ≡ v
window-again v h p =
    sym (mod-eq_of_lt (window-lt (v / 2 ^ 30) d (omega arith))) ∙ sym (number-bits 32 (window_of (v / 2 ^ 30) d))
    ∙ ap number (same ∙ sym (only-sent (bits 32 v) (length-bits 32 v) p))
    ∙ number-bits 32 v ∙ mod-eq_of_lt h
  where
    d : ℕ
    d = number (data_of (bits 32 v))

    front : bits 32 v ≡ bits 2 (v / 2 ^ 30) ++ bits 30 v
    front = bits-split 2 30 v

    one : d29* (bits 2 (v / 2 ^ 30)) ≡ d29* (bits 32 v)
    one = sym (ap d29* (front ∙ ap (λ l. l ++ bits 30 v) (two-bits (v / 2 ^ 30))))

    two : d30* (bits 2 (v / 2 ^ 30)) ≡ d30* (bits 32 v)
    two = sym (ap d30* (front ∙ ap (λ l. l ++ bits 30 v) (two-bits (v / 2 ^ 30))))

    same : bits 32 (window_of (v / 2 ^ 30) d) ≡ d29* (bits 32 v) ∷ d30* (bits 32 v) ∷ sent (d29* (bits 32 v)) (d30* (bits 32 v)) (data_of (bits 32 v))
    same = window-bits (v / 2 ^ 30) d ∙ ap₂ (λ a b. a ∷ b ∷ sent a b (bits 24 d)) one two
        ∙ ap (λ ds. d29* (bits 32 v) ∷ d30* (bits 32 v) ∷ sent (d29* (bits 32 v)) (d30* (bits 32 v)) ds) (data-number (bits 32 v))

-- ---- what one turn stores, finds or reads

-- the next word as it is kept, after the bits c, behind those before it
pub store-window : (l ws : List ℕ) (c at i : ℕ) {v k : ℕ} {held : List ℕ} → i < length ws → v ≡ window_of c (get_or ws i 0)
    → held ≡ sets l (at + 4 * i) (bytes_of 4 v) → k ≡ window_of c (get_or ws i 0) % 4
    → sets l (at + 4 * i) (written 4 (windows_from c (drop i ws))) ≡ sets held (at + 4 * (i + 1)) (written 4 (windows_from k (drop (i + 1) ws)))
unfolding written windows_from
store-window l ws c at i {v} {k} h ev e ek =
    let later = drop (i + 1) ws in
    ap (λ r. sets l (at + 4 * i) (written 4 (windows_from c r))) (word_next ws i h)
    ∙ ap₂ (λ w p. sets l (at + 4 * i) (bytes_of 4 w ++ written 4 (windows_from p later))) (sym ev) (sym ek)
    ∙ store-next 4 l (written 4 (windows_from k later)) (at + 4 * i) v
    ∙ ap₂ (λ b j. sets b j (written 4 (windows_from k later))) (sym e) (next_place 4 at i)

-- the next of the kept words that are left
pub left-first : (n i : ℕ) (bs : List ℕ) → i < n
    → words_from 4 (n - i) (drop (3 + 4 * i) bs) ≡ word_in (take 4 (drop (3 + 4 * i) bs)) ∷ words_from 4 (n - (i + 1)) (drop (3 + 4 * (i + 1)) bs)
unfolding words_from
left-first n i bs h =
    ap (λ j. words_from 4 j (drop (3 + 4 * i) bs)) lower
    ∙ ap (λ r. word_in (take 4 (drop (3 + 4 * i) bs)) ∷ words_from 4 (n - (i + 1)) r) (drop-drop 4 (3 + 4 * i) bs ∙ ap (λ j. drop j bs) (next_place 4 3 i))
  where
    lower : n - i ≡ suc (n - (i + 1))
    lower = omega arith

module _ (c v : ℕ) (vs : List ℕ) where
  pub pair-differs : (v / 2 ^ 30 ≡ c → ⊥) → broken_after c (v ∷ vs) ≡ true
  unfolding broken_after
  pair-differs h = rw (ne_eqb (v / 2 ^ 30) c h)

  module _ (h : v / 2 ^ 30 ≡ c) where
    pub word-fails : passes (bits 32 v) ≡ false → broken_after c (v ∷ vs) ≡ true
    unfolding broken_after
    word-fails p = rw (eq-eqb (v / 2 ^ 30) c h, p)

    pub word_sound : passes (bits 32 v) ≡ true → broken_after c (v ∷ vs) ≡ broken_after (v % 4) vs
    unfolding broken_after
    word_sound p = rw (eq-eqb (v / 2 ^ 30) c h, p)

map_snoc : (f : ℕ → ℕ) (a : List ℕ) (x : ℕ) → map f (a ++ (x ∷ [])) ≡ map f a ++ (f x ∷ [])
map_snoc f [] x = refl
map_snoc f (y ∷ a) x = ap (λ l. f y ∷ l) (map_snoc f a x)

length-map : (f : ℕ → ℕ) (a : List ℕ) → length (map f a) ≡ length a
length-map f [] = refl
length-map f (x ∷ a) = ap suc (length-map f a)

pub length-data : (vs : List ℕ) → length (data_in vs) ≡ length vs
length-data vs = length-map (λ v. number (data_of (bits 32 v))) vs

-- the next of some words turned into its data in its place
pub data_turn : (ws held : List ℕ) (i : ℕ) {w : ℕ} → i < length ws → held ≡ data_in (take i ws) ++ drop i ws
    → w ≡ number (data_of (bits 32 (get_or held i 0))) → set held i w ≡ data_in (take (i + 1) ws) ++ drop (i + 1) ws
data_turn ws held i {w} h e ew =
    ap (λ l. set l i w) split ∙ set_at front (get_or ws i 0) later w i long ∙ sym (append_snoc front w later)
    ∙ ap (λ l. l ++ later) (ap (λ x. front ++ (x ∷ [])) same
    ∙ sym (map_snoc (λ v. number (data_of (bits 32 v))) (take i ws) (get_or ws i 0)) ∙ ap data_in (sym (take_more ws i 0 h)))
  where
    front : List ℕ
    front = data_in (take i ws)

    later : List ℕ
    later = drop (i + 1) ws

    long : length (data_in (take i ws)) ≡ i
    long = length-data (take i ws) ∙ length-take-le i ws (omega arith)

    split : held ≡ data_in (take i ws) ++ (get_or ws i 0 ∷ drop (i + 1) ws)
    split = e ∙ ap (λ r. data_in (take i ws) ++ r) (word_next ws i h)

    same : w ≡ number (data_of (bits 32 (get_or ws i 0)))
    same = ew ∙ ap (λ v. number (data_of (bits 32 v))) (ap (λ l. get_or l i 0) split ∙ get_or_at (data_in (take i ws)) (get_or ws i 0) (drop (i + 1) ws) 0 i long)

pub data_all : (ws held : List ℕ) (i : ℕ) → length ws ≤ i → held ≡ data_in (take i ws) ++ drop i ws → held ≡ data_in ws
data_all ws held i h e = e ∙ ap₂ (λ a b. data_in a ++ b) (take_all i ws h) (drop_of_length-le ws {i = i} h) ∙ append-nil (data_in ws)

-- ---- words and what is kept of them are inverse

pub length-windows : (c : ℕ) (ws : List ℕ) → length (windows_from c ws) ≡ length ws
unfolding windows_from
length-windows c [] = refl
length-windows c (w ∷ ws) = ap suc (length-windows (window_of c w % 4) ws)

pub windows-fit : (c : ℕ) (ws : List ℕ) → c < 4 → Fit (replicate (length (windows_from c ws)) 32) (windows_from c ws)
unfolding windows_from
windows-fit c [] h = tt
windows-fit c (w ∷ ws) h = (window-lt c w h, windows-fit (window_of c w % 4) ws (omega arith))

pub windows-data : (c : ℕ) (ws : List ℕ) → Below ws → data_in (windows_from c ws) ≡ ws
unfolding windows_from
windows-data c [] b = refl
windows-data c (w ∷ ws) b = ap₂ ◌∷◌ (window-data c w b.0) (windows-data (window_of c w % 4) ws b.1)

pub windows-sound : (c : ℕ) (ws : List ℕ) → broken_after c (windows_from c ws) ≡ false
unfolding windows_from
windows-sound c [] = unfold broken_after in refl
windows-sound c (w ∷ ws) =
    word_sound c (window_of c w) (windows_from (window_of c w % 4) ws) (window-first c w) (window-passes c w) ∙ windows-sound (window_of c w % 4) ws

-- what is not broken is its data sent again
pub windows-again : (n c : ℕ) (vs : List ℕ) → Fit (replicate n 32) vs → broken_after c vs ≡ false → windows_from c (data_in vs) ≡ vs
unfolding windows_from broken_after
windows-again n c [] f e = refl
windows-again zero c (v ∷ vs) f e = absurd f
windows-again (suc n) c (v ∷ vs) f e =
    let a = both_false _ _ e in
    let b = both_false _ _ a.1 in
    let pair = eqb-true (v / 2 ^ 30) c (not-false (eqb (v / 2 ^ 30) c) a.0) in
    let same = ap (λ k. window_of k (number (data_of (bits 32 v)))) (sym pair) ∙ window-again v f.0 (not-false (passes (bits 32 v)) b.0) in
    ap₂ ◌∷◌ same (ap (λ k. windows_from (k % 4) (data_in vs)) same ∙ windows-again n (v % 4) vs f.1 b.1)
