-- What one turn of each loop stores or reads. Assumes nothing.
use mathlib.Core.Path.{◌≡◌, refl, sym, ap, ap₂, ◌∙◌}
use mathlib.Core.List.{List, [], ◌∷◌, ◌++◌, append-nil, append_assoc}
use Prim.Native.Nat.{ℕ, zero, suc, ◌+◌, ◌-◌, ◌*◌, ◌≤◌, ◌<◌}
use native.Mathlib.Numerals.{add-one}
use native.Mathlib.Omega.{arith}
use lib.ListN.{length, take, drop, get_or, set, replicate, length-drop, drop_of_length-le}
use lib.Seq.{take-suc, drop-cons, drop-drop, get_or-drop, length-take-le, set_at, append_snoc, sets, sets-eq}
use Rattle.std.proofs.lemmas.List.{drop-replicate}
use borrow.Rule.Slice.PartMut.{put_mid}
use Rattle.std.specs.Int.{w32, to_be_bytes, from_be_bytes}
use Rattle.bits.proofs.Stores.{sets-append}
use Rattle.journal.specs.Bytes.{bytes_of, word_in, written, words_from}
use Rattle.journal.specs.Forms.{mark, record_with}
use Rattle.journal.proofs.ByteLaws.{length-bytes, lowest-bytes, word-snoc, word-behind}
use Rattle.journal.proofs.WordLaws.{length-words, words_snoc}

-- ---- stores

-- a word's lowest bytes
pub store-lowest : (k : ℕ) (l : List ℕ) (i w : ℕ) {bs : List ℕ} → k ≤ 4 → i + k ≤ length l
    → bs ≡ take (4 - (4 - k)) (drop (4 - k) (to_be_bytes w32 w)) → put_mid i (i + k - i) l bs ≡ sets l i (bytes_of k w)
store-lowest k l i w {bs} few h e =
    ap (put_mid i (i + k - i) l) (e ∙ lowest-bytes k w few)
    ∙ ap (λ r. take i l ++ (bytes_of k w ++ r)) (drop-drop (i + k - i) i l ∙ ap (λ j. drop j l) past)
    ∙ sym (sets-eq (bytes_of k w) l i room ∙ append_assoc (take i l) (bytes_of k w) (drop (i + length (bytes_of k w)) l))
  where
    past : i + (i + k - i) ≡ i + length (bytes_of k w)
    past = omega (arith, length-bytes k w)

    room : i + length (bytes_of k w) ≤ length l
    room = omega (arith, length-bytes k w)

-- word i of a list, and those after it
pub word_next : (ws : List ℕ) (i : ℕ) → i < length ws → drop i ws ≡ get_or ws i 0 ∷ drop (i + 1) ws
word_next ws i h = drop-cons ws i 0 h ∙ rw (add-one i)

pub next_place : (k at i : ℕ) → at + k * i + k ≡ at + k * (i + 1)
next_place k at i = omega arith

-- the bytes of a word, and what comes behind them
pub store-next : (k : ℕ) (l rest : List ℕ) (i w : ℕ) → sets l i (bytes_of k w ++ rest) ≡ sets (sets l i (bytes_of k w)) (i + k) rest
store-next k l rest i w = sets-append (bytes_of k w) rest l i ∙ ap (λ j. sets (sets l i (bytes_of k w)) (i + j) rest) (length-bytes k w)

-- word i of a list at its place behind those before it
pub store_turn : (k : ℕ) (l ws : List ℕ) (at i : ℕ) {held : List ℕ} → i < length ws → held ≡ sets l (at + k * i) (bytes_of k (get_or ws i 0))
    → sets l (at + k * i) (written k (drop i ws)) ≡ sets held (at + k * (i + 1)) (written k (drop (i + 1) ws))
unfolding written
store_turn k l ws at i {held} h e =
    ap (λ r. sets l (at + k * i) (written k r)) (word_next ws i h) ∙ store-next k l (written k (drop (i + 1) ws)) (at + k * i) (get_or ws i 0)
    ∙ ap₂ (λ b j. sets b j (written k (drop (i + 1) ws))) (sym e) (next_place k at i)

-- a mark and N, copied to the front
pub store_start : (l : List ℕ) (form n : ℕ) {bs : List ℕ} → 3 ≤ length l → bs ≡ mark form ++ (n ∷ []) → bs ++ drop 3 l ≡ sets l 0 (mark form ++ (n ∷ []))
store_start l form n h e = ap (λ r. r ++ drop 3 l) e ∙ sym (sets-eq (mark form ++ (n ∷ [])) l 0 h)

-- a record: its mark and N, word 1, word 2 and the data words, each where the one before ends
pub store-record : (k : ℕ) (l : List ℕ) (form n first second : ℕ) (ws : List ℕ) {l₁ l₂ l₃ l₄ : List ℕ}
    → l₁ ≡ sets l 0 (mark form ++ (n ∷ [])) → l₂ ≡ sets l₁ 3 (bytes_of k first) → l₃ ≡ sets l₂ (3 + k) (bytes_of k second)
    → l₄ ≡ sets l₃ (3 + 2 * k) (written k ws) → l₄ ≡ sets l 0 (record_with form k n (first ∷ second ∷ ws))
unfolding written
store-record k l form n first second ws {l₁ = l₁} {l₂ = l₂} e₁ e₂ e₃ e₄ =
    e₄ ∙ ap₂ (λ m j. sets m j (written k ws)) e₃ two ∙ sym (store-next k l₂ (written k ws) (3 + k) second)
    ∙ ap (λ m. sets m (3 + k) (bytes_of k second ++ written k ws)) e₂ ∙ sym (store-next k l₁ (bytes_of k second ++ written k ws) 3 first)
    ∙ ap (λ m. sets m 3 (bytes_of k first ++ (bytes_of k second ++ written k ws))) e₁
  where
    two : 3 + 2 * k ≡ 3 + k + k
    two = omega arith

-- data words behind a record's mark, N and words 1 and 2
pub store-behind : (k : ℕ) (l : List ℕ) (form n first second : ℕ) (ws : List ℕ) {started held : List ℕ}
    → started ≡ sets l 0 (record_with form k n (first ∷ second ∷ [])) → held ≡ sets started (3 + 2 * k) (written k ws)
    → held ≡ sets l 0 (record_with form k n (first ∷ second ∷ ws))
unfolding written
store-behind k l form n first second ws e₁ e₂ =
    store-record k l form n first second ws refl refl refl
    (e₂ ∙ ap (λ m. sets m (3 + 2 * k) (written k ws)) (e₁ ∙ sym (store-record k l form n first second [] refl refl refl refl)))

-- ---- reads

-- part of bytes are bytes
part_bytes : (bs : List ℕ) (i k : ℕ) → ((j : ℕ) → get_or bs j 0 < 256) → (j : ℕ) → get_or (take k (drop i bs)) j 0 < 256
part_bytes bs i k b = front k (drop i bs) (λ j. rw (get_or-drop i bs j 0) (b (i + j)))
  where
    front : (k : ℕ) (ys : List ℕ) → ((j : ℕ) → get_or ys j 0 < 256) → (j : ℕ) → get_or (take k ys) j 0 < 256
    front zero ys b j = omega arith
    front (suc k) [] b j = omega arith
    front (suc k) (y ∷ ys) b zero = b 0
    front (suc k) (y ∷ ys) b (suc j) = front k ys (λ m. b (suc m)) j

-- a word of up to four bytes
pub read-word : (k : ℕ) (bs : List ℕ) (i : ℕ) {ys : List ℕ} → k ≤ 4 → i + k ≤ length bs → ((j : ℕ) → get_or bs j 0 < 256)
    → ys ≡ take (i + k - i) (drop i bs) → from_be_bytes w32 (put_mid (4 - k) (4 - (4 - k)) (replicate 4 0) ys) ≡ word_in (take k (drop i bs))
read-word k bs i {ys} few h b e =
    ap₂ (λ j zs. from_be_bytes w32 (put_mid (4 - j) (4 - (4 - j)) (replicate 4 0) zs)) (sym long) (e ∙ ap (λ j. take j (drop i bs)) past)
    ∙ word-behind (take k (drop i bs)) (part_bytes bs i k b) (omega (arith, long))
  where
    past : i + k - i ≡ k
    past = omega arith

    long : length (take k (drop i bs)) ≡ k
    long = length-take-le k (drop i bs) (omega (arith, length-drop i bs))

-- the next byte of a word
pub word_more : (bs : List ℕ) (from i : ℕ) → from + i < length bs → get_or bs (from + i) 0 < 256
    → word_in (take i (drop from bs)) * 256 + get_or bs (from + i) 0 ≡ word_in (take (i + 1) (drop from bs))
word_more bs from i h b =
    sym (ap word_in last ∙ word-snoc (take i (drop from bs)) (get_or bs (from + i) 0) b)
  where
    inside : i < length (drop from bs)
    inside = omega (arith, length-drop from bs)

    last : take (i + 1) (drop from bs) ≡ take i (drop from bs) ++ (get_or bs (from + i) 0 ∷ [])
    last = rw (add-one i, sym (get_or-drop from bs i 0)) (take-suc (drop from bs) i 0 inside)

-- the next number of an array that is 0 from there on
pub filled : (ws : List ℕ) (m i v : ℕ) → length ws ≡ i → i < m → set (ws ++ replicate (m - i) 0) i v ≡ (ws ++ (v ∷ [])) ++ replicate (m - (i + 1)) 0
filled ws m i v l h =
    ap (λ j. set (ws ++ replicate j 0) i v) lower ∙ set_at ws 0 (replicate (m - (i + 1)) 0) v i l ∙ sym (append_snoc ws v (replicate (m - (i + 1)) 0))
  where
    lower : m - i ≡ suc (m - (i + 1))
    lower = omega arith

-- the next word of such an array
pub word-filled : (k m i : ℕ) (bs : List ℕ) → i < m
    → set (words_from k i bs ++ replicate (m - i) 0) i (word_in (take k (drop (k * i) bs))) ≡ words_from k (i + 1) bs ++ replicate (m - (i + 1)) 0
word-filled k m i bs h =
    filled (words_from k i bs) m i (word_in (take k (drop (k * i) bs))) (length-words k i bs) h
    ∙ ap (λ ws. ws ++ replicate (m - (i + 1)) 0) (sym (words_snoc k i bs) ∙ ap (λ j. words_from k j bs) (sym (add-one i)))

-- word i read into its place, from where it stands behind those before it
pub read_turn : (k at i : ℕ) (bs old words : List ℕ) {w : ℕ} → i < length old → words ≡ words_from k i (drop at bs) ++ drop i old
    → w ≡ word_in (take k (drop (at + k * i) bs)) → set words i w ≡ words_from k (i + 1) (drop at bs) ++ drop (i + 1) old
read_turn k at i bs old words {w} h e v =
    let from = drop at bs in
    let front = words_from k i from in
    let later = drop (i + 1) old in
    ap (λ l. set l i w) (e ∙ ap (λ r. front ++ r) (word_next old i h)) ∙ set_at front (get_or old i 0) later w i (length-words k i from)
    ∙ sym (append_snoc front w later)
    ∙ ap (λ ws. ws ++ later)
    (ap (λ w. front ++ (w ∷ [])) (v ∙ ap (λ r. word_in (take k r)) (sym (drop-drop (k * i) at bs)))
    ∙ sym (words_snoc k i from) ∙ ap (λ j. words_from k j from) (sym (add-one i)))

pub read_all : (k i : ℕ) (bs old words : List ℕ) → i ≡ length old → words ≡ words_from k i bs ++ drop i old → words ≡ words_from k (length old) bs
read_all k i bs old words all e =
    e ∙ ap₂ (λ j r. words_from k j bs ++ r) all (drop_of_length-le old {i = i} (omega (arith, all))) ∙ append-nil (words_from k (length old) bs)

-- the first n places of an array of zeros, read
pub words-read : (k n : ℕ) (bs : List ℕ) {words : List ℕ} → n ≤ 31 → words ≡ words_from k (length (take {A = ℕ} n (replicate 31 0))) bs
    → words ++ drop {A = ℕ} n (replicate 31 0) ≡ words_from k n bs ++ replicate (31 - n) 0
words-read k n bs few e = ap₂ ◌++◌ (e ∙ ap (λ m. words_from k m bs) (length-take-le n (replicate 31 0) few)) (drop-replicate n 31 0)
