-- Rows: the bytes that are stored before the words, the words three bytes each, and both together the row of a frame. Assumes nothing.
use Rattle.std.proofs.Common.{◌≡◌, ℕ, suc, ◌+◌, ◌-◌, ◌/◌, ◌%◌, ◌<◌, ◌≤◌, Bool, List, [], ◌∷◌, ◌++◌, length, take, drop, set, sym, refl, ap, ◌∙◌, ap₂, append_assoc, drop-drop, div-one, add-one, arith}
use borrow.Rule.Slice.PartMut.{put_mid}
use lib.Seq.{sets, sets-eq}
use Rattle.bits.specs.Bits.{number}
use Rattle.bits.proofs.Stores.{sets-append}
use Rattle.word.specs.Word.{data_of}
use Rattle.frame.specs.Frames.{after_pair, words_of}
use Rattle.frame.specs.declared.Carried.{Carried}
use Rattle.frame.specs.declared.Frame.{Frame}
use Rattle.stream.specs.Standing.{word_at, n_at, size, Stands, data_from, pair_before, frame_at}
use Rattle.stream.proofs.Words.{frame-n}
use Rattle.stream.proofs.Data.{words-standing}
use Rattle.journal.specs.Bytes.{bytes_of, written}
use Rattle.journal.specs.Journal.{record_of}
use Rattle.journal.proofs.ByteLaws.{bytes-none, bytes-first}
use Rattle.journal.proofs.TurnLaws.{store-next}
use Rattle.reader.specs.Rows.{row_of}

-- ---- the words

-- three bytes of a word
bytes-three : (w : ℕ) → bytes_of 3 w ≡ w / 65536 % 256 ∷ w / 256 % 256 ∷ w % 256 ∷ []
bytes-three w =
    bytes-first 2 w
    ∙ ap (λ bs. w / 65536 % 256 ∷ bs) (bytes-first 1 w ∙ ap (λ bs. w / 256 % 256 ∷ bs)
    (bytes-first 0 w ∙ ap₂ (λ b bs. b % 256 ∷ bs) (div-one w) (bytes-none w)))

store-three : (l : List ℕ) (i w : ℕ)
    → set (set (set l i (w / 65536 % 256)) (i + 1) (w / 256 % 256)) (i + 2) (w % 256) ≡ sets l i (bytes_of 3 w)
store-three l i w = rw (one, two) (sym (ap (sets l i) (bytes-three w)))
  where
    one : i + 1 ≡ suc i
    one = omega arith

    two : i + 2 ≡ suc (suc i)
    two = omega arith

-- the data of n words from word k on
pub data-none : (n k : ℕ) (d : List Bool) → n ≤ k → written 3 (data_from (n - k) k d) ≡ []
unfolding data_from written
data-none n k d h = ap (λ m. written 3 (data_from m k d)) none
  where
    none : n - k ≡ 0
    none = omega arith

data-next : (n k : ℕ) (d : List Bool) → k < n → data_from (n - k) k d ≡ number (data_of (word_at k d)) ∷ data_from (n - (k + 1)) (k + 1) d
unfolding data_from
data-next n k d h =
    ap (λ m. data_from m k d) less ∙ ap (λ i. number (data_of (word_at k d)) ∷ data_from (n - (k + 1)) i d) (sym (add-one k))
  where
    less : n - k ≡ suc (n - (k + 1))
    less = omega arith

-- storing them is storing word k, then those behind it
pub store-data : (l : List ℕ) (i n k w next : ℕ) (d : List Bool) → k < n → next ≡ i + 3 → w ≡ number (data_of (word_at k d))
    → sets l i (written 3 (data_from (n - k) k d))
    ≡ sets (set (set (set l i (w / 65536 % 256)) (i + 1) (w / 256 % 256)) (i + 2) (w % 256)) next (written 3 (data_from (n - (k + 1)) (k + 1) d))
unfolding written
store-data l i n k w next d h en e =
    ap (λ ws. sets l i (written 3 ws)) (data-next n k d h ∙ ap (λ v. v ∷ data_from (n - (k + 1)) (k + 1) d) (sym e))
    ∙ store-next 3 l (written 3 (data_from (n - (k + 1)) (k + 1) d)) i w
    ∙ ap (λ m. sets m (i + 3) (written 3 (data_from (n - (k + 1)) (k + 1) d))) (sym (store-three l i w))
    ∙ ap (λ p. sets (set (set (set l i (w / 65536 % 256)) (i + 1) (w / 256 % 256)) (i + 2) (w % 256)) p (written 3 (data_from (n - (k + 1)) (k + 1) d))) (sym en)

-- ---- what stands before them

abbrev pub head_of : ℕ → Carried → ℕ → List ℕ
head_of at c n = at % 256 ∷ at / 256 % 256 ∷ at / 65536 % 256 ∷ at / 16777216 % 256 ∷ c.d29 ∷ c.d30 ∷ 0x52 ∷ 0x32 ∷ n ∷ []

-- bytes copied to a part are stored one after the other
pub put-sets : (l : List ℕ) (i k : ℕ) (vs : List ℕ) → k ≡ length vs → i + length vs ≤ length l → put_mid i k l vs ≡ sets l i vs
put-sets l i k vs e h = rw (e, drop-drop (length vs) i l) (sym (sets-eq vs l i h ∙ append_assoc (take i l) vs (drop (i + length vs) l)))

-- ---- the row

row_is : (at : ℕ) (f : Frame) → row_of at f ≡ head_of at f.carried f.n ++ written 3 (words_of f)
unfolding row_of record_of
row_is at f = refl

pair_is : (d : List Bool) → (frame_at d).carried ≡ pair_before d
unfolding frame_at after_pair
pair_is d = refl

-- of the frame that stands
row-standing : (at n : ℕ) (c : Carried) (d : List Bool) → Stands d → c ≡ pair_before d → n ≡ n_at d
    → row_of at (frame_at d) ≡ head_of at c n ++ written 3 (data_from (n + 2) 0 d)
row-standing at n c d s ec en =
    row_is at (frame_at d)
    ∙ ap (λ x. head_of at x (frame_at d).n ++ written 3 (words_of (frame_at d))) (pair_is d ∙ sym ec)
    ∙ ap₂ (λ m ws. head_of at c m ++ written 3 ws) (frame-n d ∙ sym en) (words-standing d s ∙ ap (λ m. data_from m 0 d) all)
  where
    all : size d ≡ n + 2
    all = omega (arith, en)

-- stored in two parts
pub store-row : (l : List ℕ) (i at n : ℕ) (c : Carried) (d : List Bool) → Stands d → c ≡ pair_before d → n ≡ n_at d
    → sets (sets l i (head_of at c n)) (i + 9) (written 3 (data_from (n + 2) 0 d)) ≡ sets l i (row_of at (frame_at d))
store-row l i at n c d s ec en =
    sym (ap (sets l i) (row-standing at n c d s ec en) ∙ sets-append (head_of at c n) (written 3 (data_from (n + 2) 0 d)) l i)
