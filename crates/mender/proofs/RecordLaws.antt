-- What the code reads and writes of a record: N, where it ends, and its words after mending. Assumes nothing.
use Rattle.std.proofs.Common.{◌≡◌, ℕ, zero, suc, ◌+◌, ◌-◌, ◌*◌, ◌<◌, ◌≤◌, Bool, List, [], ◌∷◌, ◌++◌, map, length, get_or, take, drop, set, sym, refl, ap, ◌∙◌, ap₂, arith, length-set, drop-drop, append-nil}
use Rattle.std.specs.Int.{w32, from_be_bytes}
use lib.Seq.{sets}
use Rattle.bits.specs.Bits.{bits, number}
use Rattle.bits.proofs.Numbers.{bits-number}
use Rattle.bits.proofs.Stores.{sets-append}
use Rattle.word.specs.Word.{data_of}
use Rattle.frame.specs.Header.{n_of}
use Rattle.journal.specs.Bytes.{bytes_of, word_in, written, words_from}
use Rattle.journal.specs.Forms.{mark, n_byte}
use Rattle.journal.proofs.ByteLaws.{length-bytes}
use Rattle.journal.proofs.TurnLaws.{read-word}
use Rattle.mender_words.specs.Words.{mended_by, mended_to}
use Rattle.mender_words.specs.declared.MendedWord.{MendedWord}
use Rattle.mender.specs.Records.{n_in, counted_by, second_of, count_of, record_for}

-- ---- N

pub data-long : (w : List Bool) → length (data_of w) ≡ 24
unfolding data_of
data-long w = refl

pub n-told : (v : ℕ) {d n : ℕ} → d ≡ number (data_of (bits 32 v)) → n ≡ n_of (bits 24 d) → n ≡ n_in v
n-told v ed en = en ∙ ap (λ x. n_of (bits 24 x)) ed ∙ ap n_of (bits-number 24 (data_of (bits 32 v)) (data-long (bits 32 v)))

pub count_by : (bs : List ℕ) {v : ℕ} → v ≡ second_of bs → {m : MendedWord} → mended_by v ≡ m → count_of bs ≡ counted_by v (n_byte bs) m
unfolding count_of
count_by bs {v} e {m} em = ap (λ x. counted_by x (n_byte bs) (mended_by x)) (sym e) ∙ ap (counted_by v (n_byte bs)) em

-- ---- words

-- four bytes, as the library reads them
pub read-four : (bs : List ℕ) (i : ℕ) {ys : List ℕ} → i + 4 ≤ length bs → ((j : ℕ) → get_or bs j 0 < 256)
    → ys ≡ take (i + 4 - i) (drop i bs) → from_be_bytes w32 ys ≡ word_in (take 4 (drop i bs))
read-four bs i {ys} h b e = ap (from_be_bytes w32) (sym (append-nil ys)) ∙ read-word 4 bs i (omega arith) h b e

-- words of kept bytes after mending
abbrev pub mended_words : ℕ → List ℕ → List ℕ
mended_words n bs = written 4 (map mended_to (words_from 4 n bs))

-- the first word, then those that are left
store-first : (l bs : List ℕ) (next left : ℕ) → 0 < left
    → sets l next (mended_words left (drop next bs))
    ≡ sets (sets l next (bytes_of 4 (mended_to (word_in (take 4 (drop next bs)))))) (next + 4) (mended_words (left - 1) (drop (next + 4) bs))
unfolding written words_from
store-first l bs next zero h = absurd (omega arith)
store-first l bs next (suc left) h =
    sets-append first (mended_words left (drop 4 (drop next bs))) l next
    ∙ ap₂ (λ i r. sets (sets l next first) (next + i) (mended_words left r)) (length-bytes 4 (mended_to (word_in (take 4 (drop next bs))))) (drop-drop 4 next bs)
    ∙ ap (λ m. sets (sets l next first) (next + 4) (mended_words m (drop (next + 4) bs))) same
  where
    first : List ℕ
    first = bytes_of 4 (mended_to (word_in (take 4 (drop next bs))))

    same : left ≡ suc left - 1
    same = omega arith

-- word i, then those that are left
pub store-mended : (l bs : List ℕ) (i n : ℕ) → i < n
    → sets l (3 + 4 * i) (mended_words (n - i) (drop (3 + 4 * i) bs))
    ≡ sets (sets l (3 + 4 * i) (bytes_of 4 (mended_to (word_in (take 4 (drop (3 + 4 * i) bs)))))) (3 + 4 * (i + 1)) (mended_words (n - (i + 1)) (drop (3 + 4 * (i + 1)) bs))
store-mended l bs i n h =
    store-first l bs (3 + 4 * i) (n - i) (omega arith)
    ∙ ap₂ (λ at k. sets (sets l (3 + 4 * i) (bytes_of 4 (mended_to (word_in (take 4 (drop (3 + 4 * i) bs)))))) at (mended_words k (drop at bs))) next fewer
  where
    next : 3 + 4 * i + 4 ≡ 3 + 4 * (i + 1)
    next = omega arith

    fewer : n - i - 1 ≡ n - (i + 1)
    fewer = omega arith

pub store-none : (l : List ℕ) (next : ℕ) (bs : List ℕ) → sets l next (mended_words zero bs) ≡ l
unfolding written words_from
store-none l next bs = refl

-- the mark and N, then the words
pub store-start : (l bs : List ℕ) (n : ℕ) → sets (sets l 0 (mark 0x34 ++ (n ∷ []))) 3 (mended_words (n + 2) (drop 3 bs)) ≡ sets l 0 (record_for n bs)
unfolding record_for
store-start l bs n =
    sym (sets-append (mark 0x34 ++ (n ∷ [])) (mended_words (n + 2) (drop 3 bs)) l 0)
    ∙ ap (λ m. sets l 0 (0x52 ∷ 0x34 ∷ n ∷ mended_words m (drop 3 bs))) two
  where
    two : n + 2 ≡ suc (suc n)
    two = omega arith

pub three-long : (l : List ℕ) (n : ℕ) → length (set (set (set l 0 82) 1 52) 2 n) ≡ length l
three-long l n = simp length-set
