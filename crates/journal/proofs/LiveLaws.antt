-- The record that keeps the words: the record of a frame within its widths, and the frame of a record by its words as they are read. Assumes nothing.
use mathlib.Core.Path.{◌≡◌, sym, ap, ap₂, subst, ◌∙◌}
use mathlib.Core.Bool.{true, false}
use mathlib.Core.List.{List, ◌∷◌, ◌++◌}
use Prim.Native.Nat.{ℕ, suc, ◌+◌, ◌-◌, ◌*◌, ◌/◌, ◌%◌, ◌^◌, ◌≤◌, ◌<◌}
use native.Mathlib.Omega.{arith}
use lib.ListN.{length, take, drop, replicate}
use lib.Seq.{take_at, drop_at}
use borrow.Author.Tests.{ltb-false, eq-eqb, ne_eqb}
use Rattle.bits.specs.Bits.{bits, number}
use Rattle.word.specs.Word.{data_of}
use Rattle.frame.specs.Header.{n_of, preambled, header_of}
use Rattle.frame.specs.Frames.{Below, after_pair, words_of, frame_of}
use Rattle.frame.specs.Widths.{pair_outside, outside}
use Rattle.frame.specs.Answer.{header_words}
use Rattle.frame.specs.declared.Carried.{Carried}
use Rattle.frame.specs.declared.Frame.{Frame}
use Rattle.std.specs.Prelude.{Ok}
use Rattle.frame.proofs.WidthLaws.{both_false}
use Rattle.frame.proofs.FrameLaws.{below-words, pair-within}
use Rattle.journal.specs.Bytes.{word_in, words_from}
use Rattle.journal.specs.Forms.{record_with}
use Rattle.journal.specs.Journal.{refused_recall}
use Rattle.journal.specs.declared.Found.TheVariants.{Record}
use Rattle.journal.specs.Words.{pair_number, pair_numbered, window_of, windows_from, words_record, data_in, broken_after, live_in}
use Rattle.journal.proofs.FormLaws.{length-with}
use Rattle.journal.proofs.KeepLaws.{words-told, count-words}
use Rattle.journal.proofs.DataLaws.{words-at, frame_is}
use Rattle.journal.proofs.WindowLaws.{length-windows, length-data}
use Rattle.journal.proofs.WordLaws.{length-words}

-- ---- carried bits

pub record TwoBits (k : Carried) : Type 0 where
  pub high : k.d29 ≤ 1
  pub low : k.d30 ≤ 1

pub two-bits : (k : Carried) → pair_outside k ≡ false → TwoBits k
unfolding pair_outside
two-bits k e = let p = both_false _ _ e in record { high = ltb-false 1 k.d29 p.0; low = ltb-false 1 k.d30 p.1 }

pub number-lt-four : (f : Frame) → outside f ≡ false → pair_number f.carried < 4
number-lt-four f e = let t = two-bits f.carried (pair-within f e) in omega (arith, t.high, t.low)

-- ---- the record of a frame within its widths

module _ (f : Frame) (e : outside f ≡ false) where
  pub told_below : {first second : ℕ} → header_words f.header f.n ≡ Ok (first, second) → Below (first ∷ second ∷ take f.n f.words)
  told_below h = subst Below (sym (words-told f e h)) (below-words f e)

  pub live_written : {first second : ℕ} → header_words f.header f.n ≡ Ok (first, second)
      → record_with 0x34 4 f.n (windows_from (pair_number f.carried) (first ∷ second ∷ take f.n f.words)) ≡ words_record f
  unfolding words_record
  live_written h = ap (λ ws. record_with 0x34 4 f.n (windows_from (pair_number f.carried) ws)) (words-told f e h)

  module _ (full : length f.words ≡ 31) where
    pub count-windows : length (windows_from (pair_number f.carried) (words_of f)) ≡ suc (suc f.n)
    count-windows = length-windows (pair_number f.carried) (words_of f) ∙ count-words f e full

    pub length-live : length (words_record f) ≡ 4 * f.n + 11
    unfolding words_record
    length-live = length-with 0x34 4 f.n (windows_from (pair_number f.carried) (words_of f)) count-windows

-- words 1 and 2 and the data words, each sent after what the one before carried on
pub live_words : (c first second : ℕ) (ws : List ℕ) {v u : ℕ} {vs : List ℕ} → v ≡ window_of c first → u ≡ window_of (v % 4) second
    → vs ≡ windows_from (u % 4) ws → v ∷ u ∷ vs ≡ windows_from c (first ∷ second ∷ ws)
unfolding windows_from
live_words c first second ws {v} {u} ev eu e =
    ap (λ l. v ∷ u ∷ l) e ∙ ap (λ w. v ∷ w ∷ windows_from (w % 4) ws) eu
    ∙ ap (λ w. w ∷ window_of (w % 4) second ∷ windows_from (window_of (w % 4) second % 4) ws) ev

-- the frame of word 1, word 2 and N data words, after a pair
live-frame : (k : Carried) (n first second : ℕ) (ws : List ℕ) → length ws ≡ n
    → record { header = header_of (bits 24 first) (bits 24 second); carried = k; n = n; words = ws ++ replicate (31 - n) 0 }
    ≡ after_pair k (frame_of (first ∷ second ∷ ws))
unfolding after_pair
live-frame k n first second ws l = ap (after_pair k) (frame_is n first second ws l)

-- the data words of an array, turned into their data
pub live-data-array : (n : ℕ) (vs : List ℕ) {array held : List ℕ} → length vs ≡ n → array ≡ vs ++ replicate (31 - n) 0
    → held ≡ data_in (take n array) → held ++ drop n array ≡ data_in vs ++ replicate (31 - n) 0
live-data-array n vs l e h =
    ap₂ ◌++◌ (h ∙ ap data_in (ap (take n) e ∙ take_at vs (replicate (31 - n) 0) n l)) (ap (drop n) e ∙ drop_at vs (replicate (31 - n) 0) n l)

-- ---- the frame of a record, by words 1 and 2 as they are read, v and u, and their data

module _ (n : ℕ) (bs : List ℕ) {v u first second : ℕ} (ev : v ≡ word_in (take 4 (drop 3 bs))) (eu : u ≡ word_in (take 4 (drop 7 bs)))
    (e₁ : first ≡ number (data_of (bits 32 v))) (e₂ : second ≡ number (data_of (bits 32 u))) where
  read : words_from 4 (suc (suc n)) (drop 3 bs) ≡ v ∷ u ∷ words_from 4 n (drop 11 bs)
  read = words-at 4 n bs ∙ sym (ap₂ (λ a b. a ∷ b ∷ words_from 4 n (drop 11 bs)) ev eu)

  live_at : live_in n (words_from 4 (suc (suc n)) (drop 3 bs)) ≡ live_in n (v ∷ u ∷ words_from 4 n (drop 11 bs))
  live_at = ap (live_in n) read

  both : broken_after (v / 2 ^ 30) (words_from 4 (n + 2) (drop 3 bs)) ≡ broken_after (v / 2 ^ 30) (v ∷ u ∷ words_from 4 n (drop 11 bs))
  both = ap (broken_after (v / 2 ^ 30)) (ap (λ m. words_from 4 m (drop 3 bs)) more ∙ read)
    where
      more : n + 2 ≡ suc (suc n)
      more = omega arith

  pub live-unequal : (n ≡ n_of (bits 24 second) → ⊥) → live_in n (words_from 4 (suc (suc n)) (drop 3 bs)) ≡ refused_recall 16
  live-unequal h = live_at ∙ rw (ne_eqb n (n_of (bits 24 (number (data_of (bits 32 u))))) (λ s. h (s ∙ ap (λ d. n_of (bits 24 d)) (sym e₂))))

  module _ (h : n ≡ n_of (bits 24 second)) where
    same-n : n ≡ n_of (bits 24 (number (data_of (bits 32 u))))
    same-n = h ∙ ap (λ d. n_of (bits 24 d)) e₂

    pub live-preamble : preambled (bits 24 first) ≡ false → live_in n (words_from 4 (suc (suc n)) (drop 3 bs)) ≡ refused_recall 16
    live-preamble p = live_at ∙ rw (eq-eqb n (n_of (bits 24 (number (data_of (bits 32 u))))) same-n, ap (λ d. preambled (bits 24 d)) (sym e₁) ∙ p)

    module _ (p : preambled (bits 24 first) ≡ true) where
      pub live-broken : broken_after (v / 2 ^ 30) (words_from 4 (n + 2) (drop 3 bs)) ≡ true → live_in n (words_from 4 (suc (suc n)) (drop 3 bs)) ≡ refused_recall 17
      live-broken b =
          live_at
          ∙ rw (eq-eqb n (n_of (bits 24 (number (data_of (bits 32 u))))) same-n, ap (λ d. preambled (bits 24 d)) (sym e₁) ∙ p, sym both ∙ b)

      pub live-found : broken_after (v / 2 ^ 30) (words_from 4 (n + 2) (drop 3 bs)) ≡ false
          → record {
            answer = Record (4 * n + 11);
            frame = record {
              header = header_of (bits 24 first) (bits 24 second);
              carried = pair_numbered (v / 2 ^ 30);
              n = n;
              words = data_in (words_from 4 n (drop 11 bs)) ++ replicate (31 - n) 0;
            };
          } ≡ live_in n (words_from 4 (suc (suc n)) (drop 3 bs))
      live-found b =
          ap (λ f. record { answer = Record (4 * n + 11); frame = f }) frame
          ∙ sym (live_at ∙ rw (eq-eqb n (n_of (bits 24 (number (data_of (bits 32 u))))) same-n, ap (λ d. preambled (bits 24 d)) (sym e₁) ∙ p, sym both ∙ b))
        where
          frame : record {
            header = header_of (bits 24 first) (bits 24 second);
            carried = pair_numbered (v / 2 ^ 30);
            n = n;
            words = data_in (words_from 4 n (drop 11 bs)) ++ replicate (31 - n) 0;
          } ≡ after_pair (pair_numbered (v / 2 ^ 30)) (frame_of (data_in (v ∷ u ∷ words_from 4 n (drop 11 bs))))
          frame =
              live-frame (pair_numbered (v / 2 ^ 30)) n first second (data_in (words_from 4 n (drop 11 bs)))
              (length-data (words_from 4 n (drop 11 bs)) ∙ length-words 4 n (drop 11 bs))
              ∙ ap₂ (λ a b. after_pair (pair_numbered (v / 2 ^ 30)) (frame_of (a ∷ b ∷ data_in (words_from 4 n (drop 11 bs))))) e₁ e₂
