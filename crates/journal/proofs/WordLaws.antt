-- Words and the bytes that they are kept as are inverse, each law over the bytes a word. Assumes nothing.
use mathlib.Core.Path.{◌≡◌, refl, sym, ap, ap₂, ◌∙◌}
use mathlib.Core.List.{List, [], ◌∷◌, ◌++◌, append_assoc}
use Prim.Native.Nat.{ℕ, zero, suc, ◌+◌, ◌*◌, ◌≤◌}
use native.Mathlib.Nat.{add_comm, mul-zero, mul-suc, mul-le-mul, mul-le-mul_left, lt_of_lt_of_le}
use native.Mathlib.Omega.{arith}
use lib.ListN.{length, take, drop, replicate, length-append, length-take, length-drop}
use lib.Seq.{length-take-le, take_at, drop_at, drop-drop, take-add}
use lib.Pow.{pow_mono}
use Rattle.bits.specs.Fields.{Fit, AreBytes}
use Rattle.bits.proofs.FieldLaws.{fit-take, fit-drop}
use Rattle.journal.specs.Bytes.{bytes_of, word_in, written, words_from}
use Rattle.journal.proofs.ByteLaws.{length-bytes, word_lt, word_bytes, bytes_word}

-- a word has at most four bytes, and a frame at most 31 data words
pub bytes-few : (k n : ℕ) → k ≤ 4 → n ≤ 31 → k * n ≤ 124
bytes-few k n h l = mul-le-mul h l

module _ (k : ℕ) where
  more : (n : ℕ) → k + k * n ≡ k * suc n
  more n = add_comm k (k * n) ∙ sym (mul-suc k n)

  -- ---- what is written

  pub length-written : (ws : List ℕ) → length (written k ws) ≡ k * length ws
  unfolding written
  length-written [] = omega arith
  length-written (w ∷ ws) =
      length-append (bytes_of k w) (written k ws) ∙ ap₂ ◌+◌ (length-bytes k w) (length-written ws)
      ∙ more (length ws)

  -- ---- what is read: n words of 8k bits each

  pub length-words : (n : ℕ) (bs : List ℕ) → length (words_from k n bs) ≡ n
  unfolding words_from
  length-words zero bs = refl
  length-words (suc n) bs = ap suc (length-words n (drop k bs))

  pub fit_words : (n : ℕ) (bs : List ℕ) → Fit (replicate n (8 * k)) (words_from k n bs)
  unfolding words_from
  fit_words zero bs = tt
  fit_words (suc n) bs = (lt_of_lt_of_le (word_lt (take k bs)) (pow_mono (mul-le-mul_left 8 short)), fit_words n (drop k bs))
    where
      short : length (take k bs) ≤ k
      short = omega (arith, length-take k bs)

  -- one word more
  pub words_snoc : (n : ℕ) (bs : List ℕ) → words_from k (suc n) bs ≡ words_from k n bs ++ (word_in (take k (drop (k * n) bs)) ∷ [])
  unfolding words_from
  words_snoc zero bs = rw (mul-zero k)
  words_snoc (suc n) bs =
      ap (λ ws. word_in (take k bs) ∷ ws)
      (words_snoc n (drop k bs) ∙ ap (λ r. words_from k n (drop k bs) ++ (word_in (take k r) ∷ [])) (drop-drop (k * n) k bs ∙ ap (λ j. drop j bs) (more n)))

  -- ---- inverse both ways

  pub words-written : (ws rest : List ℕ) → Fit (replicate (length ws) (8 * k)) ws → words_from k (length ws) (written k ws ++ rest) ≡ ws
  unfolding written words_from
  words-written [] rest f = refl
  words-written (w ∷ ws) rest f =
      rw (
        append_assoc (bytes_of k w) (written k ws) rest,
        take_at (bytes_of k w) (written k ws ++ rest) k (length-bytes k w),
        drop_at (bytes_of k w) (written k ws ++ rest) k (length-bytes k w),
      )
      (ap₂ ◌∷◌ (word_bytes k w f.0) (words-written ws rest f.1))

  pub written-words : (n : ℕ) (bs : List ℕ) → AreBytes bs → k * n ≤ length bs → written k (words_from k n bs) ≡ take (k * n) bs
  unfolding written words_from
  written-words zero bs f h = rw (mul-zero k)
  written-words (suc n) bs f h =
      ap₂ ◌++◌ (ap (λ j. bytes_of j (word_in (take k bs))) (sym full) ∙ bytes_word (take k bs) (fit-take k bs f))
      (written-words n (drop k bs) (fit-drop k bs f) (omega (arith, mul-suc k n, length-drop k bs)))
      ∙ sym (take-add k (k * n) bs)
      ∙ ap (λ j. take j bs) (more n)
    where
      full : length (take k bs) ≡ k
      full = length-take-le k bs (omega (arith, mul-suc k n))
