-- What putting a frame's record answers and what the buffer then holds, by the refusals of its order; keeping is putting within the widths. Assumes nothing.
use mathlib.Core.Path.{◌≡◌, refl, ap, ap₂, ◌∙◌}
use mathlib.Core.Bool.{Bool, true, false}
use mathlib.Core.List.{List, [], ◌∷◌, ◌++◌}
use Prim.Native.Nat.{ℕ, suc, ◌+◌, ◌*◌, ◌≤◌}
use native.Mathlib.Omega.{arith}
use lib.Dec.{ltb}
use lib.ListN.{length, take, drop}
use lib.Seq.{length-take-le, sets, sets-eq}
use borrow.Author.Tests.{le-ltb, ltb-false}
use Rattle.answer.specs.Order.{in_order}
use Rattle.bits.specs.Bits.{number}
use Rattle.frame.specs.Header.{first_word, second_word}
use Rattle.frame.specs.Frames.{words_of}
use Rattle.frame.specs.Widths.{header_outside, outside}
use Rattle.frame.specs.Answer.{header_words}
use Rattle.frame.specs.declared.Frame.{Frame}
use Rattle.frame.proofs.FrameLaws.{header-within, n_within}
use Rattle.journal.specs.Forms.{record_with}
use Rattle.journal.specs.Journal.{record_of, recorded_by, recorded_to, kept_by, held_by}
use Rattle.journal.proofs.FormLaws.{length-with}
use Rattle.std.specs.Prelude.{Ok}
use Rattle.answer.specs.Table.{refused}

-- ---- the record of a frame whose header and N are within their widths

-- the header's words are answered under no other
words-told : {first second : ℕ} (a b : ℕ) (p q : Bool)
    → in_order ((p, 5) ∷ (q, 5) ∷ []) (refused {A = ℕ × ℕ}) (Ok (a, b)) ≡ Ok (first, second)
    → (p ≡ false) × ((q ≡ false) × ((first ≡ a) × (second ≡ b)))
words-told a b true q e = absurd (let z : ◌≡◌ {A = ℕ} 0 1 = cc in omega arith)
words-told a b false true e = absurd (let z : ◌≡◌ {A = ℕ} 0 1 = cc in omega arith)
words-told {first} {second} a b false false e = (refl, (refl, (ap (λ w. w.0) same, ap (λ w. w.1) same)))
  where
    same : ◌≡◌ {A = ℕ × ℕ} (first, second) (a, b)
    same = cc

module _ (f : Frame) {first second : ℕ} (answered : header_words f.header f.n ≡ Ok (first, second)) where
  abbrev told : (header_outside f.header ≡ false)
      × ((ltb 31 f.n ≡ false) × ((first ≡ number (first_word f.header)) × (second ≡ number (second_word f.header f.n))))
  told = words-told _ _ (header_outside f.header) (ltb 31 f.n) answered

  pub header-told : header_outside f.header ≡ false
  header-told = told.0

  pub few-told : f.n ≤ 31
  few-told = ltb-false 31 f.n told.1.0

  -- the header's words as they were answered, and the data words
  pub record-written : record_with 0x32 3 f.n (first ∷ second ∷ take f.n f.words) ≡ record_of f
  unfolding record_of words_of
  record-written = ap₂ (λ a b. record_with 0x32 3 f.n (a ∷ b ∷ take f.n f.words)) told.1.1.0 told.1.1.1

module _ (f : Frame) (l : f.n ≤ 31) (full : length f.words ≡ 31) where
  pub few_words : length (words_of f) ≡ suc (suc f.n)
  unfolding words_of
  few_words = omega (arith, length-take-le f.n f.words (omega (arith, l, full)))

  pub record-size : length (record_of f) ≡ 3 * f.n + 9
  unfolding record_of
  record-size = length-with 0x32 3 f.n (words_of f) few_words

-- ---- what putting leaves: the bytes that are put, and past them what the buffer held before

pub put-over : (bytes buffer : List ℕ) {size : ℕ} {held : List ℕ} → length bytes ≡ size → size ≤ length buffer → held ≡ sets buffer 0 bytes
    → held ≡ bytes ++ drop size buffer
put-over bytes buffer {size} long l h = h ∙ sets-eq bytes buffer 0 room ∙ ap (λ j. bytes ++ drop j buffer) past
  where
    past : 0 + length bytes ≡ size
    past = omega (arith, long)

    room : 0 + length bytes ≤ length buffer
    room = omega (arith, long)

-- ---- and keeping within the widths: as putting

module _ (f : Frame) (buffer : List ℕ) where
  pub keep-within : outside f ≡ false → (recorded_by f buffer ≡ kept_by f buffer) × (recorded_to f buffer ≡ held_by f buffer)
  keep-within e =
      let h = header-within f e in
      let n = le-ltb 31 f.n (n_within f e) in
      (rw (e, h, n), rw (e, h, n))
