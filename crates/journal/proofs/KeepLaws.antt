-- What keeping answers and what the buffer then holds, by the refusals of its order. Assumes nothing.
use mathlib.Core.Path.{◌≡◌, ap}
use mathlib.Core.Bool.{false}
use mathlib.Core.List.{◌∷◌}
use Prim.Native.Nat.{ℕ, suc, ◌+◌, ◌*◌}
use native.Mathlib.Omega.{arith}
use lib.ListN.{length, take}
use Rattle.bits.specs.Bits.{number}
use Rattle.frame.specs.Header.{first_word, second_word}
use Rattle.frame.specs.Frames.{words_of}
use Rattle.frame.specs.Widths.{outside}
use Rattle.frame.specs.Answer.{header_words}
use Rattle.frame.specs.declared.Frame.{Frame}
use Rattle.frame.proofs.HeaderLaws.{words-answered}
use Rattle.frame.proofs.FrameLaws.{header-within, n_within}
use Rattle.journal.specs.Journal.{record_of}
use Rattle.journal.proofs.PutLaws.{few_words, record-size}
use Rattle.std.specs.Prelude.{Ok, Err}
use Rattle.answer.specs.declared.Refusal.{Refusal}

-- ---- the record of a frame within its widths

module _ (f : Frame) (e : outside f ≡ false) where
  answered : header_words f.header f.n ≡ Ok (number (first_word f.header), number (second_word f.header f.n))
  answered = words-answered f.header f.n (header-within f e) (n_within f e)

  pub words-refused : {number : Refusal} → header_words f.header f.n ≡ Err number → ⊥
  words-refused h = let z : ◌≡◌ {A = ℕ} 0 1 = cc (answered, h) in omega arith

  -- the header's words as they were answered, and the data words
  pub words-told : {first second : ℕ} → header_words f.header f.n ≡ Ok (first, second) → first ∷ second ∷ take f.n f.words ≡ words_of f
  unfolding words_of
  words-told {first} {second} h = ap (λ w. w.0 ∷ w.1 ∷ take f.n f.words) same
    where
      same : ◌≡◌ {A = ℕ × ℕ} (first, second) (number (first_word f.header), number (second_word f.header f.n))
      same = cc (answered, h)

  module _ (full : length f.words ≡ 31) where
    pub count-words : length (words_of f) ≡ suc (suc f.n)
    count-words = few_words f (n_within f e) full

    pub length-record : length (record_of f) ≡ 3 * f.n + 9
    length-record = record-size f (n_within f e) full
