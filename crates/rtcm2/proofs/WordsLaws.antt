-- What the calls on the record of words leave: the answer and all that is lent follow from which frame there was. Assumes nothing.
use mathlib.Core.Path.{◌≡◌, refl, ap, subst, ◌∙◌}
use mathlib.Core.List.{List}
use Prim.Native.Nat.{ℕ}
use Rattle.answer.specs.Order.{Says, refuses, answers}
use Rattle.frame.specs.Frames.{after_pair}
use Rattle.frame.specs.declared.Frame.{Frame}
use Rattle.journal.specs.Journal.{kept_by, held_by, says_kept, says_found, says_recalled}
use Rattle.journal.specs.Words.{kept_words, held_words, recalled_words}
use Rattle.journal.specs.declared.Kept.{Kept}
use Rattle.journal.specs.declared.Found.TheVariants as found
use Rattle.journal.specs.declared.Recalled.{Recalled}
use Rattle.rtcm2.specs.Answer.{number_of, left, and_then}
use Rattle.rtcm2.specs.Send.{pair_of}
use Rattle.rtcm2.specs.Words.{words_kept, words_held, words_size, live_said, back_said, back_held, d29_back, d30_back, read_back, length_back}
use Rattle.rtcm2.proofs.AnswerLaws.{number-as, left_as}

-- ---- keeping: the answer, the bytes and the length that are left

abbrev pub KeepsWords : ℕ → ℕ → List ℕ → ℕ → ℕ → List ℕ → ℕ → Says Frame → Type 0
KeepsWords d29 d30 words size answer held length said =
    (answer ≡ number_of (words_kept said d29 d30 words)) × ((held ≡ words_held said d29 d30 words) × (length ≡ words_size said d29 d30 words size))

module _ (d29 d30 : ℕ) (words : List ℕ) (size : ℕ) where
  pub words-told : (f : Frame) {k : Kept} {held : List ℕ} → k ≡ kept_words (after_pair (pair_of d29 d30) f) words
      → held ≡ held_words (after_pair (pair_of d29 d30) f) words
      → KeepsWords d29 d30 words size (number_of (says_kept k)) held (left (says_kept k) (λ n. n) size) (answers f)
  words-told f e h = let s = ap says_kept e in (number-as s, (h, left_as (λ n. n) size s))

  pub words-refused : {number : ℕ} {said : Says Frame} → refuses number ≡ said → KeepsWords d29 d30 words size number words size said
  words-refused {number} e = subst (KeepsWords d29 d30 words size number words size) e (refl, (refl, refl))

  pub words-as : {answer : ℕ} {held : List ℕ} {length : ℕ} {said said' : Says Frame} → said ≡ said'
      → KeepsWords d29 d30 words size answer held length said → KeepsWords d29 d30 words size answer held length said'
  words-as {answer} {held} {length} e k = subst (KeepsWords d29 d30 words size answer held length) e k

-- ---- recalling: the answer, the bytes, the two bits, the bytes read and the length that are left

abbrev pub GivesBack : List ℕ → ℕ → ℕ → ℕ → ℕ → ℕ → List ℕ → ℕ → ℕ → ℕ → ℕ → Says (ℕ × Frame) → Type 0
GivesBack frame d29 d30 read size answer held a b r n said =
    (answer ≡ number_of (back_said said frame))
    × ((held ≡ back_held said frame)
    × ((a ≡ left (back_said said frame) d29_back d29)
    × ((b ≡ left (back_said said frame) d30_back d30)
    × ((r ≡ left (back_said said frame) read_back read) × (n ≡ left (back_said said frame) length_back size)))))

-- what is said of a record that was kept again
abbrev pub back_of : ℕ → Frame → Kept → Says (ℕ × (ℕ × Frame))
back_of k f kept = and_then (says_kept kept) (λ n. answers (n, (k, f)))

module _ (frame : List ℕ) (d29 d30 read size : ℕ) where
  pub back-told : (k : ℕ) (f : Frame) {kept : Kept} {held : List ℕ} → kept ≡ kept_by f frame → held ≡ held_by f frame
      → GivesBack frame d29 d30 read size (number_of (back_of k f kept)) held (left (back_of k f kept) d29_back d29) (left (back_of k f kept) d30_back d30)
      (left (back_of k f kept) read_back read) (left (back_of k f kept) length_back size) (answers (k, f))
  back-told k f e h =
      let s = ap (back_of k f) e in
      (number-as s, (h, (left_as d29_back d29 s, (left_as d30_back d30 s, (left_as read_back read s, left_as length_back size s)))))

  pub back-refused : {number : ℕ} {said : Says (ℕ × Frame)} → refuses number ≡ said
      → GivesBack frame d29 d30 read size number frame d29 d30 read size said
  back-refused {number} e =
      subst (GivesBack frame d29 d30 read size number frame d29 d30 read size) e (refl, (refl, (refl, (refl, (refl, refl)))))

  pub back_as : {answer : ℕ} {held : List ℕ} {a b r n : ℕ} {said said' : Says (ℕ × Frame)} → said ≡ said'
      → GivesBack frame d29 d30 read size answer held a b r n said → GivesBack frame d29 d30 read size answer held a b r n said'
  back_as {answer} {held} {a} {b} {r} {n} e g = subst (GivesBack frame d29 d30 read size answer held a b r n) e g

-- what was recalled: the length and the frame, or the number
module _ (bytes : List ℕ) (r : Recalled) (e : r ≡ recalled_words bytes) where
  pub live-told : {n : ℕ} → found.Record n ≡ r.answer → answers (n, r.frame) ≡ live_said bytes
  live-told a = ap (λ x. says_found x r.frame) a ∙ ap says_recalled e

  pub live-refused : {n : ℕ} → found.Refused n ≡ r.answer → refuses n ≡ live_said bytes
  live-refused a = ap (λ x. says_found x r.frame) a ∙ ap says_recalled e
