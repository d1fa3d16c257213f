-- Facts that the proofs of the text functions cite: characters and their number, the loops over them, and the answers of reading.
-- Assumes nothing.
use mathlib.Core.Path.{◌≡◌, refl, sym, ap, ap₂, ◌∙◌}
use mathlib.Core.Bool.{Bool, true, false, cond}
use mathlib.Core.List.{List, [], ◌∷◌, ◌++◌, map}
use Prim.Native.Nat.{ℕ, zero, suc, ◌+◌, ◌*◌, ◌-◌, ◌/◌, ◌%◌, ◌^◌, ◌≤◌, ◌<◌}
use native.Mathlib.Nat.{zero-add}
use native.Mathlib.Omega.{arith}
use lib.Dec.{ltb, eqb}
use lib.ListN.{length, drop, get_or, length-map}
use borrow.Author.Tests.{ltb-false, eqb-true, eqb-false, eq-eqb, ne_eqb}
use Rattle.answer.specs.Order.{Check, in_order}
use Rattle.bits.specs.Fields.{fields_at}
use Rattle.bits.specs.Rows.{data_bits, rows_at}
use Rattle.bits.proofs.RowLaws.{length-rows-at, rows-at}
use Rattle.frame.specs.Widths.{any_of, outside}
use Rattle.frame.specs.Answer.{frame_widths, clock_of}
use Rattle.frame.specs.Layout.{system_of}
use Rattle.frame.specs.declared.Frame.{Frame}
use Rattle.frame.specs.declared.Layout.TheVariants as layout
use Rattle.frame.proofs.WidthLaws.{both_false, told-within}
use Rattle.record_fields.specs.Coding.{frame_bits, entry_in}
use Rattle.record_fields.proofs.Making.{fields-frame, rows_frame}
use Rattle.record_fields.proofs.PackCode.{field-law}
use Rattle.record_stages.specs.declared.Asked.TheVariants.{Same, Other}
use Rattle.record_stages.specs.declared.Count.{Count}
use Rattle.record_stages.specs.declared.Count.TheVariants as count
use Rattle.record_stages.specs.Stages.{asked_of}
use Rattle.record_stages.proofs.StageLaws.{read5, read6, read7, read8, read-on}
use Rattle.record_texts.specs.Texts.{widths, meant, coding, characters, text_length, length_in, text_in, wrong_words, forbidden}
use Rattle.record_texts.specs.Texts.{text_order, read_text, buffer_after}
use Rattle.std.specs.Prelude.{Err}
use Rattle.answer.specs.Table.{granted}
use Rattle.answer.specs.declared.Refusal.{Refusal}

-- ---- characters of bits

pub length-characters : (m : ℕ) (bs : List Bool) → length (characters m bs) ≡ m
unfolding characters
length-characters m bs = length-map (rows_at widths m 0 bs) meant ∙ length-rows-at widths m 0 bs

pub character-at : (m i : ℕ) (bs : List Bool) → i < m → get_or (characters m bs) i 0 ≡ entry_in coding i bs
unfolding characters
character-at m i bs h =
    mapped (rows_at widths m 0 bs) i (omega (arith, length-rows-at widths m 0 bs)) ∙ ap meant (rows-at widths m 0 i bs h)
    ∙ ap (λ o. meant (fields_at widths o bs)) (zero-add (i * 8))
  where
    mapped : (rs : List (List ℕ)) (j : ℕ) → j < length rs → get_or (map meant rs) j 0 ≡ meant (get_or rs j [])
    mapped [] j l = absurd (omega arith)
    mapped (r ∷ rs) zero l = refl
    mapped (r ∷ rs) (suc j) l = mapped rs j (omega arith)

-- eight bits of three words as one number, where they end within the first: that word alone says them
first : (w y : ℕ) → y < 2 ^ 40 → w / 2 ^ 16 % 256 ≡ (w % 2 ^ 24 * 2 ^ 40 + y) / 2 ^ 56 % 2 ^ 8
first w y h = omega arith

second : (w y : ℕ) → y < 2 ^ 40 → w / 2 ^ 8 % 256 ≡ (w % 2 ^ 24 * 2 ^ 40 + y) / 2 ^ 48 % 2 ^ 8
second w y h = omega arith

last_eight : (w y : ℕ) → y < 2 ^ 40 → w / 2 ^ 0 % 256 ≡ (w % 2 ^ 24 * 2 ^ 40 + y) / 2 ^ 40 % 2 ^ 8
last_eight w y h = omega arith

-- it lies in one word, as the first, second or third eight of its 24 bits
module _ (ws : List ℕ) (i : ℕ) (full : length ws ≡ 31) (few : i < 93) where
  abbrev word : ℕ
  word = get_or ws (i / 3) 0

  abbrev rest : ℕ
  rest = get_or ws (i / 3 + 1) 0 % 2 ^ 24 * 2 ^ 16 + get_or ws (i / 3 + 2) 0 % 2 ^ 24 / 2 ^ 8

  small : rest < 2 ^ 40
  small = omega arith

  -- the field by its own word and the two behind it
  long : (k : ℕ) → 64 - (i * 8 % 24 + 8) ≡ k → (word % 2 ^ 24 * 2 ^ 40 + rest) / 2 ^ k % 2 ^ 8 ≡ entry_in coding i (data_bits ws)
  long k e =
      let at : i * 8 / 24 ≡ i / 3 = omega arith in
      field-law ws (i * 8) 8 _ _ _ (2 ^ k) (2 ^ 8) full (omega arith) (omega arith)
      (ap (λ j. get_or ws j 0 % 2 ^ 24) (sym at)) (ap (λ j. get_or ws (j + 1) 0 % 2 ^ 24) (sym at)) (ap (λ j. get_or ws (j + 2) 0 % 2 ^ 24) (sym at))
      (ap (λ n. 2 ^ n) (sym e)) refl

  by_place : (r : ℕ) → i % 3 ≡ r → word / 2 ^ (16 - 8 * r) % 256 ≡ entry_in coding i (data_bits ws)
  by_place zero e = first word rest small ∙ long 56 (omega arith)
  by_place (suc zero) e = second word rest small ∙ long 48 (omega arith)
  by_place (suc (suc zero)) e = last_eight word rest small ∙ long 40 (omega arith)
  by_place (suc (suc (suc r))) e = absurd (omega arith)

  pub third : word / 2 ^ (16 - 8 * (i % 3)) % 256 ≡ entry_in coding i (data_bits ws)
  third = by_place (i % 3) refl

-- ---- how many are text

module _ (m : ℕ) (bs : List Bool) where
  pub length-all : (entry_in coding (m - 1) bs ≡ 0 → ⊥) → text_length m bs ≡ m
  unfolding text_length
  length-all h = rw (ne_eqb (entry_in coding (m - 1) bs) 0 h)

  pub length-less : entry_in coding (m - 1) bs ≡ 0 → (entry_in coding (m - 2) bs ≡ 0 → ⊥) → text_length m bs ≡ m - 1
  unfolding text_length
  length-less e h = rw (eq-eqb (entry_in coding (m - 1) bs) 0 e, ne_eqb (entry_in coding (m - 2) bs) 0 h)

  pub length-least : entry_in coding (m - 1) bs ≡ 0 → entry_in coding (m - 2) bs ≡ 0 → text_length m bs ≡ m - 2
  unfolding text_length
  length-least e h = rw (eq-eqb (entry_in coding (m - 1) bs) 0 e, eq-eqb (entry_in coding (m - 2) bs) 0 h)

  -- the three cases are all there are
  pub data Ends : Type 0 where
    none : text_length m bs ≡ m → Ends
    one : text_length m bs ≡ m - 1 → entry_in coding (m - 1) bs ≡ 0 → Ends
    two : text_length m bs ≡ m - 2 → entry_in coding (m - 1) bs ≡ 0 → entry_in coding (m - 2) bs ≡ 0 → Ends

  pub ends : Ends
  ends = go (eqb (entry_in coding (m - 1) bs) 0) (eqb (entry_in coding (m - 2) bs) 0) refl refl
    where
      go : (s t : Bool) → eqb (entry_in coding (m - 1) bs) 0 ≡ s → eqb (entry_in coding (m - 2) bs) 0 ≡ t → Ends
      go false t p q = none (length-all (eqb-false (entry_in coding (m - 1) bs) 0 p))
      go true false p q = one (length-less (eqb-true (entry_in coding (m - 1) bs) 0 p) (eqb-false (entry_in coding (m - 2) bs) 0 q))
          (eqb-true (entry_in coding (m - 1) bs) 0 p)
      go true true p q = two (length-least (eqb-true (entry_in coding (m - 1) bs) 0 p) (eqb-true (entry_in coding (m - 2) bs) 0 q))
          (eqb-true (entry_in coding (m - 1) bs) 0 p) (eqb-true (entry_in coding (m - 2) bs) 0 q)

  pub length-le : (text_length m bs ≤ m) × (m ≤ text_length m bs + 2)
  length-le = by ends
    where
      by : Ends → (text_length m bs ≤ m) × (m ≤ text_length m bs + 2)
      by (none e) = (omega arith, omega arith)
      by (one e z) = (omega arith, omega arith)
      by (two e y z) = (omega arith, omega arith)

-- ---- the words' characters are the frame's

module _ (f : Frame) (e : outside f ≡ false) (full : length f.words ≡ 31) where
  pub length-frame : 0 < f.n → text_length (3 * f.n) (data_bits f.words) ≡ length_in f
  unfolding text_length
  length-frame h =
      ap₂ (λ a b. cond (eqb a 0) (cond (eqb b 0) (3 * f.n - 2) (3 * f.n - 1)) (3 * f.n))
      (ap meant (fields-frame widths ((3 * f.n - 1) * 8) f e full (omega arith)))
      (ap meant (fields-frame widths ((3 * f.n - 2) * 8) f e full (omega arith)))

  pub characters-frame : (m : ℕ) → m ≤ 3 * f.n → characters m (data_bits f.words) ≡ characters m (frame_bits f)
  unfolding characters
  characters-frame m h = ap (map meant) (rows_frame widths m f e full (omega arith))

-- ---- N and the number of characters

pub some_words : (n : ℕ) → wrong_words n ≡ false → (0 < n) × (n ≤ 30)
some_words n e = let s = both_false (eqb n 0) (ltb 30 n) e in (positive n (eqb-false n 0 s.0), ltb-false 30 n s.1)
  where
    positive : (m : ℕ) → (m ≡ 0 → ⊥) → 0 < m
    positive zero z = absurd (z refl)
    positive (suc m) z = omega arith

-- what is found of a frame that passed 5 and 8: the number of its characters, at most 93, and they are its text
pub record Found (f : Frame) (count : ℕ) : Type 0 where
  pub number : count ≡ length_in f
  pub text : characters count (data_bits f.words) ≡ text_in f
  pub few : count ≤ 93

pub found : (f : Frame) (count : ℕ) → granted ≡ frame_widths f → length f.words ≡ 31 → wrong_words f.n ≡ false
    → count ≡ text_length (3 * f.n) (data_bits f.words) → Found f count
found f count within full right counted =
    let inside = told-within (outside f) within in
    let some = some_words f.n right in
    let least = length-le (3 * f.n) (frame_bits f) in
    let is : count ≡ length_in f = counted ∙ length-frame f inside full some.0 in
    record {
      number = is;
      text = ap (λ m. characters m (data_bits f.words)) is ∙ characters-frame f inside full (length_in f) least.0;
      few = omega (arith, least.0, some.1);
    }

-- ---- the answers of reading, with the buffer

module _ (f : Frame) (buffer : List ℕ) where
  abbrev pub Answers : Count → List ℕ → Type 0
  Answers r after = (r ≡ read_text f buffer) × (after ≡ buffer_after f buffer)

  abbrev last : List Check
  last = (any_of (forbidden (system_of f.header.kind)) (text_in f), 11) ∷ (ltb (length buffer) (length_in f), 13) ∷ []

  -- one fact on the order says what is answered and what the buffer holds
  refuses : (n : ℕ) → ((A : Type 0) (refuse : ℕ → A) (answer : A) → refuse n ≡ in_order (text_order f buffer) refuse answer)
      → Answers (count.Refused n) buffer
  unfolding read_text buffer_after
  refuses n law = (law Count count.Refused (count.Of (length_in f)), law (List ℕ) (λ k. buffer) (text_in f ++ drop (length_in f) buffer))

  pub text5 : {e : Refusal} → Err e ≡ frame_widths f → Answers (count.Refused 5) buffer
  text5 w = refuses 5 (λ A refuse answer. read5 layout.Text f (wrong_words f.n) last refuse answer w)

  module _ (w : granted ≡ frame_widths f) where
    pub text6 : Other ≡ asked_of layout.Text f.header.kind → Answers (count.Refused 6) buffer
    text6 a = refuses 6 (λ A refuse answer. read6 layout.Text f (wrong_words f.n) last refuse answer w a)

    module _ (a : Same ≡ asked_of layout.Text f.header.kind) where
      pub text7 : {e : Refusal} → Err e ≡ clock_of f.header.z → Answers (count.Refused 7) buffer
      text7 z = refuses 7 (λ A refuse answer. read7 layout.Text f (wrong_words f.n) last refuse answer w a z)

      module _ (z : granted ≡ clock_of f.header.z) where
        pub text8 : wrong_words f.n ≡ true → Answers (count.Refused 8) buffer
        text8 e = refuses 8 (λ A refuse answer. read8 layout.Text f (wrong_words f.n) last refuse answer w a z e)

        module _ (e : wrong_words f.n ≡ false) where
          left : {A : Type 0} (refuse : ℕ → A) (answer : A) → in_order last refuse answer ≡ in_order (text_order f buffer) refuse answer
          left refuse answer = read-on layout.Text f (wrong_words f.n) last refuse answer w a z e

          pub text11 : any_of (forbidden (system_of f.header.kind)) (text_in f) ≡ true → Answers (count.Refused 11) buffer
          text11 b = refuses 11 (λ A refuse answer. at refuse answer ∙ left refuse answer)
            where
              at : {A : Type 0} (refuse : ℕ → A) (answer : A) → refuse 11 ≡ in_order last refuse answer
              at refuse answer = rw b

          module _ (b : any_of (forbidden (system_of f.header.kind)) (text_in f) ≡ false) where
            pub text13 : ltb (length buffer) (length_in f) ≡ true → Answers (count.Refused 13) buffer
            text13 l = refuses 13 (λ A refuse answer. at refuse answer ∙ left refuse answer)
              where
                at : {A : Type 0} (refuse : ℕ → A) (answer : A) → refuse 13 ≡ in_order last refuse answer
                at refuse answer = rw (b, l)

            pub text-done : ltb (length buffer) (length_in f) ≡ false → Answers (count.Of (length_in f)) (text_in f ++ drop (length_in f) buffer)
            unfolding read_text buffer_after
            text-done l = (
              at count.Refused (count.Of (length_in f)) ∙ left count.Refused (count.Of (length_in f)),
              at (λ k. buffer) (text_in f ++ drop (length_in f) buffer) ∙ left (λ k. buffer) (text_in f ++ drop (length_in f) buffer),
            )
              where
                at : {A : Type 0} (refuse : ℕ → A) (answer : A) → answer ≡ in_order last refuse answer
                at refuse answer = rw (b, l)
