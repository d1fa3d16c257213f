-- Characters that are a text and then none, one or two zeros: its length and the text. Of a frame that holds a text it is read, and of no
-- other frame.
-- Assumes nothing.
use mathlib.Core.Path.{◌≡◌, refl, sym, ap, ap₂, ◌∙◌}
use mathlib.Core.Bool.{Bool, true, false}
use mathlib.Core.List.{List, [], ◌∷◌, ◌++◌}
use Prim.Native.Nat.{ℕ, zero, suc, ◌+◌, ◌*◌, ◌-◌, ◌≤◌, ◌<◌}
use native.Mathlib.Omega.{arith}
use lib.Dec.{ltb}
use lib.ListN.{length, drop, get_or, replicate, length-append, length-replicate, get_or-replicate, get_or-append}
use lib.Seq.{ext_get_or, get_or-append-add}
use borrow.Author.Tests.{ltb-true, ltb-false, le-ltb}
use Rattle.answer.specs.Order.{Check, NoneApplies}
use Rattle.answer.proofs.OrderLaws.{order-answers, order-told}
use Rattle.frame.specs.Widths.{any_of}
use Rattle.frame.specs.declared.Frame.{Frame}
use Rattle.frame.specs.declared.Layout.TheVariants as layout
use Rattle.frame.specs.declared.System.{System}
use Rattle.frame.specs.Layout.{system_of}
use Rattle.record_fields.specs.Coding.{frame_bits, entry_in}
use Rattle.record_stages.specs.declared.Count.TheVariants as count
use Rattle.record_stages.proofs.StageLaws.{of-apart, of-inj}
use Rattle.record_stages.proofs.ListCode.{some-few, told-some-few}
use Rattle.record_texts.specs.Texts.{coding, characters, text_length, length_in, text_in, wrong_words, last_code, forbidden}
use Rattle.record_texts.specs.Texts.{text_order, read_text, buffer_after, Allowed, HoldsText, ReadsText}
use Rattle.record_texts.proofs.TextCode.{length-characters, character-at, length-all, length-less, length-least, Ends, none, one, two, ends}
use Rattle.record_laws.proofs.SentLaws.{read-passes, read-passed, none-entry, told-entry}
use Rattle.record_laws.proofs.TextLaws.{allowed, not-zero}

-- ---- what refusal 11 says of a text, both ways

module _ (s : System) (t : List ℕ) where
  pub allowed-fine : Allowed s t → any_of (forbidden s) t ≡ false
  allowed-fine a = none-entry (forbidden s) t 0 (λ i l. fine (get_or t i 0) (a i l))
    where
      fine : (c : ℕ) → (1 ≤ c) × (c ≤ last_code s) → forbidden s c ≡ false
      fine c b = rw (le-ltb c 1 b.0, le-ltb (last_code s) c b.1)

  pub allowed-told : any_of (forbidden s) t ≡ false → Allowed s t
  allowed-told e i l = allowed s (get_or t i 0) (told-entry (forbidden s) t 0 i e l)

-- ---- characters: a text, and the zeros behind it

pub characters-are : (t : List ℕ) (bs : List Bool) → ((i : ℕ) → i < length t → entry_in coding i bs ≡ get_or t i 0) → characters (length t) bs ≡ t
characters-are t bs at =
    ext_get_or 0 (characters (length t) bs) t (length-characters (length t) bs) (λ i l. each i (omega (arith, length-characters (length t) bs)))
  where
    each : (i : ℕ) → i < length t → get_or (characters (length t) bs) i 0 ≡ get_or t i 0
    each i l = character-at (length t) i bs l ∙ at i l

-- of m characters those behind the text are zeros, none, one or two
pub record Closing (m : ℕ) (bs : List Bool) : Type 0 where
  pub zeros : ℕ
  pub few : zeros ≤ 2
  pub size : text_length m bs + zeros ≡ m
  pub at : (j : ℕ) → j < zeros → entry_in coding (text_length m bs + j) bs ≡ 0

pub closing : (m : ℕ) (bs : List Bool) → 2 ≤ m → Closing m bs
closing m bs l = by (ends m bs)
  where
    by : Ends m bs → Closing m bs
    by (none e) = record { zeros = 0; few = omega arith; size = omega arith; at = λ j b. absurd (omega arith) }
    by (one e z) = record { zeros = 1; few = omega arith; size = omega arith; at = λ j b. ap (λ i. entry_in coding i bs) (last j b) ∙ z }
      where
        last : (j : ℕ) → j < 1 → text_length m bs + j ≡ m - 1
        last j b = omega arith
    by (two e z y) = record { zeros = 2; few = omega arith; size = omega arith; at = each }
      where
        first-is : text_length m bs + 0 ≡ m - 2
        first-is = omega arith

        second_is : text_length m bs + 1 ≡ m - 1
        second_is = omega arith

        each : (j : ℕ) → j < 2 → entry_in coding (text_length m bs + j) bs ≡ 0
        each zero b = ap (λ i. entry_in coding i bs) first-is ∙ y
        each (suc zero) b = ap (λ i. entry_in coding i bs) second_is ∙ z
        each (suc (suc j)) b = absurd (omega arith)

pub characters-zeros : (m k : ℕ) (bs : List Bool) → ((j : ℕ) → j < k → entry_in coding (m + j) bs ≡ 0) → characters (m + k) bs ≡ characters m bs ++ replicate k 0
characters-zeros m k bs z =
    ext_get_or 0 (characters (m + k) bs) (characters m bs ++ replicate k 0) long
    (λ i l. character-at (m + k) i bs (omega (arith, length-characters (m + k) bs)) ∙ sym (go i (omega (arith, length-characters (m + k) bs)) (ltb i m) refl))
  where
    long : length (characters (m + k) bs) ≡ length (characters m bs ++ replicate k 0)
    long =
        length-characters (m + k) bs
        ∙ sym (length-append (characters m bs) (replicate k 0) ∙ ap₂ (λ a b. a + b) (length-characters m bs) (length-replicate k 0))

    go : (i : ℕ) → i < m + k → (t : Bool) → ltb i m ≡ t → get_or (characters m bs ++ replicate k 0) i 0 ≡ entry_in coding i bs
    go i l true e =
        get_or-append (characters m bs) (replicate k 0) 0 i (omega (arith, length-characters m bs, ltb-true i m e))
        ∙ character-at m i bs (ltb-true i m e)
    go i l false e =
        ap (λ p. get_or (characters m bs ++ replicate k 0) p 0) there
        ∙ get_or-append-add (characters m bs) (replicate k 0) (i - m) 0
        ∙ get_or-replicate k (i - m) 0 0 near ∙ sym (ap (λ p. entry_in coding p bs) back ∙ z (i - m) near)
      where
        there : i ≡ length (characters m bs) + (i - m)
        there = omega (arith, length-characters m bs, ltb-false i m e)

        back : i ≡ m + (i - m)
        back = omega (arith, ltb-false i m e)

        near : i - m < k
        near = omega (arith, ltb-false i m e)

-- ---- READ: of a frame that holds a text, its characters are read, not refused

-- the checks of reading after 8
abbrev last_checks : Frame → List ℕ → List Check
last_checks f buffer = (any_of (forbidden (system_of f.header.kind)) (text_in f), 11) ∷ (ltb (length buffer) (length_in f), 13) ∷ []

module _ (f : Frame) (t : List ℕ) (k : ℕ) (s : HoldsText f t k) where
  size : 3 * f.n ≡ length t + k
  size =
      sym (length-characters (3 * f.n) (frame_bits f)) ∙ ap length s.says
      ∙ length-append t (replicate k 0) ∙ ap (λ n. length t + n) (length-replicate k 0)

  at : (i : ℕ) → i < 3 * f.n → entry_in coding i (frame_bits f) ≡ get_or (t ++ replicate k 0) i 0
  at i l = sym (character-at (3 * f.n) i (frame_bits f) l) ∙ ap (λ cs. get_or cs i 0) s.says

  at-text : (i : ℕ) → i < length t → entry_in coding i (frame_bits f) ≡ get_or t i 0
  at-text i l = at i (omega (arith, size)) ∙ get_or-append t (replicate k 0) 0 i l

  at_zero : (j : ℕ) → j < k → entry_in coding (length t + j) (frame_bits f) ≡ 0
  at_zero j l = at (length t + j) (omega (arith, size)) ∙ get_or-append-add t (replicate k 0) j 0 ∙ get_or-replicate k j 0 0 l

  -- the system of the frame's type
  abbrev asked : System
  asked = system_of f.header.kind

  right : any_of (forbidden asked) t ≡ false
  right = allowed-fine asked t s.allowed

  some : 0 < length t
  some = omega (arith, size, s.some, s.zeros)

  length-is : length_in f ≡ length t
  length-is = go k size s.zeros at_zero
    where
      m : ℕ
      m = 3 * f.n

      D : List Bool
      D = frame_bits f

      last : (i : ℕ) → suc i ≡ length t → entry_in coding i D ≡ 0 → ⊥
      last i e z = not-zero asked t i right (omega arith) (sym (at-text i (omega arith)) ∙ z)

      go : (k : ℕ) → m ≡ length t + k → k ≤ 2 → ((j : ℕ) → j < k → entry_in coding (length t + j) D ≡ 0) → text_length m D ≡ length t
      go zero e l z = length-all m D (last (m - 1) (omega (arith, some))) ∙ rest
        where
          rest : m ≡ length t
          rest = omega arith
      go (suc zero) e l z = length-less m D (ap (λ i. entry_in coding i D) one-is ∙ z 0 (omega arith)) (last (m - 2) (omega (arith, some))) ∙ rest
        where
          one-is : m - 1 ≡ length t + 0
          one-is = omega arith

          rest : m - 1 ≡ length t
          rest = omega arith
      go (suc (suc zero)) e l z =
          length-least m D (ap (λ i. entry_in coding i D) one-is ∙ z 1 (omega arith)) (ap (λ i. entry_in coding i D) two_is ∙ z 0 (omega arith)) ∙ rest
        where
          one-is : m - 1 ≡ length t + 1
          one-is = omega arith

          two_is : m - 2 ≡ length t + 0
          two_is = omega arith

          rest : m - 2 ≡ length t
          rest = omega arith
      go (suc (suc (suc j))) e l z = absurd (omega arith)

  text-is : text_in f ≡ t
  text-is = ap (λ m. characters m (frame_bits f)) length-is ∙ characters-are t (frame_bits f) at-text

  stages : (buffer : List ℕ) → length t ≤ length buffer → NoneApplies (text_order f buffer)
  stages buffer l =
      read-passes layout.Text f (wrong_words f.n) (last_checks f buffer) s.frame (some-few f.n 30 s.some s.few)
      (ap (any_of (forbidden asked)) text-is ∙ right, (ap (ltb (length buffer)) length-is ∙ le-ltb (length buffer) (length t) l, tt))

  pub text-read : ReadsText f t
  unfolding read_text buffer_after
  text-read = record {
    reads = λ buffer l.
        order-answers count.Refused (count.Of (length_in f)) (text_order f buffer) (stages buffer l) ∙ ap count.Of length-is;
    writes = λ buffer l.
        order-answers (λ n. buffer) (text_in f ++ drop (length_in f) buffer) (text_order f buffer) (stages buffer l)
        ∙ ap₂ (λ cs n. cs ++ drop n buffer) text-is length-is;
  }

-- and a text is read of no other frame
pub text-held : (f : Frame) (buffer : List ℕ) (c : ℕ) → read_text f buffer ≡ count.Of c → ((k : ℕ) × HoldsText f (text_in f) k) × (length (text_in f) ≡ c)
unfolding read_text
text-held f buffer c e = (
  (
    z.zeros,
    record {
      frame = read-passed layout.Text f (wrong_words f.n) (last_checks f buffer) o.0;
      some = n.0;
      few = n.1;
      zeros = z.few;
      says = ap (λ m. characters m (frame_bits f)) (sym z.size) ∙ characters-zeros (length_in f) z.zeros (frame_bits f) z.at;
      allowed = allowed-told (system_of f.header.kind) (text_in f) o.0.1.1.1.1.0;
    },
  ),
  length-characters (length_in f) (frame_bits f) ∙ of-inj (length_in f) c o.1,
)
  where
    o : NoneApplies (text_order f buffer) × (count.Of (length_in f) ≡ count.Of c)
    o = order-told count.Refused (count.Of (length_in f)) (count.Of c) (λ m. of-apart m c) (text_order f buffer) e

    n : (1 ≤ f.n) × (f.n ≤ 30)
    n = told-some-few f.n 30 o.0.1.1.1.0

    z : Closing (3 * f.n) (frame_bits f)
    z = closing (3 * f.n) (frame_bits f) (omega (arith, n))
