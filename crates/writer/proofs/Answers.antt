-- Each answer of the writer from the tests that lead to it, with the buffer after it. Assumes nothing.
use mathlib.Core.Path.{◌≡◌, refl, sym, ap, ap₂, subst, ◌∙◌}
use mathlib.Core.Bool.{Bool, true, false}
use mathlib.Core.List.{List, ◌∷◌}
use Prim.Native.Nat.{ℕ, ◌+◌, ◌*◌, ◌/◌, ◌%◌, ◌≤◌}
use native.Mathlib.Omega.{arith}
use lib.ListN.{length, take}
use lib.Seq.{sets}
use borrow.Author.Tests.{ltb-false}
use Rattle.answer.specs.Order.{NoneApplies}
use Rattle.answer.proofs.OrderLaws.{order-answers, order-told}
use Rattle.bits.specs.Bits.{number}
use Rattle.frame.specs.Header.{first_word, second_word}
use Rattle.frame.specs.Frames.{words_of, Below}
use Rattle.frame.specs.Widths.{outside}
use Rattle.frame.specs.Answer.{header_words}
use Rattle.frame.specs.declared.Frame.{Frame}
use Rattle.frame.proofs.HeaderLaws.{words-answered}
use Rattle.frame.proofs.FrameLaws.{header-within, n_within, below-words, length-words}
use Rattle.writer.specs.Sending.{sent_bits, bits_after, carried_on, bytes_for, line_length, sent_after, bytes_after, pair_after}
use Rattle.writer.specs.Answer.{over, write_checks, written_by, written_to}
use Rattle.frame.specs.declared.Carried.{Carried}
use Rattle.writer.specs.declared.Written.TheVariants.{Done, Refused}
use Rattle.writer.proofs.Bytes.{length-bytes, sets_over}
use Rattle.writer.proofs.Carrying.{pair-29, pair-30, carried-pair}
use Rattle.std.specs.Prelude.{Ok, Err}
use Rattle.answer.specs.declared.Refusal.{Refusal}

refused-apart : {n k : ℕ} {c : Carried} → Refused n ≡ Done k c → ⊥
refused-apart e = let never : ◌≡◌ {A = ℕ} 0 1 = cc in omega arith

module _ (f : Frame) (c : Carried) (l : List ℕ) where
  pub write-answers : NoneApplies (write_checks f c l)
      → (Done (line_length f) (carried_on (bits_after c f)) ≡ written_by f c l) × (over (bytes_for (line_length f) (bits_after c f)) l ≡ written_to f c l)
  write-answers none = (sym (order-answers Refused _ (write_checks f c l) none), sym (order-answers (λ k. l) _ (write_checks f c l) none))

  pub write-none : {k : ℕ} {c' : Carried} → written_by f c l ≡ Done k c' → NoneApplies (write_checks f c l)
  write-none e = (order-told Refused (Done (line_length f) (carried_on (bits_after c f))) _ (λ n r. refused-apart r) (write_checks f c l) e).0

-- ---- from the words that the code puts

module _ (f : Frame) (o : outside f ≡ false) where
  pub header-answered : header_words f.header f.n ≡ Ok (number (first_word f.header), number (second_word f.header f.n))
  header-answered = words-answered f.header f.n (header-within f o) (n_within f o)

  -- the words that the code puts are the frame's
  pub words-told : (first second : ℕ) → Ok (first, second) ≡ header_words f.header f.n → first ∷ second ∷ take f.n f.words ≡ words_of f
  unfolding words_of
  words-told first second e = ap (λ w. w.0 ∷ w.1 ∷ take f.n f.words) same
    where
      same : ◌≡◌ {A = ℕ × ℕ} (first, second) (number (first_word f.header), number (second_word f.header f.n))
      same = cc (e, header-answered)

  pub told_below : (first second : ℕ) → Ok (first, second) ≡ header_words f.header f.n → Below (first ∷ second ∷ take f.n f.words)
  told_below first second e = subst Below (sym (words-told first second e)) (below-words f o)

-- a header whose words are refused is that of a frame outside its widths
pub header_refused : (f : Frame) (k : Refusal) → Err k ≡ header_words f.header f.n → outside f ≡ true
header_refused f k e = go (outside f) refl
  where
    go : (t : Bool) → outside f ≡ t → t ≡ true
    go true o = refl
    go false o =
        let told = header-answered f o in
        let never : ◌≡◌ {A = ℕ} 0 1 = cc in
        absurd (omega arith)

-- the bits after a pair whose bits are 0 or 1 are those after its number
pub bits-after : (c : Carried) (f : Frame) → c.d29 ≤ 1 → c.d30 ≤ 1 → bits_after c f ≡ sent_after (c.d29 * 2 + c.d30) (words_of f)
bits-after c f p q = ap₂ (λ a b. sent_bits a b f) (pair-29 c.d29 c.d30 p q) (pair-30 c.d29 c.d30 p q)

-- the code's answer: no check applied, and the words were put
pub write_done : (f : Frame) (c : Carried) (l : List ℕ) → NoneApplies (write_checks f c l) → length f.words ≡ 31
    → (first second : ℕ) → Ok (first, second) ≡ header_words f.header f.n → {k : ℕ} {l' : List ℕ}
    → (k ≡ pair_after (c.d29 * 2 + c.d30) (first ∷ second ∷ take f.n f.words))
    × (l' ≡ sets l 0 (bytes_after (c.d29 * 2 + c.d30) (first ∷ second ∷ take f.n f.words)))
    → (Done (line_length f) (record { d29 = k / 2; d30 = k % 2 }) ≡ written_by f c l) × (l' ≡ written_to f c l)
write_done f c l none full first second told {k} {l'} (e, e') = (
  ap (Done (line_length f)) (sym carried) ∙ answered.0,
  e' ∙ ap (λ ws. sets l 0 (bytes_after pair ws)) words ∙ bytes ∙ answered.1,
)
  where
    pair : ℕ
    pair = c.d29 * 2 + c.d30

    answered : (Done (line_length f) (carried_on (bits_after c f)) ≡ written_by f c l) × (over (bytes_for (line_length f) (bits_after c f)) l ≡ written_to f c l)
    answered = write-answers f c l none

    p : c.d29 ≤ 1
    p = ltb-false 1 c.d29 none.0

    q : c.d30 ≤ 1
    q = ltb-false 1 c.d30 none.1.0

    o : outside f ≡ false
    o = none.1.1.0

    s : line_length f ≤ length l
    s = ltb-false (length l) (line_length f) none.1.1.1.1.0

    words : first ∷ second ∷ take f.n f.words ≡ words_of f
    words = words-told f o first second told

    carried : carried_on (bits_after c f) ≡ record { d29 = k / 2; d30 = k % 2 }
    carried =
        ap carried_on (bits-after c f p q ∙ ap (sent_after pair) (sym words))
        ∙ carried-pair pair first (second ∷ take f.n f.words)
        ∙ ap (λ n. record { d29 = n / 2; d30 = n % 2 }) (sym e)

    many : 5 * length (words_of f) ≡ line_length f
    many = omega (arith, length-words f o full)

    bytes : sets l 0 (bytes_after pair (words_of f)) ≡ over (bytes_for (line_length f) (bits_after c f)) l
    bytes =
        ap₂ (λ n bs. sets l 0 (bytes_for n bs)) many (sym (bits-after c f p q))
        ∙ sets_over (bytes_for (line_length f) (bits_after c f)) l (omega (arith, s, length-bytes (line_length f) (bits_after c f)))
