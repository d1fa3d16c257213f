-- Read then made, for types 16 and 36. Assumes nothing.
use mathlib.Core.Path.{◌≡◌, refl, sym, ap, ap₂, ◌∙◌}
use mathlib.Core.Bool.{Bool, false}
use mathlib.Core.List.{List, [], ◌∷◌, ◌++◌}
use Prim.Native.Nat.{ℕ, zero, suc, ◌+◌, ◌*◌, ◌≤◌, ◌<◌}
use native.Mathlib.Omega.{arith}
use lib.ListN.{length, take, drop, replicate, length-drop}
use lib.Seq.{take_all, take_at}
use borrow.Author.Tests.{le-ltb, ne_eqb}
use Rattle.answer.specs.Order.{NoneApplies}
use Rattle.answer.proofs.OrderLaws.{order-answers, order-told}
use Rattle.bits.specs.Fields.{field_at}
use Rattle.bits.specs.Rows.{packed_rows, rows_at, fill_of, FillAfter}
use Rattle.bits.proofs.RowLaws.{put-rows}
use Rattle.bits.proofs.WordLaws.{length-data}
use Rattle.frame.specs.Frames.{bare, data_words}
use Rattle.frame.specs.Widths.{any_of, outside}
use Rattle.frame.specs.declared.Frame.{Frame}
use Rattle.frame.specs.declared.Layout.TheVariants as layout
use Rattle.frame.specs.Layout.{system_of}
use Rattle.frame.proofs.FrameLaws.{header-within, length-data as length-data-words}
use Rattle.record_fields.specs.Coding.{frame_bits, entry_in, rows_of, frame_with}
use Rattle.record_fields.proofs.Round.{made_again}
use Rattle.record_stages.specs.declared.Count.TheVariants as count
use Rattle.record_stages.specs.Stages.{wrong_count, make_order, refused_made, done_made}
use Rattle.record_stages.proofs.StageLaws.{of-apart, of-inj}
use Rattle.record_texts.specs.Texts.{widths, coding, fill, characters, length_in, text_in, forbidden, text_order, read_text, buffer_after, make_text}
use Rattle.record_texts.proofs.TextCode.{length-characters, length-le, some_words}
use Rattle.record_laws.proofs.TextHeld.{closing}
use Rattle.record_laws.proofs.TextLaws.{Good, faithful, zeros-fill}

-- rows of one character each, from bit o on, all of them 0
zero-rows : (k o : ℕ) (bs : List Bool) → ((j : ℕ) → j < k → field_at (o + j * 8) 8 bs ≡ 0) → rows_at widths k o bs ≡ rows_of coding (replicate k 0)
zero-rows zero o bs z = refl
zero-rows (suc k) o bs z =
    ap₂ ◌∷◌ (ap (λ v. v ∷ []) (ap (λ p. field_at p 8 bs) here ∙ z 0 (omega arith)))
    (zero-rows k (o + 8) bs (λ j l. ap (λ p. field_at p 8 bs) (there j) ∙ z (suc j) (omega arith)))
  where
    here : o ≡ o + 0 * 8
    here = omega arith

    there : (j : ℕ) → o + 8 + j * 8 ≡ o + suc j * 8
    there j = omega arith

module _ (f : Frame) (full : length f.words ≡ 31) (inside : outside f ≡ false) (n : (0 < f.n) × (f.n ≤ 30)) where
  long : length (frame_bits f) ≡ 24 * f.n
  unfolding frame_bits
  long = length-data (data_words f) ∙ ap (λ m. 24 * m) (length-data-words f inside full)

  -- what is no text is zeros
  fills : FillAfter fill (length_in f * 8) (frame_bits f)
  fills = let z = closing (3 * f.n) (frame_bits f) (omega (arith, n)) in close z.zeros z.size z.few z.at
    where
      D : List Bool
      D = frame_bits f

      close : (k : ℕ) → length_in f + k ≡ 3 * f.n → k ≤ 2 → ((j : ℕ) → j < k → entry_in coding (length_in f + j) D ≡ 0)
          → FillAfter fill (length_in f * 8) D
      close k e l z = rest ∙ ap (fill_of fill) (sym size)
        where
          size : length (drop (length_in f * 8) D) ≡ 8 * k
          size = omega (arith, length-drop (length_in f * 8) D, long)

          at : (j : ℕ) → (length_in f + j) * 8 ≡ length_in f * 8 + j * 8
          at j = omega arith

          rest : drop (length_in f * 8) D ≡ fill_of fill (8 * k)
          rest =
              sym (take_all (k * 8) (drop (length_in f * 8) D) (omega (arith, size)))
              ∙ sym (put-rows widths k (length_in f * 8) D (omega (arith, long)))
              ∙ ap (packed_rows widths) (zero-rows k (length_in f * 8) D (λ j b. ap (λ p. field_at p 8 D) (sym (at j)) ∙ z j b))
              ∙ sym (zeros-fill k l)

  pub text-again : frame_with fill coding f.header (text_in f) ≡ bare f
  unfolding characters
  text-again = made_again coding Good faithful fill f inside full (length_in f) (omega (arith, length-le (3 * f.n) (frame_bits f))) fills

-- READ, THEN MADE, all but the pair: the text that stands in the buffer; what is not text is zeros, so there is no fill to ask for
pub text-read-made : (f : Frame) (buffer : List ℕ) (c : ℕ) → length f.words ≡ 31 → read_text f buffer ≡ count.Of c
    → make_text f.header (take c (buffer_after f buffer)) ≡ done_made (bare f)
unfolding make_text read_text buffer_after
text-read-made f buffer c full e =
    ap (make_text f.header) text-is
    ∙ order-answers refused_made (done_made (frame_with fill coding f.header (text_in f)))
    (make_order layout.Text f.header
    ((wrong_count 90 (length (text_in f)), 12) ∷ (any_of (forbidden (system_of f.header.kind)) (text_in f), 11) ∷ []))
    (header-within f o.0.0, (o.0.1.0, (o.0.1.1.0, (sizes, (o.0.1.1.1.1.0, tt)))))
    ∙ ap done_made (text-again f full o.0.0 n)
  where
    o : NoneApplies (text_order f buffer) × (count.Of (length_in f) ≡ count.Of c)
    o = order-told count.Refused (count.Of (length_in f)) (count.Of c) (λ m. of-apart m c) (text_order f buffer) e

    n : (0 < f.n) × (f.n ≤ 30)
    n = some_words f.n o.0.1.1.1.0

    l : length (text_in f) ≡ length_in f
    l = length-characters (length_in f) (frame_bits f)

    text-is : take c (buffer_after f buffer) ≡ text_in f
    text-is =
        ap₂ take (sym (of-inj (length_in f) c o.1)) (order-answers (λ k. buffer) (text_in f ++ drop (length_in f) buffer) (text_order f buffer) o.0)
        ∙ take_at (text_in f) (drop (length_in f) buffer) (length_in f) l

    sizes : wrong_count 90 (length (text_in f)) ≡ false
    sizes =
        rw (
          ne_eqb (length (text_in f)) 0 (λ z. omega (arith, l, z, n, length-le (3 * f.n) (frame_bits f))),
          le-ltb 90 (length (text_in f)) (omega (arith, l, n, length-le (3 * f.n) (frame_bits f))),
        )
