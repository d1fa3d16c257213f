-- Types 16 and 36: what can be sent is made, and made then read. Assumes nothing.
use mathlib.Core.Path.{◌≡◌, refl, sym, ap, subst, ◌∙◌}
use mathlib.Core.Bool.{false}
use mathlib.Core.List.{List, [], ◌∷◌, ◌++◌, append-nil}
use Prim.Native.Nat.{ℕ, ◌+◌, ◌*◌, ◌-◌, ◌/◌, ◌%◌, ◌≤◌, ◌<◌}
use native.Mathlib.Omega.{arith}
use lib.ListN.{length, get_or, replicate, length-map, length-replicate}
use Rattle.answer.specs.Order.{Check, NoneApplies}
use Rattle.answer.proofs.OrderLaws.{order-answers, order-told}
use Rattle.bits.specs.Fields.{fields_at}
use Rattle.bits.specs.Rows.{packed_rows, fill_of, filled}
use Rattle.bits.proofs.RowLaws.{rows-put}
use Rattle.frame.specs.Frames.{framed}
use Rattle.frame.specs.Widths.{any_of, outside}
use Rattle.frame.specs.declared.Header.{Header}
use Rattle.frame.specs.declared.Frame.{Frame}
use Rattle.frame.specs.declared.Layout.TheVariants as layout
use Rattle.frame.specs.Layout.{system_of}
use Rattle.record_fields.specs.Coding.{frame_bits, entry_in, rows_of, entry_bits, frame_with}
use Rattle.record_fields.proofs.Faithful.{fill-left, length-entries}
use Rattle.record_fields.proofs.Round.{made_bits, made-n, made_inside, made-fill, made-entry}
use Rattle.record_stages.specs.Stages.{wrong_count, make_order, refused_made, done_made, IsMade}
use Rattle.record_stages.proofs.StageLaws.{done-apart, done-frame}
use Rattle.record_stages.proofs.ListCode.{some-few, told-some-few}
use Rattle.record_texts.specs.Texts.{widths, meant, codes, coding, fill, characters, forbidden, make_text, TextMade, Allowed, SendableText, HoldsText}
use Rattle.record_laws.proofs.SentLaws.{make-passes, make-passed, frame-for}
use Rattle.record_laws.proofs.TextHeld.{allowed-fine, allowed-told, characters-are, characters-zeros, text-read}
use Rattle.record_laws.proofs.TextLaws.{Good, faithful, all-good, zeros-fit, zeros-at, zeros-fill}

abbrev made : Header → List ℕ → Frame
made h t = frame_with fill coding h t

module _ (h : Header) (t : List ℕ) where
  -- the checks of making after 7
  abbrev checks : List Check
  checks = (wrong_count 90 (length t), 12) ∷ (any_of (forbidden (system_of h.kind)) t, 11) ∷ []

  told : (f : Frame) → make_text h t ≡ done_made f → NoneApplies (make_order layout.Text h checks) × (done_made (made h t) ≡ done_made f)
  unfolding make_text
  told f e = order-told refused_made (done_made (made h t)) (done_made f) (λ n. done-apart n f) (make_order layout.Text h checks) e

  -- only what can be sent is made
  pub text-told : (f : Frame) → make_text h t ≡ done_made f → SendableText h t
  text-told f e =
      let o = (told f e).0 in
      let s = told-some-few (length t) 90 o.1.1.1.0 in
      record {
        header = make-passed layout.Text h checks o;
        some = s.0;
        few = s.1;
        allowed = allowed-told (system_of h.kind) t o.1.1.1.1.0;
      }

module _ (h : Header) (t : List ℕ) (s : SendableText h t) where
  header_is : (made h t).header ≡ h
  unfolding frame_with framed
  header_is = refl

  right : any_of (forbidden (system_of h.kind)) t ≡ false
  right = allowed-fine (system_of h.kind) t s.allowed

  n-is : (made h t).n ≡ (length t * 8 + 23) / 24
  n-is = made-n coding fill h t

  at-text : (i : ℕ) → i < length t → entry_in coding i (frame_bits (made h t)) ≡ get_or t i 0
  at-text i l = made-entry coding Good faithful fill h t i 0 (all-good (system_of h.kind) t right) l

  at_fill : (k j : ℕ) → 3 * (made h t).n ≡ length t + k → k ≤ 2 → j < k → entry_in coding (length t + j) (frame_bits (made h t)) ≡ 0
  unfolding filled
  at_fill k j e l b =
      ap (entry_in coding (length t + j)) bits_are
      ∙ ap (λ o. meant (fields_at widths o (entry_bits coding t ++ (packed_rows widths (rows_of coding (replicate k 0)) ++ [])))) start
      ∙ ap meant
      (rows-put widths (rows_of coding (replicate k 0)) (entry_bits coding t) [] (zeros-fit k) j
      (omega (arith, length-map (replicate k 0) codes, length-replicate {A = ℕ} k 0)) ∙ zeros-at k j b)
    where
      size : (24 - length (entry_bits coding t) % 24) % 24 ≡ 8 * k
      size = ap (λ m. (24 - m % 24) % 24) (length-entries coding t) ∙ fill-left (length t * 8) ∙ left
        where
          left : 24 * ((length t * 8 + 23) / 24) - length t * 8 ≡ 8 * k
          left = omega (arith, n-is)

      start : (length t + j) * 8 ≡ length (entry_bits coding t) + j * 8
      start = omega (arith, length-entries coding t)

      bits_are : frame_bits (made h t) ≡ entry_bits coding t ++ (packed_rows widths (rows_of coding (replicate k 0)) ++ [])
      bits_are =
          made_bits coding fill h t
          ∙ ap (λ bs. entry_bits coding t ++ bs)
          (ap (fill_of fill) size ∙ zeros-fill k l ∙ sym (append-nil (packed_rows widths (rows_of coding (replicate k 0)))))

  -- the zeros that close the last word
  abbrev zeros : ℕ
  zeros = 3 * (made h t).n - length t

  size : 3 * (made h t).n ≡ length t + zeros
  size = omega (arith, n-is)

  two : zeros ≤ 2
  two = omega (arith, n-is)

  within : outside (made h t) ≡ false
  within = made_inside coding fill h t s.header.inside (omega (arith, s.few))

  -- the frame holds the text
  holds : HoldsText (made h t) t zeros
  holds = record {
    frame = frame-for layout.Text (made h t) h header_is within s.header;
    some = omega (arith, n-is, s.some);
    few = omega (arith, n-is, s.few);
    zeros = two;
    says = ap (λ m. characters m (frame_bits (made h t))) size
        ∙ characters-zeros (length t) zeros (frame_bits (made h t)) (λ j l. at_fill zeros j size two l)
        ∙ ap (λ cs. cs ++ replicate zeros 0) (characters-are t (frame_bits (made h t)) at-text);
    allowed = subst (λ (x : Header). Allowed (system_of x.kind) t) (sym header_is) s.allowed;
  }

  made_reads : TextMade h t (made h t)
  made_reads = record {
    header = header_is;
    inside = within;
    reads = (text-read (made h t) t zeros holds).reads;
    writes = (text-read (made h t) t zeros holds).writes;
    n = n-is;
    fills = made-fill coding fill h t;
  }

  -- SENT: what can be sent is made, not refused, and reads back
  pub text-sent : IsMade (make_text h t) (TextMade h t)
  unfolding make_text
  text-sent = record {
    frame = made h t;
    done = order-answers refused_made (done_made (made h t)) (make_order layout.Text h (checks h t))
        (make-passes layout.Text h (checks h t) s.header (some-few (length t) 90 s.some s.few, (right, tt)));
    reads = made_reads;
  }

-- MADE, THEN READ
pub text-made-read : (h : Header) (t : List ℕ) (f : Frame) → make_text h t ≡ done_made f → TextMade h t f
text-made-read h t f e = subst (TextMade h t) (done-frame (told h t f e).1) (made_reads h t (text-told h t f e))
