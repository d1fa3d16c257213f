-- Headed lists, made then read and read then made, over the head and over the entries. No order of checks is looked at, so that a layout may
-- have its own. A layout owes the laws of `Faithful` for its head and for its entries. Assumes nothing.
use mathlib.Core.Path.{◌≡◌, refl, sym, ap, subst, ◌∙◌}
use mathlib.Core.Bool.{Bool, false}
use mathlib.Core.List.{List, [], ◌++◌}
use Prim.Native.Nat.{ℕ, ◌+◌, ◌*◌, ◌/◌, ◌≤◌, ◌<◌}
use native.Mathlib.Omega.{arith}
use lib.ListN.{length, take, drop, get_or, take-append-drop, drop_of_length-le}
use Rattle.bits.specs.Fields.{fields_at, span, packed}
use Rattle.bits.specs.Bits.{bits}
use Rattle.bits.specs.Rows.{fill_of, FillAfter}
use Rattle.bits.proofs.FieldLaws.{fits-fields, length-packed, fields-put, put-fields}
use Rattle.bits.proofs.WordLaws.{length-data}
use Rattle.frame.specs.Frames.{framed, bare, data_words}
use Rattle.frame.specs.Widths.{header_outside, outside}
use Rattle.frame.specs.declared.Header.{Header}
use Rattle.frame.specs.declared.Frame.{Frame}
use Rattle.frame.proofs.FrameLaws.{length-data as length-data-words}
use Rattle.record_fields.specs.Coding.{Coding, frame_bits, entry_after, frame_after, Each}
use Rattle.record_fields.proofs.Faithful.{Faithful}
use Rattle.record_fields.proofs.Headed.{after-n, after-inside, after_front, after-fill, after-entry, entries-after, after-again}

-- what is read of a frame f of a head and of entries: header, head, every entry; it is within its widths, N is worked out, its fill is standard
pub record HeadedReads {H A : Type 0} (hk : Coding H) (k : Coding A) (pattern : ℕ) (h : Header) (a : H) (es : List A) (d : A) (f : Frame) : Type 0 where
  pub header : f.header ≡ h
  pub inside : outside f ≡ false
  pub head : hk.meant (fields_at hk.widths 0 (frame_bits f)) ≡ a
  pub entries : (i : ℕ) → i < length es → entry_after (span hk.widths) k i (frame_bits f) ≡ get_or es i d
  pub n : f.n ≡ (span hk.widths + length es * span k.widths + 23) / 24
  pub fill : FillAfter pattern (span hk.widths + length es * span k.widths) (frame_bits f)

-- the bits of N words
pub frame-long : (f : Frame) → outside f ≡ false → length f.words ≡ 31 → length (frame_bits f) ≡ 24 * f.n
unfolding frame_bits
frame-long f e full = length-data (data_words f) ∙ ap (λ n. 24 * n) (length-data-words f e full)

-- entries that end with a word leave nothing to fill
pub nothing_left : (pattern used : ℕ) (f : Frame) → outside f ≡ false → length f.words ≡ 31 → 24 * f.n ≤ used → FillAfter pattern used (frame_bits f)
unfolding fill_of
nothing_left pattern used f e full l = none ∙ sym (ap (λ bs. take (length bs) (bits 24 pattern)) none)
  where
    none : drop used (frame_bits f) ≡ []
    none = drop_of_length-le (frame_bits f) {i = used} (omega (arith, frame-long f e full))

module _ {H A : Type 0} (hk : Coding H) (k : Coding A) (GoodH : H → Type 0) (Good : A → Type 0) (law_h : Faithful hk GoodH) (law : Faithful k Good)
    (pattern : ℕ) where
  abbrev head_bits : H → List Bool
  head_bits a = packed hk.widths (hk.codes a)

  -- MADE, THEN READ
  module _ (h : Header) (a : H) (es : List A) (d : A) (good_h : GoodH a) (good : Each Good es) (inside : header_outside h ≡ false)
      (room : span hk.widths + length es * span k.widths ≤ 744) where
    abbrev made : Frame
    made = frame_after (head_bits a) pattern k h es

    long : length (head_bits a) ≡ span hk.widths
    long = length-packed hk.widths (hk.codes a)

    header_is : made.header ≡ h
    unfolding frame_after framed
    header_is = refl

    -- the first bits are those of the head, and mean it
    head-is : hk.meant (fields_at hk.widths 0 (frame_bits made)) ≡ a
    head-is =
        ap (λ bs. hk.meant (fields_at hk.widths 0 bs)) split
        ∙ ap hk.meant (fields-put hk.widths (hk.codes a) [] (drop (length (head_bits a)) (frame_bits made)) (law_h.fit-codes a good_h))
        ∙ law_h.meant-codes a good_h
      where
        split : frame_bits made ≡ head_bits a ++ drop (length (head_bits a)) (frame_bits made)
        split =
            sym (take-append-drop (length (head_bits a)) (frame_bits made))
            ∙ ap (λ bs. bs ++ drop (length (head_bits a)) (frame_bits made)) (after_front k (head_bits a) pattern h es)

    pub headed-made : HeadedReads hk k pattern h a es d (frame_after (packed hk.widths (hk.codes a)) pattern k h es)
    headed-made = record {
      header = header_is;
      inside = after-inside k (head_bits a) pattern h es inside (subst (λ m. m + length es * span k.widths ≤ 744) (sym long) room);
      head = head-is;
      entries = λ i l.
          ap (λ o. entry_after o k i (frame_bits made)) (sym long) ∙ after-entry k (head_bits a) pattern Good law h es i d good l;
      n = after-n k (head_bits a) pattern h es ∙ ap (λ m. (m + length es * span k.widths + 23) / 24) long;
      fill = subst (λ m. FillAfter pattern (m + length es * span k.widths) (frame_bits made)) long (after-fill k (head_bits a) pattern h es);
    }

  -- READ, THEN MADE: the frame itself, all but its pair
  pub headed-again : (f : Frame) (a : H) (es : List A) (d : A) → outside f ≡ false → length f.words ≡ 31
      → (span hk.widths + length es * span k.widths + 23) / 24 ≡ f.n
      → FillAfter pattern (span hk.widths + length es * span k.widths) (frame_bits f)
      → hk.meant (fields_at hk.widths 0 (frame_bits f)) ≡ a
      → ((i : ℕ) → i < length es → get_or es i d ≡ entry_after (span hk.widths) k i (frame_bits f))
      → frame_after (packed hk.widths (hk.codes a)) pattern k f.header es ≡ bare f
  headed-again f a es d e full up fill head each =
      ap (λ bs. frame_after bs pattern k f.header es) front
      ∙ ap (frame_after (take (span hk.widths) (frame_bits f)) pattern k f.header)
      (entries-after k Good law pattern f e full (span hk.widths) (length es) up fill d es refl each)
      ∙ after-again k Good law pattern f e full (span hk.widths) (length es) up fill
    where
      front : packed hk.widths (hk.codes a) ≡ take (span hk.widths) (frame_bits f)
      front =
          ap (λ x. packed hk.widths (hk.codes x)) (sym head)
          ∙ ap (packed hk.widths) (law_h.codes-meant _ (fits-fields hk.widths 0 (frame_bits f)))
          ∙ put-fields hk.widths 0 (frame_bits f) (omega (arith, frame-long f e full))
