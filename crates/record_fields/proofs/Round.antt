-- Entries and frames, over the layout: what is made reads back, and what is read, with standard fill, is made again. A list without a
-- head is one whose head has no bits. Assumes nothing.
use mathlib.Core.Path.{◌≡◌, refl, sym, ap, subst, ◌∙◌}
use mathlib.Core.Bool.{Bool, false}
use mathlib.Core.List.{List, [], map}
use Prim.Native.Nat.{ℕ, ◌+◌, ◌*◌, ◌/◌, ◌≤◌, ◌<◌}
use native.Mathlib.Nat.{zero-add}
use lib.ListN.{length, get_or}
use Rattle.bits.specs.Fields.{fields_at, span}
use Rattle.bits.specs.Rows.{rows_at, filled, FillAfter}
use Rattle.frame.specs.Frames.{bare}
use Rattle.frame.specs.Widths.{header_outside, outside}
use Rattle.frame.specs.declared.Header.{Header}
use Rattle.frame.specs.declared.Frame.{Frame}
use Rattle.record_fields.specs.Coding.{Coding, frame_bits, entry_in, entry_after, entry_bits, frame_with, frame_after, Each}
use Rattle.record_fields.proofs.Faithful.{Faithful}
use Rattle.record_fields.proofs.Headed.{after-bits, after-n, after-inside, after-fill, after-entry, entries-after, after-again}

module _ {A : Type 0} (k : Coding A) where
  -- the frame, with no bits before its entries
  bare-head : (pattern : ℕ) (h : Header) (es : List A) → frame_after [] pattern k h es ≡ frame_with pattern k h es
  unfolding frame_with frame_after
  bare-head pattern h es = refl

  pub entry_first : (i : ℕ) (bs : List Bool) → entry_after 0 k i bs ≡ entry_in k i bs
  entry_first i bs = ap (λ o. k.meant (fields_at k.widths o bs)) (zero-add (i * span k.widths))

  module _ (pattern : ℕ) (h : Header) (es : List A) where
    pub made_bits : frame_bits (frame_with pattern k h es) ≡ filled pattern (entry_bits k es)
    made_bits = sym (ap frame_bits (bare-head pattern h es)) ∙ after-bits k [] pattern h es

    pub made-n : (frame_with pattern k h es).n ≡ (length es * span k.widths + 23) / 24
    made-n =
        sym (ap (λ f. f.n) (bare-head pattern h es)) ∙ after-n k [] pattern h es ∙ ap (λ m. (m + 23) / 24) (zero-add (length es * span k.widths))

    pub made_inside : header_outside h ≡ false → length es * span k.widths ≤ 744 → outside (frame_with pattern k h es) ≡ false
    made_inside e l =
        sym (ap outside (bare-head pattern h es))
        ∙ after-inside k [] pattern h es e (subst (λ m. m ≤ 744) (sym (zero-add (length es * span k.widths))) l)

    pub made-fill : FillAfter pattern (length es * span k.widths) (frame_bits (frame_with pattern k h es))
    made-fill =
        subst (λ f. FillAfter pattern (length es * span k.widths) (frame_bits f)) (bare-head pattern h es)
        (subst (λ m. FillAfter pattern m (frame_bits (frame_after [] pattern k h es))) (zero-add (length es * span k.widths))
        (after-fill k [] pattern h es))

  module _ (Good : A → Type 0) (law : Faithful k Good) where
    -- MADE, THEN READ: each entry is back
    pub made-entry : (pattern : ℕ) (h : Header) (es : List A) (i : ℕ) (d : A) → Each Good es → i < length es
        → entry_in k i (frame_bits (frame_with pattern k h es)) ≡ get_or es i d
    made-entry pattern h es i d g l =
        sym (ap (λ f. entry_in k i (frame_bits f)) (bare-head pattern h es))
        ∙ sym (entry_first i (frame_bits (frame_after [] pattern k h es)))
        ∙ after-entry k [] pattern Good law h es i d g l

    -- READ, THEN MADE
    module _ (pattern : ℕ) (f : Frame) (e : outside f ≡ false) (full : length f.words ≡ 31) (c : ℕ)
        (up : (c * span k.widths + 23) / 24 ≡ f.n) (fill : FillAfter pattern (c * span k.widths) (frame_bits f)) where
      up_first : (0 + c * span k.widths + 23) / 24 ≡ f.n
      up_first = ap (λ m. (m + 23) / 24) (zero-add (c * span k.widths)) ∙ up

      fill-first : FillAfter pattern (0 + c * span k.widths) (frame_bits f)
      fill-first = subst (λ m. FillAfter pattern m (frame_bits f)) (sym (zero-add (c * span k.widths))) fill

      abbrev read : List A
      read = map k.meant (rows_at k.widths c 0 (frame_bits f))

      -- entries that read so are all that the bits say
      pub entries-read : (d : A) (es : List A) → length es ≡ c → ((i : ℕ) → i < c → get_or es i d ≡ entry_in k i (frame_bits f)) → es ≡ read
      entries-read d es l each =
          entries-after k Good law pattern f e full 0 c up_first fill-first d es l (λ i h. each i h ∙ sym (entry_first i (frame_bits f)))

      -- and the frame is made again of them, without its pair
      pub made_again : frame_with pattern k f.header read ≡ bare f
      made_again = sym (bare-head pattern f.header read) ∙ after-again k Good law pattern f e full 0 c up_first fill-first
