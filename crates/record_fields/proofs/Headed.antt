-- Entries behind the bits of a head, over the layout and over the head: what is made reads back, and what is read, with standard fill, is made
-- again. A layout owes the three laws of `Faithful` on its codes. Assumes nothing.
use mathlib.Core.Path.{◌≡◌, refl, sym, ap, ap₂, ◌∙◌}
use mathlib.Core.Bool.{Bool, false}
use mathlib.Core.List.{List, [], ◌∷◌, ◌++◌, map, append_assoc}
use Prim.Native.Nat.{ℕ, zero, suc, ◌+◌, ◌*◌, ◌-◌, ◌/◌, ◌%◌, ◌≤◌, ◌<◌}
use native.Mathlib.Omega.{arith}
use lib.ListN.{length, take, drop, get_or, length-take, length-drop, length-map, length-append, take-append-drop}
use lib.Seq.{drop_at, take_at, take-add, ext_get_or}
use Rattle.bits.specs.Fields.{span}
use Rattle.bits.specs.Rows.{data_bits, cut_words, packed_rows, rows_at, fill_of, filled, words_in, FillAfter}
use Rattle.bits.proofs.RowLaws.{rows-put, put-rows, fits-rows, length-rows-at, rows-at}
use Rattle.bits.proofs.WordLaws.{length-data, length-words, length-fill, data-words_in}
use Rattle.frame.specs.Frames.{framed, bare, data_words}
use Rattle.frame.specs.Widths.{header_outside, outside}
use Rattle.frame.specs.declared.Header.{Header}
use Rattle.frame.specs.declared.Frame.{Frame}
use Rattle.frame.proofs.FrameLaws.{data-framed, framed-inside, framed-again, words-below, below-take, length-data as length-data-words}
use Rattle.record_fields.specs.Coding.{Coding, frame_bits, entry_after, rows_of, entry_bits, frame_after, Each}
use Rattle.record_fields.proofs.Words.{below-cut, words-data}
use Rattle.record_fields.proofs.Faithful.{Faithful, fill-left, length-entries, fit-rows, row_of, rows-meant}

module _ {A : Type 0} (k : Coding A) (front : List Bool) (pattern : ℕ) where
  abbrev w : ℕ
  w = span k.widths

  module _ (h : Header) (es : List A) where
    abbrev bits : List Bool
    bits = front ++ entry_bits k es

    after-length : length (front ++ entry_bits k es) ≡ length front + length es * span k.widths
    after-length = length-append front (entry_bits k es) ∙ ap (λ n. length front + n) (length-entries k es)

    pub after-bits : frame_bits (frame_after front pattern k h es) ≡ filled pattern (front ++ entry_bits k es)
    unfolding frame_bits frame_after
    after-bits = ap data_bits (data-framed h (words_in pattern (front ++ entry_bits k es))) ∙ data-words_in pattern (front ++ entry_bits k es)

    pub after-n : (frame_after front pattern k h es).n ≡ (length front + length es * span k.widths + 23) / 24
    unfolding frame_after framed words_in
    after-n =
        length-words ((length (front ++ entry_bits k es) + 23) / 24) (filled pattern (front ++ entry_bits k es))
        ∙ ap (λ n. (n + 23) / 24) after-length

    pub after-inside : header_outside h ≡ false → length front + length es * span k.widths ≤ 744 → outside (frame_after front pattern k h es) ≡ false
    unfolding frame_after words_in
    after-inside e l =
        framed-inside h (words_in pattern (front ++ entry_bits k es)) e (below-cut N (filled pattern (front ++ entry_bits k es)))
        (omega (arith, length-words N (filled pattern (front ++ entry_bits k es)), after-length))
      where
        N : ℕ
        N = (length (front ++ entry_bits k es) + 23) / 24

    -- THE HEAD is back
    pub after_front : take (length front) (frame_bits (frame_after front pattern k h es)) ≡ front
    unfolding filled
    after_front =
        ap (take (length front)) (after-bits ∙ append_assoc front (entry_bits k es) (fill_of pattern ((24 - length (front ++ entry_bits k es) % 24) % 24)))
        ∙ take_at front (entry_bits k es ++ fill_of pattern ((24 - length (front ++ entry_bits k es) % 24) % 24)) (length front) refl

    pub after-fill : FillAfter pattern (length front + length es * span k.widths) (frame_bits (frame_after front pattern k h es))
    unfolding filled
    after-fill =
        ap (drop (length front + length es * span k.widths)) after-bits ∙ rest
        ∙ ap (fill_of pattern)
        (sym (ap (λ bs. length (drop (length front + length es * span k.widths) bs)) after-bits ∙ ap length rest ∙ length-fill pattern size (omega arith)))
      where
        size : ℕ
        size = (24 - length (front ++ entry_bits k es) % 24) % 24

        rest : drop (length front + length es * span k.widths) ((front ++ entry_bits k es) ++ fill_of pattern size) ≡ fill_of pattern size
        rest = drop_at (front ++ entry_bits k es) (fill_of pattern size) (length front + length es * span k.widths) after-length

  module _ (Good : A → Type 0) (law : Faithful k Good) where
    -- MADE, THEN READ: each entry is back
    pub after-entry : (h : Header) (es : List A) (i : ℕ) (d : A) → Each Good es → i < length es
        → entry_after (length front) k i (frame_bits (frame_after front pattern k h es)) ≡ get_or es i d
    unfolding entry_bits filled
    after-entry h es i d g l =
        ap (entry_after (length front) k i)
        (after-bits h es ∙ append_assoc front (entry_bits k es) (fill_of pattern ((24 - length (front ++ entry_bits k es) % 24) % 24)))
        ∙ ap k.meant
        (rows-put k.widths (rows_of k es) front (fill_of pattern ((24 - length (front ++ entry_bits k es) % 24) % 24)) (fit-rows k Good law es g) i
        (omega (arith, length-map es k.codes)))
        ∙ row_of k Good law es i d l g

-- READ, THEN MADE: the head is the first o bits
module _ {A : Type 0} (k : Coding A) (Good : A → Type 0) (law : Faithful k Good) (pattern : ℕ) (f : Frame) (e : outside f ≡ false)
    (full : length f.words ≡ 31) (o c : ℕ) (up : (o + c * span k.widths + 23) / 24 ≡ f.n)
    (fill : FillAfter pattern (o + c * span k.widths) (frame_bits f)) where
  long : length (frame_bits f) ≡ 24 * f.n
  unfolding frame_bits
  long = length-data (data_words f) ∙ ap (λ n. 24 * n) (length-data-words f e full)

  abbrev read : List A
  read = map k.meant (rows_at k.widths c o (frame_bits f))

  -- entries that read so are all that the bits say
  pub entries-after : (d : A) (es : List A) → length es ≡ c → ((i : ℕ) → i < c → get_or es i d ≡ entry_after o k i (frame_bits f)) → es ≡ read
  entries-after d es l each =
      ext_get_or d es read (l ∙ sym (length-map (rows_at k.widths c o (frame_bits f)) k.meant ∙ length-rows-at k.widths c o (frame_bits f)))
      (λ i h. at i (omega arith))
    where
      mapped : (rs : List (List ℕ)) (i : ℕ) → i < length rs → get_or (map k.meant rs) i d ≡ k.meant (get_or rs i [])
      mapped [] i h = absurd (omega arith)
      mapped (r ∷ rs) zero h = refl
      mapped (r ∷ rs) (suc i) h = mapped rs i (omega arith)

      at : (i : ℕ) → i < c → get_or es i d ≡ get_or read i d
      at i h =
          each i h ∙ ap k.meant (sym (rows-at k.widths c o i (frame_bits f) h))
          ∙ sym (mapped (rows_at k.widths c o (frame_bits f)) i (omega (arith, length-rows-at k.widths c o (frame_bits f))))

  abbrev head : List Bool
  head = take o (frame_bits f)

  head-long : length (take o (frame_bits f)) ≡ o
  head-long = omega (arith, length-take o (frame_bits f), long)

  -- the bits of the head and of what is read are the first of the frame
  bits-front : head ++ entry_bits k read ≡ take (o + c * span k.widths) (frame_bits f)
  unfolding entry_bits
  bits-front =
      ap (λ bs. take o (frame_bits f) ++ bs)
      (ap (packed_rows k.widths) (rows-meant k Good law (rows_at k.widths c o (frame_bits f)) (fits-rows k.widths c o (frame_bits f)))
      ∙ put-rows k.widths c o (frame_bits f) (omega (arith, long)))
      ∙ sym (take-add o (c * span k.widths) (frame_bits f))

  -- filled, they are all of them
  bits-again : filled pattern (head ++ entry_bits k read) ≡ frame_bits f
  unfolding filled
  bits-again =
      ap (λ bs. bs ++ fill_of pattern ((24 - length bs % 24) % 24)) bits-front
      ∙ ap (λ bs. take (o + c * span k.widths) (frame_bits f) ++ bs) (ap (fill_of pattern) size ∙ sym fill)
      ∙ take-append-drop (o + c * span k.widths) (frame_bits f)
    where
      taken : length (take (o + c * span k.widths) (frame_bits f)) ≡ o + c * span k.widths
      taken = omega (arith, length-take (o + c * span k.widths) (frame_bits f), long)

      size : (24 - length (take (o + c * span k.widths) (frame_bits f)) % 24) % 24 ≡ length (drop (o + c * span k.widths) (frame_bits f))
      size =
          ap (λ m. (24 - m % 24) % 24) taken ∙ fill-left (o + c * span k.widths)
          ∙ omega-left ∙ sym (length-drop (o + c * span k.widths) (frame_bits f))
        where
          omega-left : 24 * ((o + c * span k.widths + 23) / 24) - (o + c * span k.widths) ≡ length (frame_bits f) - (o + c * span k.widths)
          omega-left = omega (arith, long)

  words-again : cut_words f.n (frame_bits f) ≡ data_words f
  unfolding frame_bits
  words-again =
      ap (λ n. cut_words n (data_bits (data_words f))) (sym (length-data-words f e full))
      ∙ words-data (data_words f) (below-take f.n f.words (words-below f e))

  -- and so is the frame, without its pair
  pub after-again : frame_after head pattern k f.header read ≡ bare f
  unfolding frame_after words_in
  after-again =
      ap₂ (λ n bs. framed f.header (cut_words n bs)) count bits-again
      ∙ ap (framed f.header) words-again ∙ framed-again f e full
    where
      count : (length (head ++ entry_bits k read) + 23) / 24 ≡ f.n
      count =
          ap (λ m. (m + 23) / 24)
          (length-append head (entry_bits k read)
          ∙ ap₂ ◌+◌ head-long
          (length-entries k read
          ∙ ap (λ m. m * span k.widths)
          (length-map (rows_at k.widths c o (frame_bits f)) k.meant ∙ length-rows-at k.widths c o (frame_bits f))))
          ∙ up
