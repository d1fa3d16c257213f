-- Made then read, and read then made, for every list layout. A layout owes: three laws on its codes, that its range checks for making and
-- for reading agree, and two facts on sizes. Assumes nothing.
use mathlib.Core.Path.{◌≡◌, refl, sym, ap, subst, ◌∙◌}
use mathlib.Core.Bool.{Bool, false}
use mathlib.Core.List.{List, [], ◌∷◌, map}
use Prim.Native.Nat.{ℕ, zero, suc, ◌+◌, ◌*◌, ◌/◌, ◌≤◌, ◌<◌}
use native.Mathlib.Nat.{zero-add}
use native.Mathlib.Omega.{arith}
use lib.ListN.{length, take, get_or, length-take}
use lib.Seq.{get_or-take}
use borrow.Author.Tests.{leb-false}
use Rattle.answer.specs.Order.{NoneApplies}
use Rattle.answer.proofs.OrderLaws.{order-answers, order-told}
use Rattle.bits.specs.Fields.{span, Fit}
use Rattle.bits.specs.Rows.{rows_at, FillAfter}
use Rattle.bits.proofs.FieldLaws.{fits-fields}
use Rattle.frame.specs.Frames.{framed, bare}
use Rattle.frame.specs.Widths.{any_of, outside, late}
use Rattle.frame.specs.declared.Header.{Header}
use Rattle.frame.specs.declared.Frame.{Frame}
use Rattle.frame.specs.declared.Layout.{Layout}
use Rattle.frame.proofs.FrameLaws.{header-within, n_within}
use Rattle.frame.proofs.WidthLaws.{both_false}
use Rattle.record_fields.specs.Coding.{Coding, frame_bits, entry_in, frame_with, Each}
use Rattle.record_fields.proofs.Round.{made-n, made_inside, made-fill, made-entry, entries-read, made_again}
use Rattle.record_fields.proofs.Faithful.{Faithful, Fine}
use Rattle.record_stages.specs.declared.Count.TheVariants as count
use Rattle.record_stages.specs.Stages.{wrong_count, other_layout, entries_held, misfit, read_order, entry_order, make_order, refused_made, done_made}
use Rattle.record_stages.specs.Lists.{list_count, list_ranged, list_made, held_to, MadeReads, Sendable, Holding, ListRead}
use Rattle.record_stages.proofs.ListCode.{fitting-after, some-few}
use Rattle.record_stages.proofs.StageLaws.{last-fine, done-frame, of-apart, of-inj}
use Rattle.record_laws.proofs.SentLaws.{frame-for, none-taken, list-made, list-told, list_read}

-- what every value has, each entry has
pub each-any : {A : Type 0} (P : A → Type 0) → ((e : A) → P e) → (es : List A) → Each P es
each-any P p [] = tt
each-any P p (e ∷ es) = (p e, each-any P p es)

pub each_at : {A : Type 0} (P : A → Type 0) (es : List A) (i : ℕ) (d : A) → Each P es → i < length es → P (get_or es i d)
each_at P [] i d p h = absurd (omega arith)
each_at P (e ∷ es) zero d p h = p.0
each_at P (e ∷ es) (suc i) d p h = each_at P es i d p.1 (omega arith)

-- what a count that is read says: no stage refused, and N words hold c entries
pub record CountRead {A : Type 0} (asked : Layout) (k : Coding A) (f : Frame) (c : ℕ) : Type 0 where
  pub inside : outside f ≡ false
  pub same : other_layout asked f.header.kind ≡ false
  pub hour : late f.header.z ≡ false
  pub held : entries_held (span k.widths) f.n ≡ c
  pub some : 0 < c
  pub up : (c * span k.widths + 23) / 24 ≡ f.n

pub count-read : {A : Type 0} (asked : Layout) (k : Coding A) (f : Frame) (c : ℕ) → list_count asked k f ≡ count.Of c → CountRead asked k f c
count-read asked k f c e = record { inside = t.0.0; same = t.0.1.0; hour = t.0.1.1.0; held = held; some = fit.0; up = fit.1 }
  where
    w : ℕ
    w = span k.widths

    t : NoneApplies (read_order asked f (misfit w f.n) []) × (count.Of (entries_held w f.n) ≡ count.Of c)
    t = order-told count.Refused (count.Of (entries_held w f.n)) (count.Of c) (λ m. of-apart m c) (read_order asked f (misfit w f.n) []) e

    held : entries_held w f.n ≡ c
    held = of-inj (entries_held w f.n) c t.1

    fit : (0 < c) × ((c * w + 23) / 24 ≡ f.n)
    fit =
        let s = fitting-after 0 w f.n t.0.1.1.1.0 in
        subst (λ m. (0 < m) × ((m * w + 23) / 24 ≡ f.n)) held
        (s.some, sym (ap (λ m. (m + 23) / 24) (zero-add (entries_held w f.n * w))) ∙ s.up)

-- and what is read held a list
pub list_held : {A : Type 0} (asked : Layout) (k : Coding A) (most : ℕ) → ((n : ℕ) → n ≤ 31 → entries_held (span k.widths) n ≤ most)
    → (f : Frame) (c : ℕ) → list_count asked k f ≡ count.Of c → Holding asked k most f c
list_held asked k most bounded f c e = record {
  frame = record {
    inside = r.inside;
    kind = r.same;
    hour = leb-false 6000 f.header.z r.hour;
  };
  some = r.some;
  few = subst (λ m. m ≤ most) r.held (bounded f.n (n_within f r.inside));
  n = sym r.up;
}
  where
    r : CountRead asked k f c
    r = count-read asked k f c e

-- entries of their types that no check refuses
pub each-fine : {A : Type 0} (out : A → Bool) (Typed : A → Type 0) (es : List A) → Each Typed es → any_of out es ≡ false → Each (Fine Typed out) es
each-fine out Typed [] t e = tt
each-fine out Typed (x ∷ es) t e =
    let s = both_false (out x) (any_of out es) e in ((t.0, s.0), each-fine out Typed es t.1 s.1)

-- `out` refuses an entry when making and `reads` when reading; a layout without a range for reading has `λ e. false`
module _ {A B : Type 0} (asked : Layout) (k : Coding A) (pattern most : ℕ) (out reads : A → Bool) (refuse : ℕ → B) (entry : A → B)
    (Typed : A → Type 0) (law : Faithful k (Fine Typed out))
    (sized : (c : ℕ) → 0 < c → c ≤ most → (c * span k.widths ≤ 744) × (entries_held (span k.widths) ((c * span k.widths + 23) / 24) ≡ c)) where
  abbrev Reads : Header → List A → ℕ → A → Frame → Type 0
  Reads = MadeReads k pattern (list_count asked k) (list_ranged asked k reads refuse entry) entry

  module _ (sent-reads : (e : A) → Typed e → out e ≡ false → reads e ≡ false) where
    module _ (h : Header) (es : List A) (c : ℕ) (d : A) (typed : Each Typed (take c es)) (s : Sendable asked most (λ e. out e ≡ false) h es c d) where
      abbrev made : Frame
      made = frame_with pattern k h (take c es)

      abbrev w : ℕ
      w = span k.widths

      size : length (take c es) ≡ c
      size = omega (arith, length-take c es, s.there)

      header_is : made.header ≡ h
      unfolding frame_with framed
      header_is = refl

      n-is : made.n ≡ (c * w + 23) / 24
      n-is = made-n k pattern h (take c es) ∙ ap (λ m. (m * w + 23) / 24) size

      within : outside made ≡ false
      within = made_inside k pattern h (take c es) s.header.inside (subst (λ m. m * w ≤ 744) (sym size) (sized c s.some s.few).0)

      -- the frame holds the list, so its count and entries are read
      reading : ListRead k (list_count asked k) (list_ranged asked k reads refuse entry) (held_to reads refuse entry) made c
      reading =
          list_read asked k most reads refuse entry (λ m l h. (sized m l h).1) made c
          record { frame = frame-for asked made h header_is within s.header; some = s.some; few = s.few; n = n-is }

      fines : Each (Fine Typed out) (take c es)
      fines = each-fine out Typed (take c es) typed (none-taken out es c d s.ranges)

      entry-is : (i : ℕ) → i < c → entry_in k i (frame_bits made) ≡ get_or es i d
      entry-is i l = made-entry k (Fine Typed out) law pattern h (take c es) i d fines (omega (arith, size)) ∙ get_or-take c es i d l

      passes : (i : ℕ) → i < c → reads (get_or es i d) ≡ false
      passes i l =
          let g = each_at (Fine Typed out) (take c es) i d fines (omega (arith, size)) in
          ap reads (sym (get_or-take c es i d l)) ∙ sent-reads (get_or (take c es) i d) g.0 g.1

      made_reads : Reads h es c d made
      made_reads = record {
        header = header_is;
        inside = within;
        counts = reading.counts;
        entries = λ i l.
            reading.entries i l ∙ ap (held_to reads refuse entry) (entry-is i l)
            ∙ sym (last-fine refuse (entry (get_or es i d)) (reads (get_or es i d)) 10 (passes i l));
        n = n-is;
        fill = subst (λ m. FillAfter pattern (m * w) (frame_bits made)) size (made-fill k pattern h (take c es));
      }

    -- MADE, THEN READ
    pub made-then-read : (h : Header) (es : List A) (c : ℕ) (d : A) (f : Frame) → c ≤ length es → Each Typed (take c es)
        → list_made asked k pattern most out h es c ≡ done_made f → Reads h es c d f
    made-then-read h es c d f long typed e =
        let s = list-told asked k pattern most out (λ x. out x ≡ false) (λ x o. o) h es c d f long e in
        subst (Reads h es c d)
        (done-frame (sym (list-made asked k pattern most out (λ x. out x ≡ false) (λ x o. o) h es c d s) ∙ e)) (made_reads h es c d typed s)

  -- READ, THEN MADE, all but the pair: what was read passed its range for reading, and the widths say the rest
  module _ (read-fine : (vs : List ℕ) → Fit k.widths vs → reads (k.meant vs) ≡ false → out (k.meant vs) ≡ false)
      (bounded : (n : ℕ) → n ≤ 31 → entries_held (span k.widths) n ≤ most)
      (refuse-apart : (n : ℕ) (e : A) → refuse n ≡ entry e → ⊥) (entry-inj : (a b : A) → entry a ≡ entry b → a ≡ b) where
    pub read-then-made : (f : Frame) (es : List A) (c : ℕ) (d : A) → length f.words ≡ 31 → c ≤ length es
        → list_count asked k f ≡ count.Of c → ((i : ℕ) → i < c → list_ranged asked k reads refuse entry f i ≡ entry (get_or es i d))
        → FillAfter pattern (c * span k.widths) (frame_bits f)
        → list_made asked k pattern most out f.header es c ≡ done_made (bare f)
    read-then-made f es c d full long n e fill =
        order-answers refused_made _ (make_order asked f.header ((wrong_count most c, 12) ∷ (any_of out (take c es), 10) ∷ []))
        (header-within f r.inside, (r.same, (r.hour, (count_fits, (none-taken out es c d fine, tt)))))
        ∙ ap (λ l. done_made (frame_with pattern k f.header l)) same
        ∙ ap done_made (made_again k (Fine Typed out) law pattern f r.inside full c r.up fill)
      where
        r : CountRead asked k f c
        r = count-read asked k f c n

        count_fits : wrong_count most c ≡ false
        count_fits = some-few c most r.some (subst (λ m. m ≤ most) r.held (bounded f.n (n_within f r.inside)))

        -- entry number i of the frame's bits passed the check, and is the one that was read
        given : ℕ → A
        given i = entry_in k i (frame_bits f)

        told : (i : ℕ) → i < c → NoneApplies (entry_order asked (span k.widths) f i ((reads (given i), 10) ∷ [])) × (entry (given i) ≡ entry (get_or es i d))
        told i h =
            order-told refuse (entry (given i)) (entry (get_or es i d)) (λ m. refuse-apart m (get_or es i d))
            (entry_order asked (span k.widths) f i ((reads (given i), 10) ∷ [])) (e i h)

        is : (i : ℕ) → i < c → get_or es i d ≡ given i
        is i h = sym (entry-inj (given i) (get_or es i d) (told i h).1)

        fine : (i : ℕ) → i < c → out (get_or es i d) ≡ false
        fine i h =
            ap out (is i h)
            ∙ read-fine _ (fits-fields k.widths (i * span k.widths) (frame_bits f)) (told i h).0.1.1.1.1.1.0

        same : take c es ≡ map k.meant (rows_at k.widths c 0 (frame_bits f))
        same =
            entries-read k (Fine Typed out) law pattern f r.inside full c r.up fill d (take c es) (omega (arith, length-take c es))
            (λ i h. get_or-take c es i d h ∙ is i h)
