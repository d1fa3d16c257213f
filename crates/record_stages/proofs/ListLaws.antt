-- LIST LAYOUTS, ONCE FOR ALL: an entry that is placed is the layout's entry, a refusal is its refusal, and a frame that is made of rows is
-- the layout's frame. Assumes nothing.
use mathlib.Core.Path.{◌≡◌, refl, sym, ap, ap₂, subst, ◌∙◌}
use mathlib.Core.Bool.{Bool, true, false, ◌||◌}
use mathlib.Core.List.{List, [], ◌∷◌, map}
use Prim.Native.Nat.{ℕ, zero, suc, ◌+◌, ◌*◌, ◌-◌, ◌/◌, ◌≤◌, ◌<◌}
use native.Mathlib.Nat.{suc-mul, zero-div, mul-le-mul_right}
use native.Mathlib.Omega.{arith}
use lib.Dec.{leb}
use lib.ListN.{length, take, length-take}
use borrow.Author.Tests.{leb-false}
use Rattle.answer.specs.Order.{Check, in_order, NoneApplies}
use Rattle.answer.proofs.OrderLaws.{order-map, order-append, order-told}
use Rattle.bits.specs.Fields.{fields_at, span}
use Rattle.bits.specs.Rows.{data_bits}
use Rattle.frame.specs.Widths.{any_of, outside}
use Rattle.frame.specs.declared.Header.{Header}
use Rattle.frame.specs.declared.Frame.{Frame}
use Rattle.frame.specs.declared.Layout.{Layout}
use Rattle.frame.proofs.FrameLaws.{n_within}
use Rattle.record_fields.specs.declared.Packer.{Packer}
use Rattle.record_fields.specs.declared.Rows.{Rows}
use Rattle.record_fields.specs.Packing.{pushed_all, pushed_rows}
use Rattle.record_fields.specs.Tables.{row_out, no_rows, put_rows}
use Rattle.record_fields.specs.Coding.{Coding, frame_bits, entry_in, entry_after, rows_of, frame_with, frame_after}
use Rattle.record_fields.proofs.Holds.{Narrow, Ready, empty_holds}
use Rattle.record_fields.proofs.TableLaws.{rows-put}
use Rattle.record_fields.proofs.Round.{entry_first}
use Rattle.record_fields.proofs.Making.{fields-frame, packed-after}
use Rattle.record_stages.specs.declared.Place.{Place}
use Rattle.record_stages.specs.declared.Place.TheVariants as place
use Rattle.record_stages.specs.declared.Made.{Made}
use Rattle.record_stages.specs.Stages.{held_after, misfit_after, wrong_count, headed_order, place_after, made_order, made_by, refused_made, done_made}
use Rattle.record_stages.specs.Lists.{list_ranged}
use Rattle.record_stages.proofs.StageLaws.{last-wrong, last-fine}
use Rattle.record_stages.proofs.ListCode.{held-le, fitting-after, told-some-few}

-- ---- READING

-- an entry below the count of N words lies in them
pub entry-room : (h w n i : ℕ) → h ≤ 24 * n → leb (held_after h w n) i ≡ false → h + i * w + w ≤ 24 * n
entry-room h w n i l e =
    omega (arith, held-le h w n, suc-mul i w, mul-le-mul_right {m = suc i} {n = held_after h w n} w (leb-false (held_after h w n) i e))

-- and where there are entries, there is a head
pub head-room : (h w n : ℕ) → misfit_after h w n ≡ false → h ≤ 24 * n
head-room h w n e = le-of-some h w n (fitting-after h w n e).some
  where
    some_left : (m w : ℕ) → 0 < m / w → 0 < m
    some_left zero w s = absurd (omega (arith, s, zero-div w))
    some_left (suc m) w s = omega arith

    le-of-some : (h w n : ℕ) → 0 < held_after h w n → h ≤ 24 * n
    le-of-some h w n s = omega (arith, some_left (24 * n - h) w s)

abbrev on_place : {B : Type 0} → (ℕ → B) → B → Place → B
on_place refuse answer (place.At o) = answer
on_place refuse answer (place.Refused n) = refuse n

module _ (l : Layout) (h w : ℕ) (f : Frame) (i : ℕ) (s : Place) (is : s ≡ place_after l h w f i) where
  -- a refusal is the layout's, and so is what it checks after 9
  module _ {B : Type 0} (more : List Check) (refuse : ℕ → B) (answer : B) where
    after-place : in_order (headed_order l h w f i more) refuse answer ≡ on_place refuse (in_order more refuse answer) s
    after-place =
        order-append (headed_order l h w f i []) more refuse answer
        ∙ sym (order-map (on_place refuse (in_order more refuse answer)) (headed_order l h w f i []) place.Refused (place.At (h + i * w)))
        ∙ ap (on_place refuse (in_order more refuse answer)) (sym is)

    pub not-placed : (n : ℕ) → s ≡ place.Refused n → refuse n ≡ in_order (headed_order l h w f i more) refuse answer
    not-placed n e = sym (after-place ∙ ap (on_place refuse (in_order more refuse answer)) e)

    pub placed_on : (o : ℕ) → s ≡ place.At o → in_order more refuse answer ≡ in_order (headed_order l h w f i more) refuse answer
    placed_on o e = sym (after-place ∙ ap (on_place refuse (in_order more refuse answer)) e)

  -- what is placed lies in the words
  module _ (o : ℕ) (e : s ≡ place.At o) where
    told : NoneApplies (headed_order l h w f i []) × (place.At (h + i * w) ≡ place.At o)
    told = order-told place.Refused (place.At (h + i * w)) (place.At o) apart (headed_order l h w f i []) (sym is ∙ e)
      where
        apart : (n : ℕ) → place.Refused n ≡ place.At o → ⊥
        apart n q = let z : ◌≡◌ {A = ℕ} 0 1 = cc in omega arith

    at-is : h + i * w ≡ o
    at-is = let q = told.1 in cc

    pub placed-inside : outside f ≡ false
    placed-inside = told.0.0

    -- the head too
    pub placed-head : h ≤ 24 * f.n
    placed-head = head-room h w f.n told.0.1.1.1.0

    room : o + w ≤ 24 * f.n
    room = subst (λ n. n + w ≤ 24 * f.n) at-is (entry-room h w f.n i placed-head told.0.1.1.1.1.0)

    pub placed-room : o + w ≤ 744
    placed-room = omega (arith, room, n_within f placed-inside)

    -- its fields are those of the frame's bits
    pub placed-is : {A : Type 0} (k : Coding A) → span k.widths ≡ w → length f.words ≡ 31
        → k.meant (fields_at k.widths o (data_bits f.words)) ≡ entry_after h k i (frame_bits f)
    placed-is k size full =
        ap k.meant (fields-frame k.widths o f placed-inside full (omega (arith, room, size)))
        ∙ ap (λ n. k.meant (fields_at k.widths n (frame_bits f))) (sym at-is ∙ ap (λ n. h + i * n) (sym size))

-- AN ENTRY BY NUMBER is the layout's: refused, or placed and read there, then held to its range; a layout without a range for reading has
-- `λ x. false` for it
module _ {A B : Type 0} (l : Layout) (k : Coding A) (out : A → Bool) (refuse : ℕ → B) (entry : A → B) (f : Frame) (i : ℕ) (s : Place)
    (is : s ≡ place_after l 0 (span k.widths) f i) where
  abbrev given : A
  given = entry_in k i (frame_bits f)

  abbrev last : List Check
  last = (out given, 10) ∷ []

  pub entry-refused : (n : ℕ) → s ≡ place.Refused n → refuse n ≡ list_ranged l k out refuse entry f i
  entry-refused n e = not-placed l 0 (span k.widths) f i s is last refuse (entry given) n e

  module _ (o : ℕ) (e : s ≡ place.At o) (full : length f.words ≡ 31) (x : A)
      (ex : x ≡ k.meant (fields_at k.widths o (data_bits f.words))) where
    x-is : x ≡ given
    x-is = ex ∙ placed-is l 0 (span k.widths) f i s is o e k refl full ∙ entry_first k i (frame_bits f)

    pub entry-out : out x ≡ true → refuse 10 ≡ list_ranged l k out refuse entry f i
    entry-out t =
        last-wrong refuse (entry given) (out given) 10 (ap out (sym x-is) ∙ t)
        ∙ placed_on l 0 (span k.widths) f i s is last refuse (entry given) o e

    pub entry_read_lem : out x ≡ false → entry x ≡ list_ranged l k out refuse entry f i
    entry_read_lem t =
        ap entry x-is ∙ last-fine refuse (entry given) (out given) 10 (ap out (sym x-is) ∙ t)
        ∙ placed_on l 0 (span k.widths) f i s is last refuse (entry given) o e

-- ---- MAKING

module _ {A : Type 0} (l : Layout) (k : Coding A) (pattern most : ℕ) (out : A → Bool) (numbers : A → List ℕ) (ls ms : List ℕ)
    (same_codes : (e : A) (p : Packer) → pushed_all k.widths (numbers e) p ≡ pushed_all k.widths (k.codes e) p)
    (same_out : (e : A) → row_out ls ms (numbers e) ≡ out e) (narrow : Narrow k.widths) where
  pushed-alike : (es : List A) (p : Packer) → pushed_rows k.widths (map numbers es) p ≡ pushed_rows k.widths (rows_of k es) p
  pushed-alike [] p = refl
  pushed-alike (e ∷ es) p =
      pushed-alike es (pushed_all k.widths (numbers e) p) ∙ ap (pushed_rows k.widths (rows_of k es)) (same_codes e p)

  out-alike : (es : List A) → any_of (row_out ls ms) (map numbers es) ≡ any_of out es
  out-alike [] = refl
  out-alike (e ∷ es) = ap₂ ◌||◌ (same_out e) (out-alike es)

  -- A FRAME MADE of rows behind those of a head is the headed list's frame; of too many entries the rows need not be those
  module _ (first : Rows) (front : List Bool) (ready : Ready first.packer front) (few : length front + most * span k.widths ≤ 744) where
    pub rows-after : (h : Header) (es : List A) (c : ℕ) (r : Rows) (m : Made) → m ≡ made_by l most pattern h c r
        → (wrong_count most c ≡ false → (length es ≤ most) × (r ≡ put_rows k.widths ls ms (map numbers es) first))
        → m ≡ in_order (made_order l most h c (first.out || any_of out es)) refused_made (done_made (frame_after front pattern k h es))
    rows-after h es c r m em er = em ∙ go (wrong_count most c) refl
      where
        go : (b : Bool) → wrong_count most c ≡ b
            → made_by l most pattern h c r
            ≡ in_order (made_order l most h c (first.out || any_of out es)) refused_made (done_made (frame_after front pattern k h es))
        go true e = rw e
        go false e =
            ap (made_by l most pattern h c) rows
            ∙ ap (λ g. in_order (made_order l most h c (first.out || any_of out es)) refused_made (done_made g))
            (packed-after k pattern h es first.packer front _ ready narrow small refl)
          where
            rows : r ≡ record { packer = pushed_rows k.widths (rows_of k es) first.packer; out = first.out || any_of out es }
            rows = (er e).1 ∙ rows-put k.widths ls ms (map numbers es) first
                ∙ ap₂ (λ p b. record { packer = p; out = first.out || b }) (pushed-alike es first.packer) (out-alike es)

            small : length front + length es * span k.widths ≤ 744
            small = omega (arith, few, mul-le-mul_right {m = length es} {n = most} (span k.widths) (er e).0)

    -- of a list, whose entries past the count are not looked at
    pub entries-after : (h : Header) (es : List A) (c : ℕ) (r : Rows) (m : Made) → m ≡ made_by l most pattern h c r
        → r ≡ put_rows k.widths ls ms (map numbers (take c es)) first
        → m ≡ in_order (made_order l most h c (first.out || any_of out (take c es))) refused_made (done_made (frame_after front pattern k h (take c es)))
    entries-after h es c r m em er =
        rows-after h (take c es) c r m em (λ e. (omega (arith, length-take c es, (told-some-few c most e).1), er))

  -- and a list without a head is one whose head has no bits
  module _ (few : most * span k.widths ≤ 744) where
    pub rows_made_lem : (h : Header) (es : List A) (c : ℕ) (r : Rows) (m : Made) → m ≡ made_by l most pattern h c r
        → (wrong_count most c ≡ false → (length es ≤ most) × (r ≡ put_rows k.widths ls ms (map numbers es) no_rows))
        → m ≡ in_order (made_order l most h c (any_of out es)) refused_made (done_made (frame_with pattern k h es))
    unfolding no_rows frame_with frame_after
    rows_made_lem h es c r m em er = rows-after no_rows [] empty_holds (omega arith) h es c r m em er

    pub entries-made : (h : Header) (es : List A) (c : ℕ) (r : Rows) (m : Made) → m ≡ made_by l most pattern h c r
        → r ≡ put_rows k.widths ls ms (map numbers (take c es)) no_rows
        → m ≡ in_order (made_order l most h c (any_of out (take c es))) refused_made (done_made (frame_with pattern k h (take c es)))
    unfolding no_rows frame_with frame_after
    entries-made h es c r m em er = entries-after no_rows [] empty_holds (omega arith) h es c r m em er
