-- EVERY PLAIN LIST LAYOUT: what it owes, and what follows. What can be sent is made, made then read, read then made; what a frame holds is
-- read; its pair is not looked at. Assumes nothing.
use mathlib.Core.Path.{◌≡◌, refl, sym, ap, subst, ◌∙◌}
use mathlib.Core.Bool.{Bool, true, false, ◌&&◌, cond}
use mathlib.Core.List.{List, [], ◌∷◌}
use Prim.Native.Nat.{ℕ, zero, suc, ◌+◌, ◌*◌, ◌/◌, ◌%◌, ◌≤◌, ◌<◌}
use native.Mathlib.Nat.{zero-mul, suc-mul}
use native.Mathlib.Omega.{arith}
use lib.Dec.{eqb}
use lib.ListN.{length, take, get_or, length-take}
use lib.Seq.{get_or-take}
use borrow.Author.Tests.{eqb-true}
use Rattle.answer.specs.Order.{refuses, answers, in_order}
use Rattle.answer.proofs.OrderLaws.{refuses-apart}
use Rattle.bits.specs.Fields.{span, Fit}
use Rattle.bits.specs.Rows.{FillAfter}
use Rattle.bits.proofs.FieldLaws.{fits-fields}
use Rattle.frame.specs.Frames.{after_pair, bare}
use Rattle.frame.specs.Widths.{pair_outside, outside}
use Rattle.frame.specs.declared.Carried.{Carried}
use Rattle.frame.specs.declared.Header.{Header}
use Rattle.frame.specs.declared.Frame.{Frame}
use Rattle.frame.specs.declared.System.{System}
use Rattle.frame.specs.Layout.{system_of}
use Rattle.frame.proofs.FrameLaws.{after-inside}
use Rattle.record_fields.specs.Coding.{frame_bits, frame_with, Each}
use Rattle.record_fields.proofs.Faithful.{Faithful, Fine}
use Rattle.record_stages.specs.declared.Count.TheVariants as count
use Rattle.record_stages.specs.Stages.{entries_held, entry_order, done_made, IsMade}
use Rattle.record_stages.specs.Lists.{list_count, list_ranged, MadeReads, Sendable}
use Rattle.record_stages.specs.Lists.{ListLayout, coding_of, width_of, said_at, counted, entry_at, made, StandardFill}
use Rattle.record_stages.specs.Lists.{ListMade, SendableList, HoldsList, ReadsList}
use Rattle.record_laws.proofs.SentLaws.{list-made, list-told, list_read}
use Rattle.record_laws.proofs.ListTrips.{CountRead, count-read, each_at, list_held, made-then-read, read-then-made}
use Rattle.record_laws.proofs.HeadedTrips.{nothing_left}

-- WHAT A LAYOUT OWES
pub record OwedList (L : ListLayout) : Type 0 where
  -- its answers say what they are
  pub says-refused : (n : ℕ) → L.says (L.refused n) ≡ refuses n
  pub says-entry : (e : L.Entry) → L.says (L.entry e) ≡ answers e
  pub says-told : (x : L.Read) (e : L.Entry) → L.says x ≡ answers e → x ≡ L.entry e
  -- the codes of what can be sent mean it
  pub faithful : (s : System) → Faithful (L.coding s) (Fine L.Typed (L.out s))
  -- sizes: the most entries have room, c entries are told by their words, and no frame has more than the most
  pub room : (s : System) (c : ℕ) → c ≤ L.most → c * span (L.coding s).widths ≤ 744
  pub told : (s : System) (c : ℕ) → 0 < c → c ≤ L.most
      → entries_held (span (L.coding s).widths) ((c * span (L.coding s).widths + 23) / 24) ≡ c
  pub bounded : (s : System) (n : ℕ) → n ≤ 31 → entries_held (span (L.coding s).widths) n ≤ L.most
  -- refusal 10 of making, both ways; of what is read it is what `late` says, and nothing where reading does not have it
  pub range-fine : (s : System) (e : L.Entry) → L.Typed e → L.InRange s e → L.out s e ≡ false
  pub range-told : (s : System) (e : L.Entry) → L.out s e ≡ false → L.InRange s e
  pub read-late : (s : System) (vs : List ℕ) → Fit (L.coding s).widths vs → L.out s ((L.coding s).meant vs) ≡ L.late ((L.coding s).meant vs)
  pub quiet : L.ranged ≡ false → (e : L.Entry) → L.late e ≡ false

-- entries of whole words take whole words
whole : (c w : ℕ) → w % 24 ≡ 0 → c * w % 24 ≡ 0
whole zero w z = omega (arith, zero-mul w)
whole (suc c) w z = omega (arith, suc-mul c w, whole c w z)

module _ (L : ListLayout) (o : OwedList L) where
  -- ---- the range for reading, as a check that a layout without one never has

  abbrev reads : System → L.Entry → Bool
  reads s e = L.ranged && L.out s e

  abbrev ranged_at : Frame → System → ℕ → L.Read
  ranged_at f s i = list_ranged L.asked (L.coding s) (reads s) L.refused L.entry f i

  at-ranged : (f : Frame) (i : ℕ) → entry_at L f i ≡ ranged_at f (system_of f.header.kind) i
  at-ranged f i = go L.ranged (L.out (system_of f.header.kind) (said_at L f i))
    where
      go : (b x : Bool) → in_order (entry_order L.asked (width_of L f.header) f i (cond b ((x, 10) ∷ []) [])) L.refused (L.entry (said_at L f i))
          ≡ in_order (entry_order L.asked (width_of L f.header) f i ((b && x, 10) ∷ [])) L.refused (L.entry (said_at L f i))
      go true x = refl
      go false x = refl

  sent-reads : (s : System) (e : L.Entry) → L.Typed e → L.out s e ≡ false → reads s e ≡ false
  sent-reads s e t q = ap (λ x. L.ranged && x) q ∙ go L.ranged
    where
      go : (b : Bool) → b && false ≡ false
      go true = refl
      go false = refl

  reads-late : (s : System) (vs : List ℕ) → Fit (L.coding s).widths vs → reads s ((L.coding s).meant vs) ≡ L.late ((L.coding s).meant vs)
  reads-late s vs fit = go L.ranged refl
    where
      go : (b : Bool) → L.ranged ≡ b → b && L.out s ((L.coding s).meant vs) ≡ L.late ((L.coding s).meant vs)
      go true q = o.read-late s vs fit
      go false q = sym (o.quiet q ((L.coding s).meant vs))

  read-fine : (s : System) (vs : List ℕ) → Fit (L.coding s).widths vs → reads s ((L.coding s).meant vs) ≡ false → L.out s ((L.coding s).meant vs) ≡ false
  read-fine s vs fit q = o.read-late s vs fit ∙ sym (reads-late s vs fit) ∙ q

  sized : (s : System) (c : ℕ) → 0 < c → c ≤ L.most
      → (c * span (L.coding s).widths ≤ 744) × (entries_held (span (L.coding s).widths) ((c * span (L.coding s).widths + 23) / 24) ≡ c)
  sized s c some few = (o.room s c few, o.told s c some few)

  apart : (n : ℕ) (e : L.Entry) → L.refused n ≡ L.entry e → ⊥
  apart n e q = refuses-apart n e (sym (o.says-refused n) ∙ ap L.says q ∙ o.says-entry e)

  same : (a b : L.Entry) → L.entry a ≡ L.entry b → a ≡ b
  same a b q = inj a b (sym (o.says-entry a) ∙ ap L.says q ∙ o.says-entry b)
    where
      inj : (a b : L.Entry) → answers a ≡ answers b → a ≡ b
      inj a b r = cc

  -- ---- the theorems

  -- MADE, THEN READ: header, count, every entry, the widths, N and the fill
  pub lists-made-read : (h : Header) (es : List L.Entry) (c : ℕ) (d : L.Entry) (f : Frame) → c ≤ length es → Each L.Typed (take c es)
      → made L h es c ≡ done_made f → ListMade L h es c d f
  lists-made-read h es c d f l typed e = record {
    header = r.header;
    inside = r.inside;
    counts = ap (λ x. list_count L.asked (coding_of L x) f) r.header ∙ r.counts;
    entries = λ i j. at-ranged f i ∙ ap (λ x. ranged_at f (system_of x.kind) i) r.header ∙ r.entries i j;
    n = r.n;
    fill = r.fill;
  }
    where
      s : System
      s = system_of h.kind

      r : MadeReads (L.coding s) L.pattern (list_count L.asked (L.coding s)) (λ g i. ranged_at g s i) L.entry h es c d f
      r =
          made-then-read L.asked (L.coding s) L.pattern L.most (L.out s) (reads s) L.refused L.entry L.Typed (o.faithful s) (sized s)
          (sent-reads s) h es c d f l typed e

  -- READ, THEN MADE: a frame whose count and entries read, with standard fill, is made again from them, all but its pair
  pub lists-read-made : (f : Frame) (es : List L.Entry) (c : ℕ) (d : L.Entry) → length f.words ≡ 31 → c ≤ length es
      → counted L f ≡ count.Of c → ((i : ℕ) → i < c → entry_at L f i ≡ L.entry (get_or es i d)) → StandardFill L f c
      → made L f.header es c ≡ done_made (bare f)
  lists-read-made f es c d full l n e filled =
      read-then-made L.asked (L.coding s) L.pattern L.most (L.out s) (reads s) L.refused L.entry L.Typed (o.faithful s) (sized s)
      (read-fine s) (o.bounded s) apart same f es c d full l n (λ i h. sym (at-ranged f i) ∙ e i h) (go (eqb (w % 24) 0) refl)
    where
      s : System
      s = system_of f.header.kind

      w : ℕ
      w = width_of L f.header

      r : CountRead L.asked (L.coding s) f c
      r = count-read L.asked (L.coding s) f c n

      go : (b : Bool) → eqb (w % 24) 0 ≡ b → FillAfter L.pattern (c * w) (frame_bits f)
      go true q = nothing_left L.pattern (c * w) f r.inside full (omega (arith, r.up, whole c w (eqb-true (w % 24) 0 q)))
      go false q = filled q

  -- SENT: what can be sent is made, not refused, and reads back
  pub lists-sent : (h : Header) (es : List L.Entry) (c : ℕ) (d : L.Entry) → Each L.Typed (take c es) → SendableList L h es c d
      → IsMade (made L h es c) (ListMade L h es c d)
  lists-sent h es c d typed k = record {
    frame = frame_with L.pattern (coding_of L h) h (take c es);
    done = done;
    reads = lists-made-read h es c d (frame_with L.pattern (coding_of L h) h (take c es)) k.there typed done;
  }
    where
      s : System
      s = system_of h.kind

      -- its entries have their types
      both : Sendable L.asked L.most (λ e. L.Typed e × L.InRange s e) h es c d
      both = record {
        header = k.header;
        some = k.some;
        few = k.few;
        there = k.there;
        ranges = λ i l. (
          subst L.Typed (get_or-take c es i d l) (each_at L.Typed (take c es) i d typed (omega (arith, length-take c es, k.there))),
          k.ranges i l,
        );
      }

      done : made L h es c ≡ done_made (frame_with L.pattern (coding_of L h) h (take c es))
      done =
          list-made L.asked (L.coding s) L.pattern L.most (L.out s) (λ e. L.Typed e × L.InRange s e)
          (λ e p. o.range-fine s e p.0 p.1) h es c d both

  -- and only what can be sent is made
  pub lists-told : (h : Header) (es : List L.Entry) (c : ℕ) (d : L.Entry) (f : Frame) → c ≤ length es → made L h es c ≡ done_made f
      → SendableList L h es c d
  lists-told h =
      let s = system_of h.kind in
      list-told L.asked (L.coding s) L.pattern L.most (L.out s) (L.InRange s) (o.range-told s) h

  -- READ: of a frame that holds c entries the count is read and every entry, or 10
  pub lists-read : (f : Frame) (c : ℕ) → HoldsList L f c → ReadsList L f c
  lists-read f c k =
      let s = system_of f.header.kind in
      let r = list_read L.asked (L.coding s) L.most (reads s) L.refused L.entry (o.told s) f c k in
      record {
        counts = r.counts;
        entries = λ i l.
            at-ranged f i ∙ r.entries i l
            ∙ ap (λ b. cond b (L.refused 10) (L.entry (said_at L f i)))
            (reads-late s _ (fits-fields (L.coding s).widths (i * width_of L f.header) (frame_bits f)));
      }

  -- and a count is read of no other frame
  pub lists-held : (f : Frame) (c : ℕ) → counted L f ≡ count.Of c → HoldsList L f c
  lists-held f = list_held L.asked (coding_of L f.header) L.most (o.bounded (system_of f.header.kind)) f

-- ---- no reader of lists looks at a frame's carried pair, but for its width

module _ (L : ListLayout) (k : Carried) (f : Frame) (p : pair_outside k ≡ false) (q : outside f ≡ false) where
  within : outside (after_pair k f) ≡ outside f
  within = after-inside k f p q ∙ sym q

  pub list_count_lem : counted L (after_pair k f) ≡ counted L f
  unfolding after_pair
  list_count_lem = rw within

  pub list-entry : (i : ℕ) → entry_at L (after_pair k f) i ≡ entry_at L f i
  unfolding frame_bits after_pair
  list-entry i = rw within
