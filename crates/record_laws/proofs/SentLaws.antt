-- What can be sent is made, and what is made could be sent; what a frame holds is read: the first checks of both orders, once for every
-- layout, and the list layouts, once for both. Assumes nothing.
use mathlib.Core.Path.{◌≡◌, refl, sym, ap, subst, ◌∙◌}
use mathlib.Core.Bool.{Bool, false}
use mathlib.Core.List.{List, [], ◌∷◌}
use Prim.Native.Nat.{ℕ, zero, suc, ◌+◌, ◌*◌, ◌/◌, ◌≤◌, ◌<◌}
use native.Mathlib.Nat.{zero-add}
use native.Mathlib.Omega.{arith}
use lib.Dec.{leb, eqb}
use lib.ListN.{length, take, get_or, length-take}
use lib.Seq.{get_or-take}
use borrow.Author.Tests.{leb-false, eqb-true, lt-leb, eq-eqb, not-false}
use Rattle.answer.specs.Order.{Check, NoneApplies}
use Rattle.answer.proofs.OrderLaws.{order-answers, order-told}
use Rattle.bits.specs.Fields.{span}
use Rattle.frame.specs.Widths.{any_of, outside}
use Rattle.frame.specs.declared.Header.{Header}
use Rattle.frame.specs.declared.Frame.{Frame}
use Rattle.frame.specs.declared.Layout.{Layout}
use Rattle.frame.proofs.WidthLaws.{both_false}
use Rattle.frame.proofs.FrameLaws.{n_within}
use Rattle.record_fields.specs.Coding.{Coding, frame_bits, entry_in, frame_with}
use Rattle.record_stages.specs.declared.Count.TheVariants as count
use Rattle.record_stages.specs.Stages.{wrong_count, other_layout, entries_held, misfit, wrong_size, read_order, entry_order, make_order}
use Rattle.record_stages.specs.Stages.{refused_made, done_made, HeaderFor, FrameFor}
use Rattle.record_stages.specs.Lists.{list_made, list_count, list_ranged, held_to, Sendable, Holding, ListRead}
use Rattle.record_stages.proofs.ListCode.{count-right, some-few, told-some-few}
use Rattle.record_stages.proofs.StageLaws.{done-apart}

-- ---- the first checks: 5, 6, 7, and of reading 8

pub make-passes : (asked : Layout) (h : Header) (more : List Check) → HeaderFor asked h → NoneApplies more → NoneApplies (make_order asked h more)
make-passes asked h more s none = (s.inside, (s.kind, (lt-leb 6000 h.z s.hour, none)))

pub make-passed : (asked : Layout) (h : Header) (more : List Check) → NoneApplies (make_order asked h more) → HeaderFor asked h
make-passed asked h more t = record { inside = t.0; kind = t.1.0; hour = leb-false 6000 h.z t.1.1.0 }

module _ (asked : Layout) (f : Frame) (wrong_n : Bool) (more : List Check) where
  pub read-passes : FrameFor asked f → wrong_n ≡ false → NoneApplies more → NoneApplies (read_order asked f wrong_n more)
  read-passes s n none = (s.inside, (s.kind, (lt-leb 6000 f.header.z s.hour, (n, none))))

  pub read-passed : NoneApplies (read_order asked f wrong_n more) → FrameFor asked f
  read-passed t = record {
    inside = t.0;
    kind = t.1.0;
    hour = leb-false 6000 f.header.z t.1.1.0;
  }

-- a frame within its widths is for the layout that its header is for
pub frame-for : (asked : Layout) (f : Frame) (h : Header) → f.header ≡ h → outside f ≡ false → HeaderFor asked h → FrameFor asked f
frame-for asked f h e within s = record {
  inside = within;
  kind = ap (λ x. other_layout asked x.kind) e ∙ s.kind;
  hour = subst (λ x. x.z < 6000) (sym e) s.hour;
}

-- ---- 8 of a type with one N

pub right-size : (wanted n : ℕ) → n ≡ wanted → wrong_size wanted n ≡ false
right-size wanted n e = rw (eq-eqb n wanted e)

pub told-size : (wanted n : ℕ) → wrong_size wanted n ≡ false → n ≡ wanted
told-size wanted n e = eqb-true n wanted (not-false (eqb n wanted) e)

-- ---- 10 and 11: no entry has a property when none has it, by number

pub none-entry : {A : Type 0} (p : A → Bool) (es : List A) (d : A) → ((i : ℕ) → i < length es → p (get_or es i d) ≡ false) → any_of p es ≡ false
none-entry p [] d h = refl
none-entry p (e ∷ es) d h = rw (h 0 (omega arith)) (none-entry p es d (λ i l. h (suc i) (omega arith)))

-- of the first c entries
pub none-taken : {A : Type 0} (p : A → Bool) (es : List A) (c : ℕ) (d : A) → ((i : ℕ) → i < c → p (get_or es i d) ≡ false) → any_of p (take c es) ≡ false
none-taken p es c d h = none-entry p (take c es) d (λ i l. at i (omega (arith, length-take c es)))
  where
    at : (i : ℕ) → i < c → p (get_or (take c es) i d) ≡ false
    at i l = ap p (get_or-take c es i d l) ∙ h i l

-- and back
pub told-entry : {A : Type 0} (p : A → Bool) (es : List A) (d : A) (i : ℕ) → any_of p es ≡ false → i < length es → p (get_or es i d) ≡ false
told-entry p [] d i e l = absurd (omega arith)
told-entry p (x ∷ es) d zero e l = (both_false (p x) (any_of p es) e).0
told-entry p (x ∷ es) d (suc i) e l = told-entry p es d i (both_false (p x) (any_of p es) e).1 (omega arith)

-- ---- lists that can be sent

module _ {A : Type 0} (asked : Layout) (k : Coding A) (pattern most : ℕ) (out : A → Bool) (InRange : A → Type 0) where
  -- MADE: what can be sent is not refused
  pub list-made : ((e : A) → InRange e → out e ≡ false) → (h : Header) (es : List A) (c : ℕ) (d : A) → Sendable asked most InRange h es c d
      → list_made asked k pattern most out h es c ≡ done_made (frame_with pattern k h (take c es))
  list-made right h es c d s =
      order-answers refused_made (done_made (frame_with pattern k h (take c es)))
      (make_order asked h ((wrong_count most c, 12) ∷ (any_of out (take c es), 10) ∷ []))
      (make-passes asked h ((wrong_count most c, 12) ∷ (any_of out (take c es), 10) ∷ []) s.header
      (some-few c most s.some s.few, (none-taken out es c d (λ i l. right (get_or es i d) (s.ranges i l)), tt)))

  -- and what is not refused could be sent
  pub list-told : ((e : A) → out e ≡ false → InRange e) → (h : Header) (es : List A) (c : ℕ) (d : A) (f : Frame) → c ≤ length es
      → list_made asked k pattern most out h es c ≡ done_made f → Sendable asked most InRange h es c d
  list-told told h es c d f there e = record {
    header = make-passed asked h ((wrong_count most c, 12) ∷ (any_of out (take c es), 10) ∷ []) t.0;
    some = (told-some-few c most t.0.1.1.1.0).0;
    few = (told-some-few c most t.0.1.1.1.0).1;
    there = there;
    ranges = λ i l. told (get_or es i d) (at i l);
  }
    where
      t : NoneApplies (make_order asked h ((wrong_count most c, 12) ∷ (any_of out (take c es), 10) ∷ []))
          × (done_made (frame_with pattern k h (take c es)) ≡ done_made f)
      t = order-told refused_made (done_made (frame_with pattern k h (take c es))) (done_made f) (λ n. done-apart n f)
          (make_order asked h ((wrong_count most c, 12) ∷ (any_of out (take c es), 10) ∷ [])) e

      at : (i : ℕ) → i < c → out (get_or es i d) ≡ false
      at i l = ap out (sym (get_or-take c es i d l)) ∙ told-entry out (take c es) d i t.0.1.1.1.1.0 (omega (arith, length-take c es))

-- ---- frames that hold a list

-- a layout without a range for reading has `λ e. false` for it: `held_to` is then the entry
module _ {A B : Type 0} (asked : Layout) (k : Coding A) (most : ℕ) (reads : A → Bool) (refuse : ℕ → B) (entry : A → B)
    (held : (c : ℕ) → 0 < c → c ≤ most → entries_held (span k.widths) ((c * span k.widths + 23) / 24) ≡ c) where
  -- READ: its count, and every entry by its range for reading
  pub list_read : (f : Frame) (c : ℕ) → Holding asked k most f c
      → ListRead k (list_count asked k) (list_ranged asked k reads refuse entry) (held_to reads refuse entry) f c
  list_read f c s = record {
    counts = order-answers count.Refused (count.Of (entries_held w f.n)) (read_order asked f (misfit w f.n) [])
        (read-passes asked f (misfit w f.n) [] s.frame fits tt) ∙ ap count.Of is;
    entries = λ i l.
        order-answers refuse (held_to reads refuse entry (entry_in k i (frame_bits f))) (entry_order asked w f i [])
        (read-passes asked f (misfit w f.n) ((leb (entries_held w f.n) i, 9) ∷ []) s.frame fits (ap (λ m. leb m i) is ∙ lt-leb c i l, tt));
  }
    where
      w : ℕ
      w = span k.widths

      is : entries_held w f.n ≡ c
      is = ap (entries_held w) s.n ∙ held c s.some s.few

      fits : misfit w f.n ≡ false
      fits =
          count-right 0 w f.n (n_within f s.frame.inside) (λ z. omega (arith, is, z, s.some))
          (ap (λ m. (m + 23) / 24) (zero-add (entries_held w f.n * w)) ∙ ap (λ m. (m * w + 23) / 24) is ∙ sym s.n)
