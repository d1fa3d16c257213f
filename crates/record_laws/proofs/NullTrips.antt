-- Types 6 and 34: what can be sent is made, made then read, read then made; a null frame is read. Assumes nothing.
use mathlib.Core.Path.{◌≡◌, refl, sym, ap, subst, ◌∙◌}
use mathlib.Core.Bool.{false}
use mathlib.Core.List.{List, [], ◌∷◌}
use Prim.Native.Nat.{ℕ, zero, suc, ◌≤◌}
use native.Mathlib.Omega.{arith}
use lib.ListN.{length, replicate, length-replicate}
use borrow.Author.Tests.{le-ltb, ltb-false}
use Rattle.answer.specs.Order.{Check, NoneApplies}
use Rattle.answer.proofs.OrderLaws.{order-answers, order-told}
use Rattle.frame.specs.Frames.{framed, bare, Below}
use Rattle.frame.specs.Widths.{outside}
use Rattle.frame.specs.declared.Header.{Header}
use Rattle.frame.specs.declared.Frame.{Frame}
use Rattle.frame.specs.declared.Layout.TheVariants as layout
use Rattle.frame.proofs.FrameLaws.{header-within, framed-inside, framed-again, data-framed}
use Rattle.record_stages.specs.Stages.{read_order, make_order, refused_made, done_made, HeaderFor, IsMade}
use Rattle.record_stages.proofs.StageLaws.{done-apart, done-frame}
use Rattle.record_nulls.specs.declared.NullRead.TheVariants as read
use Rattle.record_nulls.specs.Nulls.{most_words, too_many, fill, StandardFill, read_null, make_null, NullMade, SendableNull, HoldsNull}
use Rattle.record_laws.proofs.SentLaws.{make-passes, make-passed, read-passes, read-passed, frame-for}

apart : (n m : ℕ) → read.Refused n ≡ read.Null m → ⊥
apart n m q = let z : ◌≡◌ {A = ℕ} 0 1 = cc in omega arith

-- the words of a null frame are within their widths
filled-below : (n : ℕ) → Below (replicate n fill)
filled-below zero = tt
filled-below (suc n) = (omega arith, filled-below n)

module _ (f : Frame) where
  abbrev order : List Check
  order = read_order layout.Null f (too_many f.n) []

  -- READ: a null frame is read, not refused, and no other frame is
  pub null-read : HoldsNull f → read_null f ≡ read.Null f.n
  unfolding read_null
  null-read s =
      order-answers read.Refused (read.Null f.n) order
      (read-passes layout.Null f (too_many f.n) [] s.frame
      (le-ltb most_words f.n s.few) tt)

  told-read : (n : ℕ) → read_null f ≡ read.Null n → NoneApplies order × (read.Null f.n ≡ read.Null n)
  unfolding read_null
  told-read n e = order-told read.Refused (read.Null f.n) (read.Null n) (λ m. apart m n) order e

  pub null-held : (n : ℕ) → read_null f ≡ read.Null n → HoldsNull f
  null-held n e =
      let t = (told-read n e).0 in
      record {
        frame = read-passed layout.Null f (too_many f.n) [] t;
        few = ltb-false most_words f.n t.1.1.1.0;
      }

  pub null-n : (n : ℕ) → read_null f ≡ read.Null n → f.n ≡ n
  null-n n e = let q = (told-read n e).1 in cc

module _ (h : Header) (n : ℕ) where
  abbrev made : Frame
  made = framed h (replicate n fill)

  abbrev asked : List Check
  asked = make_order layout.Null h ((too_many n, 12) ∷ [])

  made_reads : SendableNull h n → NullMade h n made
  unfolding framed
  made_reads s = record {
    header = refl;
    inside = within;
    reads = null-read made record { frame = frame-for layout.Null made h refl within s.header; few = omega (arith, size, s.few) } ∙ ap read.Null size;
    n = size;
    fill = data-framed h (replicate n fill) ∙ ap (λ m. replicate m fill) (sym size);
  }
    where
      size : length (replicate n fill) ≡ n
      size = length-replicate n fill

      short : n ≤ 1
      short = s.few

      within : outside made ≡ false
      within = framed-inside h (replicate n fill) s.header.inside (filled-below n) (omega (arith, size, short))

  told : (f : Frame) → make_null h n ≡ done_made f → NoneApplies asked × (done_made made ≡ done_made f)
  unfolding make_null
  told f e = order-told refused_made (done_made made) (done_made f) (λ m. done-apart m f) asked e

  passes : SendableNull h n → make_null h n ≡ done_made made
  unfolding make_null
  passes s =
      order-answers refused_made (done_made made) asked
      (make-passes layout.Null h ((too_many n, 12) ∷ []) s.header (le-ltb most_words n s.few, tt))

  -- SENT: what can be sent is made, not refused, and reads back
  pub null-sent : SendableNull h n → IsMade (make_null h n) (NullMade h n)
  null-sent s = record { frame = made; done = passes s; reads = made_reads s }

  -- and only what can be sent is made
  pub null-told : (f : Frame) → make_null h n ≡ done_made f → SendableNull h n
  null-told f e = record {
    header = make-passed layout.Null h ((too_many n, 12) ∷ []) (told f e).0;
    few = ltb-false most_words n (told f e).0.1.1.1.0;
  }

  -- MADE, THEN READ
  pub null-made-read : (f : Frame) → make_null h n ≡ done_made f → NullMade h n f
  null-made-read f e = subst (NullMade h n) (done-frame (told f e).1) (made_reads (null-told f e))

-- READ, THEN MADE: with standard fill, all but the pair
pub null-read-made : (f : Frame) (n : ℕ) → length f.words ≡ 31 → read_null f ≡ read.Null n → StandardFill f → make_null f.header n ≡ done_made (bare f)
null-read-made f n full e filled =
    ap (make_null f.header) (sym (null-n f n e))
    ∙ passes f.header f.n record { header = under; few = k.few }
    ∙ ap (λ ws. done_made (framed f.header ws)) (sym filled) ∙ ap done_made (framed-again f k.frame.inside full)
  where
    k : HoldsNull f
    k = null-held f n e

    under : HeaderFor layout.Null f.header
    under = record { inside = header-within f k.frame.inside; kind = k.frame.kind; hour = k.frame.hour }
