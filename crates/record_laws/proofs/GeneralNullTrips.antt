-- The null frame of type 42, a head of four bits and no entry: what can be sent is made, made then read, read then made; a null frame is read.
-- Assumes nothing.
use mathlib.Core.Path.{◌≡◌, sym, ap, ap₂, subst, ◌∙◌}
use mathlib.Core.Bool.{false, not}
use mathlib.Core.List.{List, [], ◌∷◌}
use Prim.Native.Nat.{ℕ, ◌<◌}
use native.Mathlib.Omega.{arith}
use lib.Dec.{eqb}
use lib.ListN.{length}
use borrow.Author.Tests.{eq-eqb, eqb-true, not-false, lt-leb, leb-false}
use Rattle.answer.specs.Order.{Check, NoneApplies}
use Rattle.answer.proofs.OrderLaws.{order-answers, order-told}
use Rattle.bits.specs.Rows.{FillAfter}
use Rattle.frame.specs.Frames.{bare}
use Rattle.frame.specs.Widths.{header_outside, outside, late}
use Rattle.frame.specs.declared.Header.{Header}
use Rattle.frame.specs.declared.Frame.{Frame}
use Rattle.frame.proofs.FrameLaws.{header-within}
use Rattle.record_fields.specs.Coding.{frame_bits, frame_after}
use Rattle.record_fields.proofs.Faithful.{Fine}
use Rattle.record_stages.specs.Stages.{wrong_size, refused_made, done_made, IsMade}
use Rattle.record_stages.proofs.StageLaws.{done-apart, done-frame}
use Rattle.record_generals.specs.declared.GeneralNullRead.TheVariants as null
use Rattle.record_generals.specs.declared.General.{General}
use Rattle.record_generals.specs.Generals.{other_system, meant, coding, out_of_range, fill}
use Rattle.record_generals.specs.GeneralNulls.{system_coding, system_in, system_bits, other_than_null, read_general_null, make_general_null}
use Rattle.record_generals.specs.GeneralNulls.{SendableGeneralNull, GeneralNullMade, HoldsGeneralNull}
use Rattle.record_laws.proofs.SentLaws.{right-size, told-size}
use Rattle.record_laws.proofs.HeadedTrips.{HeadedReads, headed-made, headed-again}
use Rattle.record_laws.proofs.GeneralLaws.{system_out, system-faithful, system-fine, faithful}

apart : (m n s : ℕ) → null.Refused m ≡ null.Null n s → ⊥
apart m n s q = let z : ◌≡◌ {A = ℕ} 0 1 = cc in omega arith

its-kind : (kind : ℕ) → kind ≡ 42 → other_than_null kind ≡ false
its-kind kind e = ap not (eq-eqb kind 42 e)

told-kind : (kind : ℕ) → other_than_null kind ≡ false → kind ≡ 42
told-kind kind e = eqb-true kind 42 (not-false (eqb kind 42) e)

-- where there is no entry, any entry stands for one
some : General
some = meant []

-- ---- reading

module _ (f : Frame) where
  abbrev order : List Check
  order =
      (outside f, 5) ∷ (other_than_null f.header.kind, 6) ∷ (late f.header.z, 7) ∷ (wrong_size 1 f.n, 8) ∷ (other_system (system_in f), 23) ∷ []

  -- READ: a null frame is read, not refused, and no other frame is
  pub general-null-read : HoldsGeneralNull f → read_general_null f ≡ null.Null f.n (system_in f)
  unfolding read_general_null
  general-null-read s =
      order-answers null.Refused (null.Null f.n (system_in f)) order
      (s.inside, (its-kind f.header.kind s.kind, (lt-leb 6000 f.header.z s.hour, (right-size 1 f.n s.one, (s.system, tt)))))

  told-read : (n s : ℕ) → read_general_null f ≡ null.Null n s → NoneApplies order × (null.Null f.n (system_in f) ≡ null.Null n s)
  unfolding read_general_null
  told-read n s e = order-told null.Refused (null.Null f.n (system_in f)) (null.Null n s) (λ m. apart m n s) order e

  pub general-null-held : (n s : ℕ) → read_general_null f ≡ null.Null n s → HoldsGeneralNull f
  general-null-held n s e =
      let t = (told-read n s e).0 in
      record {
        inside = t.0;
        kind = told-kind f.header.kind t.1.0;
        hour = leb-false 6000 f.header.z t.1.1.0;
        one = told-size 1 f.n t.1.1.1.0;
        system = t.1.1.1.1.0;
      }

  pub general-null-is : (n s : ℕ) → read_general_null f ≡ null.Null n s → (f.n ≡ n) × (system_in f ≡ s)
  general-null-is n s e = let q = (told-read n s e).1 in (cc, cc)

-- ---- making

module _ (h : Header) (n s : ℕ) where
  abbrev made : Frame
  made = frame_after (system_bits s) fill (coding 0) h []

  abbrev asked : List Check
  asked = (header_outside h, 5) ∷ (other_than_null h.kind, 6) ∷ (late h.z, 7) ∷ (other_system s, 23) ∷ (wrong_size 1 n, 12) ∷ []

  headed : SendableGeneralNull h n s → HeadedReads system_coding (coding 0) fill h s [] some made
  headed r =
      headed-made system_coding (coding 0) (Fine (λ x. Unit {0}) system_out) (Fine (λ g. Unit {0}) (out_of_range 0)) system-faithful (faithful 0) fill
      h s [] some (tt, system-fine s r.system) tt r.inside (omega arith)

  made_reads : SendableGeneralNull h n s → GeneralNullMade h n s made
  made_reads r = record {
    header = k.header;
    inside = k.inside;
    reads = general-null-read made holds ∙ ap₂ null.Null (k.n ∙ sym r.one) k.head;
    n = k.n ∙ sym r.one;
    fill = k.fill;
  }
    where
      k : HeadedReads system_coding (coding 0) fill h s [] some made
      k = headed r

      holds : HoldsGeneralNull made
      holds = record {
        inside = k.inside;
        kind = ap (λ (x : Header). x.kind) k.header ∙ r.kind;
        hour = subst (λ (x : Header). x.z < 6000) (sym k.header) r.hour;
        one = k.n;
        system = ap other_system k.head ∙ r.system;
      }

  told : (f : Frame) → make_general_null h n s ≡ done_made f → NoneApplies asked × (done_made made ≡ done_made f)
  unfolding make_general_null
  told f e = order-told refused_made (done_made made) (done_made f) (λ m. done-apart m f) asked e

  passes : SendableGeneralNull h n s → make_general_null h n s ≡ done_made made
  unfolding make_general_null
  passes r =
      order-answers refused_made (done_made made) asked
      (r.inside, (its-kind h.kind r.kind, (lt-leb 6000 h.z r.hour, (r.system, (right-size 1 n r.one, tt)))))

  -- SENT: what can be sent is made, not refused, and reads back
  pub general-null-sent : SendableGeneralNull h n s → IsMade (make_general_null h n s) (GeneralNullMade h n s)
  general-null-sent r = record { frame = made; done = passes r; reads = made_reads r }

  -- and only what can be sent is made
  pub general-null-told : (f : Frame) → make_general_null h n s ≡ done_made f → SendableGeneralNull h n s
  general-null-told f e =
      let t = (told f e).0 in
      record {
        inside = t.0;
        kind = told-kind h.kind t.1.0;
        hour = leb-false 6000 h.z t.1.1.0;
        one = told-size 1 n t.1.1.1.1.0;
        system = t.1.1.1.0;
      }

  -- MADE, THEN READ
  pub general-null-made-read : (f : Frame) → make_general_null h n s ≡ done_made f → GeneralNullMade h n s f
  general-null-made-read f e = subst (GeneralNullMade h n s) (done-frame (told f e).1) (made_reads (general-null-told f e))

-- READ, THEN MADE: with standard fill, all but the pair
pub general-null-read-made : (f : Frame) (n s : ℕ) → length f.words ≡ 31 → read_general_null f ≡ null.Null n s → FillAfter fill 4 (frame_bits f)
    → make_general_null f.header n s ≡ done_made (bare f)
general-null-read-made f n s full e filled =
    passes f.header n s sendable
    ∙ ap done_made
    (headed-again system_coding (coding 0) (Fine (λ x. Unit {0}) system_out) (Fine (λ g. Unit {0}) (out_of_range 0)) system-faithful (faithful 0) fill
    f s [] some k.inside full (sym k.one) filled is.1 (λ i l. absurd (omega arith)))
  where
    k : HoldsGeneralNull f
    k = general-null-held f n s e

    is : (f.n ≡ n) × (system_in f ≡ s)
    is = general-null-is f n s e

    sendable : SendableGeneralNull f.header n s
    sendable = record {
      inside = header-within f k.inside;
      kind = k.kind;
      hour = k.hour;
      one = sym is.0 ∙ k.one;
      system = ap other_system (sym is.1) ∙ k.system;
    }
