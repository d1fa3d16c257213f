-- The refusals of a call that reads a frame, in ONE order: those of its journal record, then those of the reading. A frame that was
-- recalled is within its widths, so the reading's own 5 never comes. Assumes nothing.
use mathlib.Core.Path.{◌≡◌, refl, sym, ap, ◌∙◌}
use mathlib.Core.Bool.{Bool, false}
use mathlib.Core.List.{List, [], ◌∷◌, ◌++◌}
use Prim.Native.Nat.{ℕ, ◌+◌, ◌*◌}
use lib.Dec.{ltb}
use lib.ListN.{length}
use Rattle.answer.specs.Order.{Says, refuses, answers, Check, in_order, NoneApplies}
use Rattle.answer.proofs.OrderLaws.{order-answers, order-append, order-map, says-order}
use Rattle.bits.specs.Fields.{AreBytes}
use Rattle.frame.specs.Widths.{any_of, outside}
use Rattle.frame.specs.declared.Frame.{Frame}
use Rattle.frame.specs.declared.Layout.{Layout}
use Rattle.frame.specs.declared.Layout.TheVariants as layout
use Rattle.journal.specs.Forms.{n_byte, words_after}
use Rattle.journal.specs.Journal.{refused_recall, recalled, recall_order, says_recalled}
use Rattle.journal.proofs.RoundTrip.{reread}
use Rattle.record_fields.specs.Coding.{Coding}
use Rattle.record_stages.specs.Stages.{wrong_size, read_order, says_count}
use Rattle.record_stages.specs.declared.Count.TheVariants as count
use Rattle.record_positions.specs.Positions as position
use Rattle.record_nulls.specs.Nulls as null
use Rattle.record_texts.specs.Texts as text
use Rattle.record_positions.specs.declared.PositionRead.TheVariants as position-read
use Rattle.record_nulls.specs.declared.NullRead.TheVariants as null-read
use Rattle.rtcm2_rows.specs.Rows.{row_size, put_order, says_put}
use Rattle.rtcm2_rows.specs.declared.row.Put.TheVariants.{Done, Refused}
use Rattle.rtcm2.specs.Answer.{and_then}
use Rattle.rtcm2.specs.Frames.{recall_said, frame_said}
use Rattle.rtcm2.specs.Rows.{row_to}
use Rattle.rtcm2.specs.Positions.{position_said}
use Rattle.rtcm2.specs.Nulls.{null_said}
use Rattle.rtcm2.specs.Texts.{text_said}
use Rattle.rtcm2.specs.Orders.{frame_from, system_from, record_checks}
use Rattle.rtcm2.specs.Orders.{position_order, null_order, text_read_order}
use Rattle.rtcm2.proofs.Orders.{pass-five}

-- RECALL: 14, 15, 16, 15, 16; the last for either of two reasons
pub recall-order : (bs : List ℕ) → recall_said bs ≡ in_order (recall_order bs) refuses (answers (3 * n_byte bs + 9, frame_from bs))
recall-order bs = says-order says_recalled refused_recall (λ n. refl) (recalled (n_byte bs) (words_after 3 bs)) (recall_order bs) refl

-- the frame alone
pub frame-order : (bs : List ℕ) → frame_said bs ≡ in_order (recall_order bs) refuses (answers (frame_from bs))
frame-order bs =
    ap (λ s. and_then s (λ r. answers r.1)) (recall-order bs)
    ∙ order-map (λ s. and_then s (λ r. answers r.1)) (recall_order bs) refuses (answers (3 * n_byte bs + 9, frame_from bs))

module _ (bs : List ℕ) (fits : AreBytes bs) where
  -- NEVER 5: a frame that was recalled is within its widths
  pub recalled-within : (f : Frame) (bytes : ℕ) → recall_said bs ≡ answers (bytes, f) → outside f ≡ false
  recalled-within f bytes e = (reread bs fits f bytes e).inside

  pub within : NoneApplies (recall_order bs) → outside (frame_from bs) ≡ false
  within none =
      recalled-within (frame_from bs) (3 * n_byte bs + 9)
      (recall-order bs ∙ order-answers refuses (answers (3 * n_byte bs + 9, frame_from bs)) (recall_order bs) none)

  -- READING: 14, 15, 16, 15, 16, then what the reading has before and after its 5 for the frame
  module _ {A : Type 0} (say : Frame → Says A) (before after : List Check) (value : A)
      (said : say (frame_from bs) ≡ in_order (before ++ ((outside (frame_from bs), 5) ∷ after)) refuses (answers value)) where
    pub read-order : and_then (frame_said bs) say ≡ in_order (recall_order bs ++ (before ++ after)) refuses (answers value)
    read-order =
        ap (λ s. and_then s say) (frame-order bs)
        ∙ order-map (λ s. and_then s say) (recall_order bs) refuses (answers (frame_from bs))
        ∙ ap (in_order (recall_order bs) refuses) said
        ∙ pass-five (recall_order bs) before (outside (frame_from bs)) after (answers value) within

-- ---- a record of a layout

-- a reading in its order, through the type of its answer
module _ (bs : List ℕ) (fits : AreBytes bs) (asked : Layout) (wrong_n : Bool) (more : List Check) {A B : Type 0}
    (says : B → Says A) (refuse : ℕ → B) (refusal : (n : ℕ) → says (refuse n) ≡ refuses n) (read : Frame → B) (answer : B) {value : A}
    (ready : says answer ≡ answers value) (is : read (frame_from bs) ≡ in_order (read_order asked (frame_from bs) wrong_n more) refuse answer) where
  pub record-order : and_then (frame_said bs) (λ f. says (read f))
      ≡ in_order (recall_order bs ++ record_checks asked (frame_from bs) wrong_n more) refuses (answers value)
  record-order =
      read-order bs fits (λ f. says (read f)) [] (record_checks asked (frame_from bs) wrong_n more) value
      (ap says is ∙ says-order says refuse refusal answer (read_order asked (frame_from bs) wrong_n more) ready)

-- a row after an order: its own 13 comes last
pub row-order : {A : Type 0} (k : Coding A) (cs : List Check) (e : A) (lent : List ℕ)
    → row_to k (in_order cs refuses (answers e)) lent ≡ in_order (cs ++ ((ltb (length lent) (row_size k), 13) ∷ [])) refuses (answers tt)
row-order k cs e lent =
    order-map (λ s. row_to k s lent) cs refuses (answers e)
    ∙ ap (in_order cs refuses) (says-order says_put Refused (λ n. refl) Done (put_order k lent) refl)
    ∙ sym (order-append cs ((ltb (length lent) (row_size k), 13) ∷ []) refuses (answers tt))

module _ (bs : List ℕ) (fits : AreBytes bs) where
  abbrev F : Frame
  F = frame_from bs

  -- POSITION: 14, 15, 16, 15, 16, 6, 7, 8, 10
  pub position-order : position_said (frame_said bs) ≡ in_order (position_order bs) refuses (answers (position.position_in (frame_from bs)))
  unfolding position.read_position
  position-order =
      record-order bs fits layout.Position (wrong_size 4 F.n) ((position.out_of_range (position.position_in F), 10) ∷ []) position.says_position_read
      position-read.Refused (λ n. refl) position.read_position (position-read.At (position.position_in F)) refl refl

  -- NULL: 14, 15, 16, 15, 16, 6, 7, 8
  pub null_order_lem : null_said (frame_said bs) ≡ in_order (null_order bs) refuses (answers (frame_from bs).n)
  unfolding null.read_null
  null_order_lem =
      record-order bs fits layout.Null (null.too_many F.n) [] null.says_null_read null-read.Refused (λ n. refl) null.read_null
      (null-read.Null F.n) refl refl

  -- TEXT: 14, 15, 16, 15, 16, 6, 7, 8, 11, 13
  pub text-order : (buffer : List ℕ) → text_said (frame_said bs) buffer ≡ in_order (text_read_order bs buffer) refuses (answers (text.length_in (frame_from bs)))
  unfolding text.read_text
  text-order buffer =
      record-order bs fits layout.Text (text.wrong_words F.n)
      ((any_of (text.forbidden (system_from bs)) (text.text_in F), 11) ∷ (ltb (length buffer) (text.length_in F), 13) ∷ []) says_count count.Refused (λ n. refl)
      (λ f. text.read_text f buffer) (count.Of (text.length_in F)) refl refl
