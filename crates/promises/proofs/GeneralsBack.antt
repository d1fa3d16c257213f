-- Types 41 and 42: what was made reads back, after any pair too, and what can be sent is written and reads back from the line; what their
-- readers say. Assumes nothing.
use mathlib.Core.Path.{◌≡◌, refl, ap, ◌∙◌}
use mathlib.Core.Bool.{Bool, true, false, cond, ◌||◌}
use mathlib.Core.List.{List, [], ◌∷◌, ◌++◌}
use Prim.Native.Nat.{ℕ}
use lib.ListN.{take}
use Rattle.answer.specs.Order.{refuses, answers, Check}
use Rattle.answer.proofs.OrderLaws.{refuses-apart}
use Rattle.bits.specs.Rows.{words_in}
use Rattle.frame.specs.Frames.{after_pair}
use Rattle.frame.specs.Widths.{any_of, header_outside, pair_outside, late}
use Rattle.frame.specs.declared.Header.{Header}
use Rattle.frame.specs.declared.Carried.{Carried}
use Rattle.frame.specs.declared.Frame.{Frame}
use Rattle.frame.specs.declared.Layout.TheVariants as layout
use Rattle.frame.proofs.FrameLaws.{after-inside}
use Rattle.record_fields.specs.Coding.{frame_bits, entry_bits, frame_after}
use Rattle.record_stages.specs.Stages.{wrong_count, wrong_size, make_order, says_count}
use Rattle.record_generals.specs.declared.GeneralHead.{GeneralHead}
use Rattle.record_generals.specs.declared.General.{General}
use Rattle.record_generals.specs.declared.HeadRead.{HeadRead}
use Rattle.record_generals.specs.declared.HeadRead.TheVariants as head
use Rattle.record_generals.specs.declared.GeneralRead.{GeneralRead}
use Rattle.record_generals.specs.declared.GeneralRead.TheVariants as read
use Rattle.record_generals.specs.declared.GeneralNullRead.{GeneralNullRead}
use Rattle.record_generals.specs.declared.GeneralNullRead.TheVariants as null
use Rattle.record_generals.specs.Generals.{other_system, head_bits, head_out, delay_width, coding, out_of_range, fill, most_generals, make_generals}
use Rattle.record_generals.specs.Generals.{says_head_read, says_general_read}
use Rattle.record_generals.specs.GeneralRounds.{GeneralsMade, SendableGenerals}
use Rattle.record_generals.specs.GeneralNulls.{system_bits, other_than_null, make_general_null, says_general_null_read, GeneralNullMade, SendableGeneralNull}
use Rattle.record_laws.proofs.PairLaws.{generals-count, head-same, general-entry, general-null-same}
use Rattle.record_laws.proofs.GeneralTrips.{generals-sent}
use Rattle.record_laws.proofs.GeneralNullTrips.{general-null-sent}
use Rattle.promises.specs.GeneralsBack.{GeneralsBack, GeneralNullBack}
use Rattle.promises.specs.ReadsBack.{ReadsBack}
use Rattle.promises.proofs.CarriesItsNumber.{says-inj}
use Rattle.promises.proofs.Sending.{sent-reads-back}

-- ---- what was made reads back, in the table's terms

pub generals-back : (h : Header) (a : GeneralHead) (gs : List General) (c : ℕ) (d : General) (f : Frame) → GeneralsMade h a gs c d f
    → GeneralsBack h a gs c d f
generals-back h a gs c d f m = record {
  header = m.header;
  inside = m.inside;
  counted = ap says_count m.counts;
  head = ap says_head_read m.head;
  each = λ i l. ap says_general_read (m.entries i l);
  n = m.n;
  fill = m.fill;
}

pub general-null-back : (h : Header) (n s : ℕ) (f : Frame) → GeneralNullMade h n s f → GeneralNullBack h n s f
general-null-back h n s f m = record { header = m.header; inside = m.inside; reads = ap says_general_null_read m.reads; n = m.n; fill = m.fill }

-- ---- and after any pair too

module _ (k : Carried) (p : pair_outside k ≡ false) where
  generals-unseen : (h : Header) (a : GeneralHead) (gs : List General) (c : ℕ) (d : General) (f : Frame) → GeneralsBack h a gs c d f
      → GeneralsBack h a gs c d (after_pair k f)
  unfolding frame_bits after_pair
  generals-unseen h a gs c d f b = record {
    header = b.header;
    inside = after-inside k f p b.inside;
    counted = ap says_count (generals-count k f p b.inside) ∙ b.counted;
    head = ap says_head_read (head-same k f p b.inside) ∙ b.head;
    each = λ i l. ap says_general_read (general-entry k f p b.inside i) ∙ b.each i l;
    n = b.n;
    fill = b.fill;
  }

  general-null-unseen : (h : Header) (n s : ℕ) (f : Frame) → GeneralNullBack h n s f → GeneralNullBack h n s (after_pair k f)
  unfolding frame_bits after_pair
  general-null-unseen h n s f b = record {
    header = b.header;
    inside = after-inside k f p b.inside;
    reads = ap says_general_null_read (general-null-same k f p b.inside) ∙ b.reads;
    n = b.n;
    fill = b.fill;
  }

-- ---- what can be sent is written and reads back

-- the checks of making and the words of the frame
abbrev pub general_checks : Header → GeneralHead → List General → ℕ → List Check
general_checks h a gs c =
    let d = delay_width a.ionosphere in
    make_order layout.General h ((other_system a.system, 23) ∷ (wrong_count (most_generals d) c, 12) ∷ (head_out a || any_of (out_of_range d) (take c gs), 10) ∷ [])

abbrev pub general_words_of : GeneralHead → List General → ℕ → List ℕ
general_words_of a gs c = words_in fill (head_bits a ++ entry_bits (coding (delay_width a.ionosphere)) (take c gs))

abbrev pub null_checks : Header → ℕ → ℕ → List Check
null_checks h n s = (header_outside h, 5) ∷ (other_than_null h.kind, 6) ∷ (late h.z, 7) ∷ (other_system s, 23) ∷ (wrong_size 1 n, 12) ∷ []

abbrev pub null_words_of : ℕ → List ℕ
null_words_of s = words_in fill (system_bits s ++ entry_bits (coding 0) [])

pub generals-written : (h : Header) (a : GeneralHead) (gs : List General) (c : ℕ) (d : General) → SendableGenerals h a gs c d
    → ReadsBack (make_generals h a gs c) (GeneralsBack h a gs c d)
unfolding make_generals frame_after
generals-written h a gs c d s =
    let sent = generals-sent h a gs c d s in
    sent-reads-back h (general_checks h a gs c) (general_words_of a gs c) (GeneralsMade h a gs c d) (GeneralsBack h a gs c d) (generals-back h a gs c d)
    (λ k o. generals-unseen k o h a gs c d) sent s.header.hour sent.reads.header sent.reads.inside

pub general-null-written : (h : Header) (n s : ℕ) → SendableGeneralNull h n s → ReadsBack (make_general_null h n s) (GeneralNullBack h n s)
unfolding make_general_null frame_after
general-null-written h n s r =
    let sent = general-null-sent h n s r in
    sent-reads-back h (null_checks h n s) (null_words_of s) (GeneralNullMade h n s) (GeneralNullBack h n s) (general-null-back h n s)
    (λ k o. general-null-unseen k o h n s) sent r.hour sent.reads.header sent.reads.inside

-- ---- what a reader says, and its answer

pub head-told : (x : HeadRead) (a : GeneralHead) → says_head_read x ≡ answers a → x ≡ head.Head a
head-told (head.Head b) a h = ap head.Head (says-inj h)
head-told (head.Refused n) a h = absurd (refuses-apart n a h)

pub general-told : (x : GeneralRead) (g : General) → says_general_read x ≡ answers g → x ≡ read.Entry g
general-told (read.Entry b) g h = ap read.Entry (says-inj h)
general-told (read.Refused n) g h = absurd (refuses-apart n g h)

pub general-null-told : (x : GeneralNullRead) (n s : ℕ) → says_general_null_read x ≡ answers (n, s) → x ≡ null.Null n s
general-null-told (null.Null m r) n s h = ap (λ (v : ℕ × ℕ). null.Null v.0 v.1) (says-inj h)
general-null-told (null.Refused m) n s h = absurd (refuses-apart m (n, s) h)

-- a satellite held to its range, in the table's terms
pub general-says : (b : Bool) (g : General) → says_general_read (cond b (read.Refused 10) (read.Entry g)) ≡ cond b (refuses 10) (answers g)
general-says true g = refl
general-says false g = refl
