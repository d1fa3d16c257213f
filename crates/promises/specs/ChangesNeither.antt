-- DEMAND 1, "A refusal .. changes neither state nor buffer": each call that is given a state or lent a buffer (RULES 10). What a call says is its
-- answer in the table's terms. Assumes nothing.
use Rattle.std.specs.Prelude.{◌≡◌, Bool, true, List, ℕ, length, take, drop}
use Rattle.answer.specs.Order.{Says, refuses, answers}
use Rattle.frame.specs.Frames.{blank}
use Rattle.frame.specs.Widths.{outside}
use Rattle.frame.specs.declared.Header.{Header}
use Rattle.frame.specs.declared.Frame.{Frame}
use Rattle.reader.specs.Reading.{fed_by, fed_all_by, ended_by, taken_by, says_answer}
use Rattle.reader.specs.Rows.{rows_by, rows_to}
use Rattle.reader.specs.declared.Reader.{Reader}
use Rattle.writer.specs.Answer.{opened_by, opened_to, written_by, written_to, says_opened, says_written}
use Rattle.frame.specs.declared.Carried.{Carried}
use Rattle.journal.specs.Journal.{recorded_by, recorded_to, kept_by, held_by, recalled_by, says_kept, says_recalled}
use Rattle.journal.specs.Words.{kept_words, held_words, recalled_words, recalled_either}
use Rattle.journal_moves.specs.Moving.{moved_by, moved_to, says_moved}
use Rattle.journal_moves.specs.declared.Way.{Way}
use Rattle.record_stages.specs.Stages.{says_count, says_made}
use Rattle.record_stages.specs.Lists.{ListLayout, made}
use Rattle.record_observations.specs.Observations.{make_observations}
use Rattle.record_observations.specs.declared.Edition.{Edition}
use Rattle.record_observations.specs.declared.Epoch.{Epoch}
use Rattle.record_observations.specs.declared.Observation.{Observation}
use Rattle.record_generals.specs.declared.GeneralHead.{GeneralHead}
use Rattle.record_generals.specs.declared.General.{General}
use Rattle.record_generals.specs.Generals.{make_generals}
use Rattle.record_generals.specs.GeneralNulls.{make_general_null}
use Rattle.record_positions.specs.Positions.{make_position}
use Rattle.record_nulls.specs.Nulls.{make_null}
use Rattle.record_texts.specs.Texts.{read_text, buffer_after, make_text}
use Rattle.record_corrections.specs.declared.Correction.{Correction}
use Rattle.record_positions.specs.declared.Position.{Position}
use Rattle.profile.specs.Cutting.{no_frames, cut_corrections, says_cut}
use Rattle.season_reports.specs.Reports.{added_by, journal_added, says_added, says_journal}
use Rattle.season_reports.specs.declared.Report.{Report}
use Rattle.printing.specs.Printing.{printed_by, printed_to, says_printed}
use Rattle.listing.specs.Listing.{piece_by, piece_text, finish_by, finish_text, line_put, line_to}
use Rattle.mender.specs.Steps.{mend_by, bytes_to, output_to, says_mended}
use Rattle.mender.specs.declared.Step.{Step}
use Rattle.mender.specs.declared.Step.TheVariants.{End}
use Rattle.listing.specs.declared.Listing.{Listing}
use Rattle.promises.specs.RecordLayouts.{EachList}

-- where the call refuses, what it leaves is what was there
abbrev pub Keeps : {A B : Type 0} → Says A → B → B → Type 0
Keeps s left was = (n : ℕ) → s ≡ refuses n → left ≡ was

pub record ChangesNeither : Type 0 where
  pub feed : (r : Reader) (b : ℕ) → Keeps (says_answer (fed_by r b).answer) (fed_by r b).reader r
  pub feed-all : (r : Reader) (bs : List ℕ) → Keeps (says_answer (fed_all_by r bs).answer) (fed_all_by r bs).reader r
  pub reader-end : (r : Reader) → Keeps (says_answer (ended_by r).answer) (ended_by r).reader r
  pub reader-take : (r : Reader) → Keeps (says_answer (taken_by r).answer) (taken_by r).reader r
  pub read-rows : (r : Reader) (bytes rows : List ℕ) → Keeps (says_answer (rows_by r bytes rows).answer) (rows_by r bytes rows).reader r
  pub read-rows-output : (r : Reader) (bytes rows : List ℕ) → Keeps (says_answer (rows_by r bytes rows).answer) (rows_to r bytes rows) rows
  pub writer-open : (buffer : List ℕ) → Keeps (says_opened (opened_by buffer)) (opened_to buffer) buffer
  pub write : (f : Frame) (c : Carried) (buffer : List ℕ) → Keeps (says_written (written_by f c buffer)) (written_to f c buffer) buffer
  pub put-frame : (f : Frame) (buffer : List ℕ) → Keeps (says_kept (recorded_by f buffer)) (recorded_to f buffer) buffer
  pub keep : (f : Frame) (buffer : List ℕ) → Keeps (says_kept (kept_by f buffer)) (held_by f buffer) buffer
  pub keep-words : (f : Frame) (buffer : List ℕ) → Keeps (says_kept (kept_words f buffer)) (held_words f buffer) buffer
  pub move : (w : Way) (bs buffer : List ℕ) → Keeps (says_moved (moved_by w bs (length buffer))) (moved_to w bs buffer) buffer
  pub read-text : (f : Frame) (buffer : List ℕ) → Keeps (says_count (read_text f buffer)) (buffer_after f buffer) buffer
  pub print : (text : List ℕ) (place : ℕ) (buffer : List ℕ) → Keeps (says_printed (printed_by text place buffer)) (printed_to text place buffer) buffer
  pub put-line : (at : ℕ) (f : Frame) (out : List ℕ) → Keeps (says_printed (line_put at f out)) (line_to at f out) out
  pub mend-bytes : (bs : List ℕ) (at : ℕ) (s : Bool) (out : List ℕ) → Keeps (says_mended (mend_by bs at s out)) (bytes_to bs s out) bs
  pub mend-output : (bs : List ℕ) (at : ℕ) (s : Bool) (out : List ℕ) → Keeps (says_mended (mend_by bs at s out)) (output_to bs at s out) out
  pub add-report : (a b : Report) → Keeps (says_added (added_by a b)) (added_by a b).report a
  pub add-journal : (a : Report) (bs : List ℕ) → Keeps (says_journal (journal_added a bs)) (journal_added a bs).report a
  pub list-piece : (l : Listing) (bs : List ℕ) (room : ℕ) → Keeps (says_answer (piece_by l bs room).answer) (piece_by l bs room).listing l
  pub list-piece-output : (l : Listing) (bs out : List ℕ) → Keeps (says_answer (piece_by l bs (length out)).answer) (piece_text l bs out) out
  pub finish : (l : Listing) (room : ℕ) → Keeps (says_answer (finish_by l room).answer) (finish_by l room).listing l
  pub finish-output : (l : Listing) (out : List ℕ) → Keeps (says_answer (finish_by l (length out)).answer) (finish_text l out) out

-- a refusal to make a list, with the blank frame
abbrev pub BlankRefused : ListLayout → Type 0
BlankRefused L = (h : Header) (es : List L.Entry) (c : ℕ) → Keeps (says_made (made L h es c)) (made L h es c).frame blank

-- a refusal is its number and nothing more (RULES 10): what else its answer has room for is zeros and a blank frame, which every call that is given
-- it refuses with 5
pub record NumberAlone : Type 0 where
  pub blank-outside : outside blank ≡ true
  pub feed-all : (r : Reader) (bs : List ℕ) → Keeps {B = ℕ × ℕ} (says_answer (fed_all_by r bs).answer) ((fed_all_by r bs).used, (fed_all_by r bs).passed) (0, 0)
  pub reader-take : (r : Reader) → Keeps {B = ℕ × Frame} (says_answer (taken_by r).answer) ((taken_by r).at, (taken_by r).frame) (0, blank)
  pub read-rows : (r : Reader) (bytes rows : List ℕ)
      → let x = rows_by r bytes rows in Keeps {B = ℕ × (ℕ × ℕ)} (says_answer x.answer) (x.used, (x.passed, x.count)) (0, (0, 0))
  pub recall : (bs : List ℕ) → Keeps (says_recalled (recalled_by bs)) (recalled_by bs).frame blank
  pub recall-words : (bs : List ℕ) → Keeps (says_recalled (recalled_words bs)) (recalled_words bs).frame blank
  pub recall-either : (bs : List ℕ) → Keeps (says_recalled (recalled_either bs)) (recalled_either bs).frame blank
  pub lists : EachList BlankRefused
  pub make-observations : (e : Edition) (h : Header) (a : Epoch) (os : List Observation) (c : ℕ)
      → Keeps (says_made (make_observations e h a os c)) (make_observations e h a os c).frame blank
  pub make-generals : (h : Header) (a : GeneralHead) (gs : List General) (c : ℕ)
      → Keeps (says_made (make_generals h a gs c)) (make_generals h a gs c).frame blank
  pub make-general-null : (h : Header) (n s : ℕ) → Keeps (says_made (make_general_null h n s)) (make_general_null h n s).frame blank
  pub make-position : (h : Header) (p : Position) → Keeps (says_made (make_position h p)) (make_position h p).frame blank
  pub make-null : (h : Header) (n : ℕ) → Keeps (says_made (make_null h n)) (make_null h n).frame blank
  pub make-text : (h : Header) (t : List ℕ) → Keeps (says_made (make_text h t)) (make_text h t).frame blank
  pub mend : (bs : List ℕ) (at : ℕ) (s : Bool) (out : List ℕ)
      → Keeps {B = Step × ℕ} (says_mended (mend_by bs at s out)) ((mend_by bs at s out).step, (mend_by bs at s out).written) (End, 0)
  pub cut-corrections : (h : Header) (es : List Correction) (c : ℕ) → Keeps (says_cut (cut_corrections h es c)) (cut_corrections h es c).frames no_frames
  pub add-journal : (a : Report) (bs : List ℕ) → Keeps (says_journal (journal_added a bs)) (journal_added a bs).used 0
  pub list-piece : (l : Listing) (bs : List ℕ) (room : ℕ)
      → Keeps {B = ℕ × ℕ} (says_answer (piece_by l bs room).answer) ((piece_by l bs room).used, (piece_by l bs room).written) (0, 0)
  pub finish : (l : Listing) (room : ℕ)
      → Keeps {B = ℕ × ℕ} (says_answer (finish_by l room).answer) ((finish_by l room).used, (finish_by l room).written) (0, 0)

-- ---- where the call answers

-- the buffer is as it was but for its first k bytes
pub record OnlyFirst (k : ℕ) (left was : List ℕ) : Type 0 where
  pub long : length left ≡ length was
  pub rest : drop k left ≡ drop k was

-- the buffer is as it was but for its bytes from a place on up to the next
pub record OnlyBetween (place next : ℕ) (left was : List ℕ) : Type 0 where
  pub long : length left ≡ length was
  pub front : take place left ≡ take place was
  pub rest : drop next left ≡ drop next was

abbrev pub Owns : {A : Type 0} → Says A → (A → ℕ) → List ℕ → List ℕ → Type 0
Owns {A} s own left was = (value : A) → s ≡ answers value → OnlyFirst (own value) left was

-- a call changes no bytes but those that it is for (RULES 10): as many as it answers, or up to the place that it answers; a value of the type Frame
-- has 31 words
pub record OnlyItsBytes : Type 0 where
  pub writer-open : (buffer : List ℕ) → Owns (says_opened (opened_by buffer)) (λ v. 1) (opened_to buffer) buffer
  pub write : (f : Frame) (c : Carried) (buffer : List ℕ) → Owns (says_written (written_by f c buffer)) (λ v. v.0) (written_to f c buffer) buffer
  pub keep : (f : Frame) (buffer : List ℕ) → length f.words ≡ 31 → Owns (says_kept (kept_by f buffer)) (λ v. v) (held_by f buffer) buffer
  pub keep-words : (f : Frame) (buffer : List ℕ) → length f.words ≡ 31 → Owns (says_kept (kept_words f buffer)) (λ v. v) (held_words f buffer) buffer
  pub move : (w : Way) (bs buffer : List ℕ) → Owns (says_moved (moved_by w bs (length buffer))) (λ v. v.1) (moved_to w bs buffer) buffer
  pub read-text : (f : Frame) (buffer : List ℕ) → Owns (says_count (read_text f buffer)) (λ v. v) (buffer_after f buffer) buffer
  pub print : (text : List ℕ) (place : ℕ) (buffer : List ℕ) (next : ℕ)
      → says_printed (printed_by text place buffer) ≡ answers next → OnlyBetween place next (printed_to text place buffer) buffer
  pub list-piece : (l : Listing) (bs out : List ℕ)
      → Owns (says_answer (piece_by l bs (length out)).answer) (λ v. (piece_by l bs (length out)).written) (piece_text l bs out) out
  pub finish : (l : Listing) (out : List ℕ)
      → Owns (says_answer (finish_by l (length out)).answer) (λ v. (finish_by l (length out)).written) (finish_text l out) out
