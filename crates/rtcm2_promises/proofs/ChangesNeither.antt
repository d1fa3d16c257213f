-- A refusal before the last stage leaves the place alone; one of the last stage is that of the package's own call. Assumes nothing.
use mathlib.Core.Path.{◌≡◌, refl, sym}
use mathlib.Core.Bool.{Bool}
use mathlib.Core.List.{List, [], ◌∷◌, ◌++◌}
use Prim.Native.Nat.{ℕ}
use lib.Dec.{ltb}
use lib.ListN.{length, drop}
use Rattle.answer.specs.Order.{Says, refuses, answers}
use Rattle.answer.proofs.OrderLaws.{refuses-apart}
use Rattle.bits.specs.Bits.{is_nonzero}
use Rattle.frame.specs.declared.Frame.{Frame}
use Rattle.frame.specs.declared.System.TheVariants.{Gps}
use Rattle.reader.specs.declared.Candidate.{Candidate}
use Rattle.reader.specs.declared.Reader.{Reader}
use Rattle.record_fields.specs.Coding.{Coding}
use Rattle.rtcm2_state.specs.State.{stored_by, start_put, state_put, says_stored}
use Rattle.rtcm2_rows.specs.Corrections as correction
use Rattle.rtcm2_rows.specs.Observations as observation
use Rattle.rtcm2_rows.specs.Generals as general
use Rattle.rtcm2_rows.specs.Tables.{table_row}
use Rattle.rtcm2.specs.Header.{headed}
use Rattle.rtcm2.specs.Frames.{frame_said, keep_said, kept_to, held_to, size_to}
use Rattle.rtcm2.specs.Answer.{and_then}
use Rattle.rtcm2.specs.Send.{pair_of, write_said, line_lent}
use Rattle.rtcm2.specs.Words.{words_kept, words_held, live_said, back_said, back_held}
use Rattle.journal.specs.Journal.{kept_by, says_kept}
use Rattle.frame.specs.Frames.{after_pair}
use native.Mathlib.Omega.{arith}
use Rattle.rtcm2.specs.Rows.{row_to, row_held}
use Rattle.rtcm2.specs.Lists.{LibraryList, entry_said, made_said}
use Rattle.rtcm2.specs.Observations as observations
use Rattle.rtcm2.specs.Generals as generals
use Rattle.rtcm2.specs.Positions as positions
use Rattle.rtcm2.specs.Beacon.{records_of, cut_said, kept_all, held_all, size_all}
use Rattle.rtcm2.specs.Nulls as nulls
use Rattle.rtcm2.specs.Texts.{text_said, text_after}
use Rattle.rtcm2.specs.Texts as texts
use Rattle.promises.specs.ChangesNeither.{Keeps}
use Rattle.promises.proofs.CarriesItsNumber.{ordered}
use Rattle.promises.proofs.ChangesNeither.{keeps, changes-neither}
use Rattle.rtcm2_promises.specs.ChangesNeither.{ListKeeps, LibraryKeeps}
use Rattle.rtcm2_promises.proofs.LibraryLists.{each-list}
use Rattle.rtcm2_promises.proofs.CarriesItsNumber.{put-ordered, put-stored}

-- what is answered of a value is refused where the value was
then-refused : {A B : Type 0} (s : Says A) (of : A → B) (n : ℕ) → and_then s (λ a. answers (of a)) ≡ refuses n → s ≡ refuses n
then-refused (answers a) of n e = let z : ◌≡◌ {A = ℕ} 0 1 = cc in absurd (omega arith)
then-refused (refuses m) of n e = cc

line-keeps : (s : Says Frame) (d29 d30 : ℕ) (line : List ℕ) → Keeps (write_said s d29 d30 line) (line_lent s d29 d30 line) line
line-keeps (answers f) d29 d30 line = changes-neither.write f (pair_of d29 d30) line
line-keeps (refuses m) d29 d30 line = λ n e. refl

words-keeps : (s : Says Frame) (d29 d30 : ℕ) (words : List ℕ) → Keeps (words_kept s d29 d30 words) (words_held s d29 d30 words) words
words-keeps (answers f) d29 d30 words = changes-neither.keep-words (after_pair (pair_of d29 d30) f) words
words-keeps (refuses m) d29 d30 words = λ n e. refl

back-keeps : (s : Says (ℕ × Frame)) (frame : List ℕ) → Keeps (back_said s frame) (back_held s frame) frame
back-keeps (answers r) frame = λ n e. changes-neither.keep r.1 frame n (then-refused (says_kept (kept_by r.1 frame)) (λ k. (k, r)) n e)
back-keeps (refuses m) frame = λ n e. refl

frame-keeps : (s : Says Frame) (buffer : List ℕ) → Keeps (kept_to s buffer) (held_to s buffer) buffer
frame-keeps (answers f) buffer = changes-neither.keep f buffer
frame-keeps (refuses m) buffer = λ n e. refl

text-keeps : (s : Says Frame) (buffer : List ℕ) → Keeps (text_said s buffer) (text_after s buffer) buffer
text-keeps (answers f) buffer = changes-neither.read-text f buffer
text-keeps (refuses m) buffer = λ n e. refl

entry-keeps : {A : Type 0} (row : Coding A) (s : Says A) (lent : List ℕ) → Keeps (row_to row s lent) (row_held row s lent) lent
entry-keeps row (answers x) lent = keeps (put-ordered row lent) (λ b. b) (λ n. lent) _ _ (λ n. refl)
entry-keeps row (refuses m) lent = λ n e. refl

-- a frame that is made or kept, and its length
made-keeps : (s : Says Frame) (frame : List ℕ) (size : ℕ) → Keeps (kept_to s frame) (held_to s frame) frame × Keeps (kept_to s frame) (size_to s frame size) size
made-keeps s frame size = (frame-keeps s frame, λ n e. rw e)

-- the three calls on a list
list-keeps : (L : LibraryList) → ListKeeps L
list-keeps L = record {
  count = λ frame count n e. rw e;
  entry = λ frame i. entry-keeps (L.row Gps) (entry_said L (frame_said frame) i);
  make = λ kind station z sequence code rows. made-keeps (made_said L (headed kind station z sequence code) rows);
}

-- frames that are cut and kept, and their length
cut_keeps : (s : Says (List Frame)) (frames : List ℕ) (size : ℕ)
    → Keeps (kept_all s frames) (held_all s frames) frames × Keeps (kept_all s frames) (size_all s frames size) size
cut_keeps s frames size = (held s, λ n e. rw e)
  where
    held : (s : Says (List Frame)) → Keeps (kept_all s frames) (held_all s frames) frames
    held (answers fs) =
        keeps (ordered {numbers = 13 ∷ []} ((ltb (length frames) (length (records_of fs)), 13) ∷ []) (length (records_of fs)) refl refl refl) (λ b. b)
        (λ n. frames) (records_of fs ++ drop (length (records_of fs)) frames) frames (λ n. refl)
    held (refuses m) = λ n e. refl

-- a state as bytes
start-keeps : (c : Candidate) (ended : Bool) (bytes : List ℕ) → Keeps (says_stored (stored_by c bytes)) (start_put c ended bytes) bytes
unfolding start_put
start-keeps c ended bytes = keeps (put-stored c bytes) (λ b. b) (λ n. bytes) _ _ (λ n. refl)

state-keeps : (r : Reader) (bytes : List ℕ) → Keeps (says_stored (stored_by r.candidate bytes)) (state_put r bytes) bytes
unfolding state_put
state-keeps r bytes = keeps (put-stored r.candidate bytes) (λ b. b) (λ n. bytes) _ _ (λ n. refl)

pub library-keeps : LibraryKeeps
library-keeps = record {
  start = λ state n e. rw e;
  counts = λ state odd even. (λ n e. rw e, λ n e. rw e);
  feed = λ state byte n e. rw e;
  feed-all = λ state bytes used passed. (λ n e. rw e, λ n e. rw e, λ n e. rw e);
  line_read = λ state bytes rows used passed count. (λ n e. rw e, λ n e. rw e, λ n e. rw e, λ n e. rw e, λ n e. rw e);
  line-end = λ state n e. rw e;
  line-take = λ state frame size at d29 d30. (λ n e. rw e, λ n e. rw e, λ n e. rw e, λ n e. rw e, λ n e. rw e, λ n e. rw e);
  line-open = changes-neither.writer-open;
  write = λ frame d29 d30 line size. (λ n e. rw e, λ n e. rw e, line-keeps (frame_said frame) d29 d30 line, λ n e. rw e);
  keep = λ kind station z sequence code bs. made-keeps (keep_said kind station z sequence code bs);
  recall = λ frame kind station z sequence code m size.
      (λ n e. rw e, λ n e. rw e, λ n e. rw e, λ n e. rw e, λ n e. rw e, λ n e. rw e, λ n e. rw e);
  keep-words = λ frame d29 d30 words size. (words-keeps (frame_said frame) d29 d30 words, λ n e. rw e);
  recall-words = λ words frame d29 d30 read size.
      (back-keeps (live_said words) frame, λ n e. rw e, λ n e. rw e, λ n e. rw e, λ n e. rw e);
  lists = each-list (λ L o. list-keeps L);
  count-observations = λ frame count n e. rw e;
  read-epoch = λ frame f s t. (λ n e. rw e, λ n e. rw e, λ n e. rw e);
  observation-at = λ e frame i. entry-keeps observation.row (observations.entry_said e (frame_said frame) i);
  make-observations = λ e kind station z sequence code f s t rows. made-keeps (observations.made_said e (headed kind station z sequence code) f s t rows);
  count-generals = λ frame count n e. rw e;
  read-head = λ frame system signal ephemeris period ionosphere. (λ n e. rw e, λ n e. rw e, λ n e. rw e, λ n e. rw e, λ n e. rw e);
  general-at = λ frame i. entry-keeps general.row (generals.entry_said (frame_said frame) i);
  make-generals = λ kind station z sequence code system signal ephemeris period ionosphere rows.
      made-keeps (generals.made_said (headed kind station z sequence code) (generals.head_of system signal ephemeris period ionosphere) rows);
  read-general-null = λ frame m system. (λ n e. rw e, λ n e. rw e);
  make-general-null = λ kind station z sequence code n system. made-keeps (generals.general_null_made (headed kind station z sequence code) n system);
  read-position = λ frame x y up. (λ n e. rw e, λ n e. rw e, λ n e. rw e);
  make-position = λ kind station z sequence code x y up. made-keeps (positions.make_said kind station z sequence code x y up);
  cut-corrections = λ kind station z sequence code rows. cut_keeps (cut_said (headed kind station z sequence code) rows);
  read-null = λ frame m n e. rw e;
  make-null = λ kind station z sequence code n. made-keeps (nulls.make_said kind station z sequence code n);
  read-text = λ frame text size. (text-keeps (frame_said frame) text, λ n e. rw e);
  make-text = λ kind station z sequence code t. made-keeps (texts.make_said kind station z sequence code t);
  prc-mm = λ scale prc stop mm. (λ n e. rw e, λ n e. rw e);
  rrc-mm-s = λ scale rrc stop rate. (λ n e. rw e, λ n e. rw e);
  stops = λ prc rrc stop n e. absurd (refuses-apart n _ (sym e));
  udre-limit-mm = λ code udre limited mm. (λ n e. rw e, λ n e. rw e);
  cn0-dbhz = λ code tracked dbhz. (λ n e. rw e, λ n e. rw e);
  letter-of = λ code letter n e. rw e;
  general-prc-mm = λ prc stop mm. (λ n e. rw e, λ n e. rw e);
  delay-mm = λ delay usable mm. (λ n e. rw e, λ n e. rw e);
  general-udre = λ code udre limited hundredths. (λ n e. rw e, λ n e. rw e);
  use-seconds = λ code seconds n e. rw e;
  mend-bytes = λ bs at searching report. changes-neither.mend-bytes bs at (is_nonzero searching) report;
  mend-report = λ bs at searching report. changes-neither.mend-output bs at (is_nonzero searching) report;
  mend-step = λ bs at searching report step n e. rw e;
  mend-read = λ bs at searching report read n e. rw e;
  mend-written = λ bs at searching report written n e. rw e;
  remainder = λ window remainder n e. absurd (refuses-apart n _ (sym e));
  put-general = λ entry lent. entry-keeps general.row (answers entry) lent;
  put-observation = λ entry lent. entry-keeps observation.row (answers entry) lent;
  put-correction = λ entry lent. entry-keeps (correction.row Gps) (answers entry) lent;
  put-numbers = λ numbers sizes lent. entry-keeps (table_row sizes) (answers numbers) lent;
  put-start = start-keeps;
  put-state = state-keeps;
}
