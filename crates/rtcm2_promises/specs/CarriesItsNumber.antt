-- DEMAND 1 of the library for C and Rust, "A refusal carries its number from the table": each call refuses exactly when a number of the order that
-- include/rtcm2.h gives applies, and with the first that does. Where a number stands twice, two conditions have it. Assumes nothing.
use Rattle.std.specs.Prelude.{not, cond, List, [], ◌∷◌, ◌++◌, ℕ, ltb, ℤ}
use Rattle.bits.specs.Fields.{AreBytes}
use Rattle.line.specs.Line.{is_data}
use Rattle.frame.specs.declared.System.TheVariants.{Gps}
use Rattle.reader.specs.Reading.{busy}
use Rattle.reader.specs.Rows.{rows_order}
use Rattle.journal.specs.Journal.{recall_order}
use Rattle.writer.specs.Answer.{open_checks}
use Rattle.reader.specs.declared.Candidate.{Candidate}
use Rattle.reader.specs.declared.Reader.{Reader}
use Rattle.rtcm2_state.specs.State.{state_in, put_checks, stored_by, says_stored}
use Rattle.rtcm2_rows.specs.Rows.{put_order, put_by, says_put}
use Rattle.rtcm2_rows.specs.Tables.{table_row}
use Rattle.rtcm2_rows.specs.Corrections as correction
use Rattle.rtcm2_rows.specs.Observations as observation
use Rattle.rtcm2_rows.specs.Generals as general
use Rattle.rtcm2.specs.Header.{headed}
use Rattle.rtcm2.specs.Frames.{frame_said, kept_to, keep_said, recall_said}
use Rattle.rtcm2.specs.Line.{started_in, counts_in, fed_in, fed_all_in, rows_in, ended_in, taken_in}
use Rattle.rtcm2.specs.Send.{open_said, write_said}
use Rattle.rtcm2.specs.Words.{words_kept, live_said, back_said}
use Rattle.rtcm2.specs.Rows.{row_to}
use Rattle.rtcm2.specs.Lists.{LibraryList, count_said, entry_said, made_said}
use Rattle.rtcm2.specs.Observations as observations
use Rattle.rtcm2.specs.Generals as generals
use Rattle.rtcm2.specs.Positions as positions
use Rattle.rtcm2.specs.Beacon.{profile_said, cut_said, kept_all}
use Rattle.rtcm2.specs.Nulls as nulls
use Rattle.rtcm2.specs.Texts as texts
use Rattle.record_values.specs.Values.{no_letter}
use Rattle.record_values.specs.GeneralValues.{outside14}
use Rattle.rtcm2.specs.Values.{prc_said, rrc_said, stops_said, limit_said, strength_said, letter_said}
use Rattle.rtcm2.specs.Values.{general_prc_said, delay_said, general_limit_said, seconds_said}
use Rattle.rtcm2.specs.Window.{remainder_said}
use Rattle.mender.specs.Steps.{mend_order}
use Rattle.rtcm2.specs.Mending.{mend_said}
use Rattle.rtcm2.specs.Orders as orders
use Rattle.rtcm2.specs.ListOrders as list-order
use Rattle.rtcm2.specs.GeneralOrders as general-order
use Rattle.promises.specs.CarriesItsNumber.{Ordered}
use Rattle.rtcm2_promises.specs.LibraryLists.{EachLibraryList}

-- a call that is given a frame: 14, 15, 16, 15, 16, the last for two reasons, then these
abbrev pub after_record : List ℕ → List ℕ
after_record numbers = 14 ∷ 15 ∷ 16 ∷ 15 ∷ 16 ∷ 16 ∷ numbers

-- a call that makes a frame of a layout: 5, a health over 7 too, 6, 7, then these
abbrev pub after_header : List ℕ → List ℕ
after_header numbers = 5 ∷ 5 ∷ 6 ∷ 7 ∷ numbers

-- the three calls on a list; an entry that is read has 10 where the list has it
pub record ListNumbers (L : LibraryList) : Type 0 where
  pub count : (bs : List ℕ) → AreBytes bs
      → Ordered (after_record (6 ∷ 7 ∷ 8 ∷ [])) (list-order.count_order L bs) (count_said L (frame_said bs))
  pub entry : (bs : List ℕ) → AreBytes bs → (i : ℕ) (lent : List ℕ)
      → Ordered (after_record (6 ∷ 7 ∷ 8 ∷ 9 ∷ cond L.plain.ranged (10 ∷ 13 ∷ []) (13 ∷ []))) (list-order.entry_order L bs i lent)
      (row_to (L.row Gps) (entry_said L (frame_said bs) i) lent)
  pub make : (kind station z sequence code : ℕ) (bs buffer : List ℕ)
      → Ordered (after_header (12 ∷ 10 ∷ 13 ∷ [])) (list-order.list_order L kind station z sequence code bs buffer)
      (kept_to (made_said L (headed kind station z sequence code) bs) buffer)

-- every exported function but the one that answers a constant, and those that put a state or an entry in bytes. The orders of
-- `stops` and `remainder` are empty: they never refuse.
pub record LibraryNumbers : Type 0 where
  -- reading the line
  pub start : (state : List ℕ) → Ordered (13 ∷ []) (orders.started_order state) (started_in state)
  pub counts : (state : List ℕ) → Ordered (5 ∷ []) (orders.held_order state []) (counts_in state)
  pub feed : (state : List ℕ) (byte : ℕ)
      → Ordered (5 ∷ 5 ∷ 3 ∷ 2 ∷ 1 ∷ []) (orders.held_order state (busy (state_in state) ++ ((not (is_data byte), 1) ∷ []))) (fed_in state byte)
  pub feed-all : (state bs : List ℕ) → Ordered (5 ∷ 5 ∷ 3 ∷ 2 ∷ []) (orders.held_order state (busy (state_in state))) (fed_all_in state bs)
  pub line_read : (state bytes rows : List ℕ)
      → Ordered (5 ∷ 5 ∷ 5 ∷ 3 ∷ 13 ∷ []) (orders.held_order state (rows_order (state_in state) rows)) (rows_in state bytes rows)
  pub line-end : (state : List ℕ) → Ordered (5 ∷ 5 ∷ 3 ∷ 2 ∷ []) (orders.held_order state (busy (state_in state))) (ended_in state)
  pub line-take : (state frame : List ℕ) → Ordered (5 ∷ 5 ∷ 4 ∷ 13 ∷ []) (orders.take_order state frame) (taken_in state frame)
  -- writing the line
  pub line-open : (line : List ℕ) → Ordered (13 ∷ []) (open_checks line) (open_said line)
  pub write : (bs : List ℕ) → AreBytes bs → (d29 d30 : ℕ) (line : List ℕ)
      → Ordered (after_record (5 ∷ 5 ∷ 7 ∷ 13 ∷ [])) (orders.write_order bs d29 d30 line) (write_said (frame_said bs) d29 d30 line)
  -- frames and their journal records
  pub keep : (kind station z sequence code : ℕ) (bs buffer : List ℕ)
      → Ordered (5 ∷ 5 ∷ 5 ∷ 5 ∷ 13 ∷ []) (orders.kept_order kind station z sequence code bs buffer) (kept_to (keep_said kind station z sequence code bs) buffer)
  pub recall : (bs : List ℕ) → Ordered (after_record []) (recall_order bs) (recall_said bs)
  -- the journal that keeps the words
  pub keep-words : (bs : List ℕ) → AreBytes bs → (d29 d30 : ℕ) (words : List ℕ)
      → Ordered (after_record (5 ∷ 13 ∷ [])) (orders.keep_words_order bs d29 d30 words) (words_kept (frame_said bs) d29 d30 words)
  pub recall-words : (bs frame : List ℕ) → Ordered (after_record (17 ∷ 13 ∷ [])) (orders.restore_order bs frame) (back_said (live_said bs) frame)
  -- each list of LibraryLists
  pub lists : EachLibraryList ListNumbers
  -- observations
  pub count-observations : (bs : List ℕ) → AreBytes bs
      → Ordered (after_record (6 ∷ 7 ∷ 8 ∷ [])) (orders.observations_counted bs) (observations.count_said (frame_said bs))
  pub read-epoch : (bs : List ℕ) → AreBytes bs
      → Ordered (after_record (6 ∷ 7 ∷ 8 ∷ 10 ∷ [])) (orders.epoch_order bs) (observations.epoch_said (frame_said bs))
  -- 5 for the edition comes behind the record's own, and first of all where a frame is made
  pub observation-at : (e : ℕ) (bs : List ℕ) → AreBytes bs → (i : ℕ) (lent : List ℕ)
      → Ordered (after_record (5 ∷ 6 ∷ 7 ∷ 8 ∷ 9 ∷ 10 ∷ 13 ∷ [])) (orders.observation_order e bs i lent)
      (row_to observation.row (observations.entry_said e (frame_said bs) i) lent)
  pub make-observations : (kind station z sequence code e frequency smoothing time : ℕ) (bs buffer : List ℕ)
      → Ordered (5 ∷ after_header (12 ∷ 10 ∷ 13 ∷ []))
      (orders.observations_order kind station z sequence code e (record { frequency = frequency; smoothing = smoothing; time = time }) bs buffer)
      (kept_to (observations.made_said e (headed kind station z sequence code) frequency smoothing time bs) buffer)
  -- the station's position
  pub read-position : (bs : List ℕ) → AreBytes bs
      → Ordered (after_record (6 ∷ 7 ∷ 8 ∷ 10 ∷ [])) (orders.position_order bs) (positions.position_said (frame_said bs))
  pub make-position : (kind station z sequence code : ℕ) (x y up : ℤ) (buffer : List ℕ)
      → Ordered (after_header (10 ∷ 13 ∷ [])) (orders.position_made_order kind station z sequence code (record { x = x; y = y; z = up }) buffer)
      (kept_to (positions.make_said kind station z sequence code x y up) buffer)
  -- general corrections: 23 between the two 8 of a list that is read
  pub count-generals : (bs : List ℕ) → AreBytes bs
      → Ordered (after_record (6 ∷ 7 ∷ 8 ∷ 23 ∷ 8 ∷ [])) (general-order.generals_order bs) (generals.count_said (frame_said bs))
  pub read-head : (bs : List ℕ) → AreBytes bs
      → Ordered (after_record (6 ∷ 7 ∷ 8 ∷ 23 ∷ 8 ∷ [])) (general-order.generals_order bs) (generals.head_said (frame_said bs))
  pub general-at : (bs : List ℕ) → AreBytes bs → (i : ℕ) (lent : List ℕ)
      → Ordered (after_record (6 ∷ 7 ∷ 8 ∷ 23 ∷ 8 ∷ 9 ∷ 10 ∷ 13 ∷ [])) (general-order.general_order bs i lent)
      (row_to general.row (generals.entry_said (frame_said bs) i) lent)
  pub make-generals : (kind station z sequence code system signal ephemeris period ionosphere : ℕ) (bs buffer : List ℕ)
      → let a = generals.head_of system signal ephemeris period ionosphere in
      Ordered (after_header (23 ∷ 12 ∷ 10 ∷ 13 ∷ [])) (general-order.generals_made_order kind station z sequence code a bs buffer)
      (kept_to (generals.made_said (headed kind station z sequence code) a bs) buffer)
  pub read-general-null : (bs : List ℕ) → AreBytes bs
      → Ordered (after_record (6 ∷ 7 ∷ 8 ∷ 23 ∷ [])) (general-order.general_null_order bs) (generals.general_null_said (frame_said bs))
  pub make-general-null : (kind station z sequence code n system : ℕ) (buffer : List ℕ)
      → Ordered (after_header (23 ∷ 12 ∷ 13 ∷ [])) (general-order.general_null_made_order kind station z sequence code n system buffer)
      (kept_to (generals.general_null_made (headed kind station z sequence code) n system) buffer)
  -- the small-beacon profile
  pub check-profile : (bs : List ℕ) → AreBytes bs
      → Ordered (after_record (7 ∷ 20 ∷ 8 ∷ 10 ∷ 11 ∷ 21 ∷ 22 ∷ [])) (orders.profile_read_order bs) (profile_said (frame_said bs))
  pub cut-corrections : (kind station z sequence code : ℕ) (bs buffer : List ℕ)
      → Ordered (after_header (12 ∷ 10 ∷ 22 ∷ 13 ∷ [])) (orders.cut_kept_order kind station z sequence code bs buffer)
      (kept_all (cut_said (headed kind station z sequence code) bs) buffer)
  -- the null frame
  pub read-null : (bs : List ℕ) → AreBytes bs → Ordered (after_record (6 ∷ 7 ∷ 8 ∷ [])) (orders.null_order bs) (nulls.null_said (frame_said bs))
  pub make-null : (kind station z sequence code n : ℕ) (buffer : List ℕ)
      → Ordered (after_header (12 ∷ 13 ∷ [])) (orders.null_made_order kind station z sequence code n buffer)
      (kept_to (nulls.make_said kind station z sequence code n) buffer)
  -- text
  pub read-text : (bs : List ℕ) → AreBytes bs → (buffer : List ℕ)
      → Ordered (after_record (6 ∷ 7 ∷ 8 ∷ 11 ∷ 13 ∷ [])) (orders.text_read_order bs buffer) (texts.text_said (frame_said bs) buffer)
  pub make-text : (kind station z sequence code : ℕ) (t buffer : List ℕ)
      → Ordered (after_header (12 ∷ 11 ∷ 13 ∷ [])) (orders.text_made_order kind station z sequence code t buffer)
      (kept_to (texts.make_said kind station z sequence code t) buffer)
  -- what a record's numbers stand for
  pub prc-mm : (scale : ℕ) (prc : ℤ) → Ordered (10 ∷ []) ((ltb 1 scale, 10) ∷ []) (prc_said scale prc)
  pub rrc-mm-s : (scale : ℕ) (rrc : ℤ) → Ordered (10 ∷ []) ((ltb 1 scale, 10) ∷ []) (rrc_said scale rrc)
  pub stops : (prc rrc : ℤ) → Ordered [] [] (stops_said prc rrc)
  pub udre-limit-mm : (code udre : ℕ) → Ordered (5 ∷ 10 ∷ []) (orders.limit_order code udre) (limit_said code udre)
  pub cn0-dbhz : (code : ℕ) → Ordered (10 ∷ []) ((ltb 31 code, 10) ∷ []) (strength_said code)
  pub letter-of : (code : ℕ) → Ordered (11 ∷ []) ((no_letter code, 11) ∷ []) (letter_said code)
  pub general-prc-mm : (prc : ℤ) → Ordered (10 ∷ []) ((outside14 prc, 10) ∷ []) (general_prc_said prc)
  pub delay-mm : (delay : ℕ) → Ordered (10 ∷ []) ((ltb 4095 delay, 10) ∷ []) (delay_said delay)
  pub general-udre : (code udre : ℕ) → Ordered (5 ∷ 10 ∷ []) (general-order.general_limit_order code udre) (general_limit_said code udre)
  pub use-seconds : (code : ℕ) → Ordered (10 ∷ []) ((ltb 3 code, 10) ∷ []) (seconds_said code)
  -- the word test of a window
  pub remainder : (window : ℕ) → Ordered [] [] (remainder_said window)
  -- a step of the mender: 13
  pub mend : (bs : List ℕ) (at searching : ℕ) (report : List ℕ) → Ordered (13 ∷ []) (mend_order report) (mend_said bs at searching report)
  -- an entry as a row of bytes
  pub put-start : (c : Candidate) (bytes : List ℕ) → Ordered (5 ∷ 13 ∷ []) (put_checks c bytes) (says_stored (stored_by c bytes))
  pub put-state : (r : Reader) (bytes : List ℕ) → Ordered (5 ∷ 13 ∷ []) (put_checks r.candidate bytes) (says_stored (stored_by r.candidate bytes))
  pub put-observation : (lent : List ℕ) → Ordered (13 ∷ []) (put_order observation.row lent) (says_put (put_by observation.row lent))
  pub put-general : (lent : List ℕ) → Ordered (13 ∷ []) (put_order general.row lent) (says_put (put_by general.row lent))
  pub put-correction : (lent : List ℕ) → Ordered (13 ∷ []) (put_order (correction.row Gps) lent) (says_put (put_by (correction.row Gps) lent))
  pub put-numbers : (sizes lent : List ℕ) → Ordered (13 ∷ []) (put_order (table_row sizes) lent) (says_put (put_by (table_row sizes) lent))
