-- DEMAND 1 of the library for C and Rust, ".. and changes neither state nor buffer": after a refusal every place lent to the function holds what it
-- held. What is left there is said as in the function's field of LibraryCalls, LibraryRecords or LibraryLists. Assumes nothing.
use Rattle.std.specs.Prelude.{Bool, List, ℕ, ℤ, length}
use Rattle.bits.specs.Bits.{val}
use Rattle.frame.specs.declared.System.TheVariants.{Gps}
use Rattle.reader.specs.Rows.{rows_to}
use Rattle.reader.specs.declared.Candidate.{Candidate}
use Rattle.reader.specs.declared.Reader.{Reader}
use Rattle.record_corrections.specs.declared.Correction.{Correction}
use Rattle.record_observations.specs.declared.Observation.{Observation}
use Rattle.record_generals.specs.declared.General.{General}
use Rattle.journal.specs.Journal.{held_by}
use Rattle.writer.specs.Answer.{opened_to}
use Rattle.rtcm2_state.specs.State.{state_in, stored_by, start_put, state_put, says_stored}
use Rattle.rtcm2_rows.specs.Rows.{put_by, row_after, says_put}
use Rattle.rtcm2_rows.specs.Tables.{table_row}
use Rattle.rtcm2_rows.specs.Corrections as entry-corrections
use Rattle.rtcm2_rows.specs.Observations as entry-observations
use Rattle.rtcm2_rows.specs.Generals as entry-generals
use Rattle.rtcm2.specs.Answer.{left}
use Rattle.rtcm2.specs.Line.{started_in, counts_in, fed_in, fed_all_in, rows_in, ended_in, taken_in}
use Rattle.rtcm2.specs.Send.{open_said, write_said, d29_after, d30_after, line_lent}
use Rattle.rtcm2.specs.Words.{words_kept, words_held, words_size, live_said, back_said, back_held, d29_back, d30_back, read_back, length_back}
use Rattle.rtcm2.specs.Send as send
use Rattle.rtcm2.specs.Frames.{frame_said, kept_to, keep_said, held_to, size_to}
use Rattle.rtcm2.specs.Frames.{recall_said, kind_said, station_said, z_count_said, sequence_said, health_said, n_said, length_said}
use Rattle.rtcm2.specs.Rows.{row_to, row_held}
use Rattle.rtcm2.specs.Header.{headed}
use Rattle.rtcm2.specs.Lists.{LibraryList, count_said, entry_said, made_said}
use Rattle.rtcm2.specs.Observations as observations
use Rattle.rtcm2.specs.Generals as generals
use Rattle.rtcm2.specs.Positions as positions
use Rattle.rtcm2.specs.Beacon.{cut_said, kept_all, held_all, size_all}
use Rattle.rtcm2.specs.Nulls as nulls
use Rattle.rtcm2.specs.Texts as texts
use Rattle.rtcm2.specs.Values.{prc_said, stop_flag, exact_or0, rrc_said, stops_said, limit_said, limit_flag, limit_or0, strength_said, tracked_flag, db_hz_or0}
use Rattle.rtcm2.specs.Values.{letter_said, general_prc_said, delay_said, usable_flag, delay_or0, general_limit_said, seconds_said}
use Rattle.rtcm2.specs.Window.{remainder_said}
use Rattle.bits.specs.Bits.{is_nonzero}
use Rattle.mender.specs.Run.{on_of}
use Rattle.mender.specs.Steps.{bytes_to, output_to}
use Rattle.rtcm2.specs.Mending.{step_number, mend_said}
use Rattle.promises.specs.ChangesNeither.{Keeps}
use Rattle.rtcm2_promises.specs.LibraryLists.{EachLibraryList}

-- the three calls on a list
pub record ListKeeps (L : LibraryList) : Type 0 where
  pub count : (frame : List ℕ) (count : ℕ) → let s = count_said L (frame_said frame) in Keeps s (left s (λ k. k) count) count
  pub entry : (frame : List ℕ) (i : ℕ) (lent : List ℕ) → let s = entry_said L (frame_said frame) i in
      Keeps (row_to (L.row Gps) s lent) (row_held (L.row Gps) s lent) lent
  pub make : (kind station z sequence code : ℕ) (rows frame : List ℕ) (size : ℕ) → let s = made_said L (headed kind station z sequence code) rows in
      Keeps (kept_to s frame) (held_to s frame) frame × Keeps (kept_to s frame) (size_to s frame size) size

-- every function that is lent a place, and each of its places
pub record LibraryKeeps : Type 0 where
  -- reading the line
  pub start : (state : List ℕ) → Keeps (started_in state) (left (started_in state) (λ r. state_put r state) state) state
  pub counts : (state : List ℕ) (odd even : ℕ) → let s = counts_in state in Keeps s (left s (λ t. t.odd) odd) odd × Keeps s (left s (λ t. t.even) even) even
  pub feed : (state : List ℕ) (byte : ℕ) → Keeps (fed_in state byte) (left (fed_in state byte) (λ n. state_put n.reader state) state) state
  pub feed-all : (state bytes : List ℕ) (used passed : ℕ) → let s = fed_all_in state bytes in
      Keeps s (left s (λ f. state_put f.reader state) state) state
      × Keeps s (left s (λ f. f.used) used) used × Keeps s (left s (λ f. f.passed) passed) passed
  pub line_read : (state bytes rows : List ℕ) (used passed count : ℕ) → let s = rows_in state bytes rows in
      Keeps s (left s (λ x. state_put x.reader state) state) state × Keeps s (left s (λ x. rows_to (state_in state) bytes rows) rows) rows
      × Keeps s (left s (λ x. x.used) used) used × Keeps s (left s (λ x. x.passed) passed) passed × Keeps s (left s (λ x. x.count) count) count
  pub line-end : (state : List ℕ)
      → Keeps (ended_in state) (left (ended_in state) (λ n. start_put n.reader.candidate n.reader.ended state) state) state
  pub line-take : (state frame : List ℕ) (size at d29 d30 : ℕ) → let s = taken_in state frame in
      Keeps s (left s (λ v. start_put v.1.reader.candidate v.1.reader.ended state) state) state
      × Keeps s (left s (λ v. held_by v.1.frame frame) frame) frame × Keeps s (left s (λ v. v.0) size) size × Keeps s (left s (λ v. v.1.at) at) at
      × Keeps s (left s (λ v. v.1.frame.carried.d29) d29) d29 × Keeps s (left s (λ v. v.1.frame.carried.d30) d30) d30
  -- writing the line
  pub line-open : (line : List ℕ) → Keeps (open_said line) (opened_to line) line
  pub write : (frame : List ℕ) (d29 d30 : ℕ) (line : List ℕ) (size : ℕ) → let f = frame_said frame in let s = write_said f d29 d30 line in
      Keeps s (d29_after f d29 d30 line) d29 × Keeps s (d30_after f d29 d30 line) d30 × Keeps s (line_lent f d29 d30 line) line
      × Keeps s (send.count_after f d29 d30 line size) size
  -- frames and their journal records
  pub keep : (kind station z sequence code : ℕ) (bs frame : List ℕ) (size : ℕ) → let s = keep_said kind station z sequence code bs in
      Keeps (kept_to s frame) (held_to s frame) frame × Keeps (kept_to s frame) (size_to s frame size) size
  pub recall : (frame : List ℕ) (kind station z sequence code n size : ℕ) → let s = recall_said frame in
      Keeps s (left s kind_said kind) kind × Keeps s (left s station_said station) station × Keeps s (left s z_count_said z) z
      × Keeps s (left s sequence_said sequence) sequence × Keeps s (left s health_said code) code × Keeps s (left s n_said n) n
      × Keeps s (left s length_said size) size
  -- the journal that keeps the words
  pub keep-words : (frame : List ℕ) (d29 d30 : ℕ) (words : List ℕ) (size : ℕ) → let f = frame_said frame in let s = words_kept f d29 d30 words in
      Keeps s (words_held f d29 d30 words) words × Keeps s (words_size f d29 d30 words size) size
  pub recall-words : (words frame : List ℕ) (d29 d30 read size : ℕ) → let s = back_said (live_said words) frame in
      Keeps s (back_held (live_said words) frame) frame × Keeps s (left s d29_back d29) d29 × Keeps s (left s d30_back d30) d30
      × Keeps s (left s read_back read) read × Keeps s (left s length_back size) size
  -- each list of LibraryLists
  pub lists : EachLibraryList ListKeeps
  -- observations
  pub count-observations : (frame : List ℕ) (count : ℕ) → let s = observations.count_said (frame_said frame) in Keeps s (left s (λ k. k) count) count
  pub read-epoch : (frame : List ℕ) (frequency smoothing time : ℕ) → let s = observations.epoch_said (frame_said frame) in
      Keeps s (left s observations.frequency_said frequency) frequency × Keeps s (left s observations.smoothing_said smoothing) smoothing
      × Keeps s (left s observations.time_said time) time
  pub observation-at : (e : ℕ) (frame : List ℕ) (i : ℕ) (lent : List ℕ) → let s = observations.entry_said e (frame_said frame) i in
      Keeps (row_to entry-observations.row s lent) (row_held entry-observations.row s lent) lent
  pub make-observations : (e kind station z sequence code frequency smoothing time : ℕ) (rows frame : List ℕ) (size : ℕ)
      → let s = observations.made_said e (headed kind station z sequence code) frequency smoothing time rows in
      Keeps (kept_to s frame) (held_to s frame) frame × Keeps (kept_to s frame) (size_to s frame size) size
  -- general corrections
  pub count-generals : (frame : List ℕ) (count : ℕ) → let s = generals.count_said (frame_said frame) in Keeps s (left s (λ k. k) count) count
  pub read-head : (frame : List ℕ) (system signal ephemeris period ionosphere : ℕ) → let s = generals.head_said (frame_said frame) in
      Keeps s (left s generals.system_said system) system × Keeps s (left s generals.signal_said signal) signal
      × Keeps s (left s generals.ephemeris_said ephemeris) ephemeris × Keeps s (left s generals.period_said period) period
      × Keeps s (left s generals.ionosphere_said ionosphere) ionosphere
  pub general-at : (frame : List ℕ) (i : ℕ) (lent : List ℕ) → let s = generals.entry_said (frame_said frame) i in
      Keeps (row_to entry-generals.row s lent) (row_held entry-generals.row s lent) lent
  pub make-generals : (kind station z sequence code system signal ephemeris period ionosphere : ℕ) (rows frame : List ℕ) (size : ℕ)
      → let s = generals.made_said (headed kind station z sequence code) (generals.head_of system signal ephemeris period ionosphere) rows in
      Keeps (kept_to s frame) (held_to s frame) frame × Keeps (kept_to s frame) (size_to s frame size) size
  pub read-general-null : (frame : List ℕ) (n system : ℕ) → let s = generals.general_null_said (frame_said frame) in
      Keeps s (left s generals.words_left n) n × Keeps s (left s generals.system_left system) system
  pub make-general-null : (kind station z sequence code n system : ℕ) (frame : List ℕ) (size : ℕ)
      → let s = generals.general_null_made (headed kind station z sequence code) n system in
      Keeps (kept_to s frame) (held_to s frame) frame × Keeps (kept_to s frame) (size_to s frame size) size
  -- the station's position
  pub read-position : (frame : List ℕ) (x y up : ℤ) → let s = positions.position_said (frame_said frame) in
      Keeps s (left s positions.x_said x) x × Keeps s (left s positions.y_said y) y × Keeps s (left s positions.z_said up) up
  pub make-position : (kind station z sequence code : ℕ) (x y up : ℤ) (frame : List ℕ) (size : ℕ)
      → let s = positions.make_said kind station z sequence code x y up in
      Keeps (kept_to s frame) (held_to s frame) frame × Keeps (kept_to s frame) (size_to s frame size) size
  -- the small-beacon profile
  pub cut-corrections : (kind station z sequence code : ℕ) (rows frames : List ℕ) (size : ℕ)
      → let s = cut_said (headed kind station z sequence code) rows in
      Keeps (kept_all s frames) (held_all s frames) frames × Keeps (kept_all s frames) (size_all s frames size) size
  -- the null frame
  pub read-null : (frame : List ℕ) (n : ℕ) → let s = nulls.null_said (frame_said frame) in Keeps s (left s (λ k. k) n) n
  pub make-null : (kind station z sequence code n : ℕ) (frame : List ℕ) (size : ℕ) → let s = nulls.make_said kind station z sequence code n in
      Keeps (kept_to s frame) (held_to s frame) frame × Keeps (kept_to s frame) (size_to s frame size) size
  -- text
  pub read-text : (frame text : List ℕ) (size : ℕ) → let f = frame_said frame in
      Keeps (texts.text_said f text) (texts.text_after f text) text × Keeps (texts.text_said f text) (texts.count_after f text size) size
  pub make-text : (kind station z sequence code : ℕ) (t frame : List ℕ) (size : ℕ) → let s = texts.make_said kind station z sequence code t in
      Keeps (kept_to s frame) (held_to s frame) frame × Keeps (kept_to s frame) (size_to s frame size) size
  -- what a record's numbers stand for
  pub prc-mm : (scale : ℕ) (prc : ℤ) (stop : ℕ) (mm : ℤ) → let s = prc_said scale prc in
      Keeps s (left s stop_flag stop) stop × Keeps s (left s exact_or0 mm) mm
  pub rrc-mm-s : (scale : ℕ) (rrc : ℤ) (stop : ℕ) (rate : ℤ) → let s = rrc_said scale rrc in
      Keeps s (left s stop_flag stop) stop × Keeps s (left s exact_or0 rate) rate
  pub stops : (prc rrc : ℤ) (stop : ℕ) → Keeps (stops_said prc rrc) (left (stops_said prc rrc) val stop) stop
  pub udre-limit-mm : (code udre limited mm : ℕ) → let s = limit_said code udre in
      Keeps s (left s limit_flag limited) limited × Keeps s (left s limit_or0 mm) mm
  pub cn0-dbhz : (code tracked dbhz : ℕ) → let s = strength_said code in
      Keeps s (left s tracked_flag tracked) tracked × Keeps s (left s db_hz_or0 dbhz) dbhz
  pub letter-of : (code letter : ℕ) → Keeps (letter_said code) (left (letter_said code) (λ k. k) letter) letter
  pub general-prc-mm : (prc : ℤ) (stop : ℕ) (mm : ℤ) → let s = general_prc_said prc in
      Keeps s (left s stop_flag stop) stop × Keeps s (left s exact_or0 mm) mm
  pub delay-mm : (delay usable mm : ℕ) → let s = delay_said delay in Keeps s (left s usable_flag usable) usable × Keeps s (left s delay_or0 mm) mm
  pub general-udre : (code udre limited hundredths : ℕ) → let s = general_limit_said code udre in
      Keeps s (left s limit_flag limited) limited × Keeps s (left s limit_or0 hundredths) hundredths
  pub use-seconds : (code seconds : ℕ) → Keeps (seconds_said code) (left (seconds_said code) (λ k. k) seconds) seconds
  -- the word test of a window
  pub mend-bytes : (bs : List ℕ) (at searching : ℕ) (report : List ℕ)
      → Keeps (mend_said bs at searching report) (bytes_to bs (is_nonzero searching) report) bs
  pub mend-report : (bs : List ℕ) (at searching : ℕ) (report : List ℕ)
      → Keeps (mend_said bs at searching report) (output_to bs at (is_nonzero searching) report) report
  pub mend-step : (bs : List ℕ) (at searching : ℕ) (report : List ℕ) (step : ℕ)
      → Keeps (mend_said bs at searching report) (left (mend_said bs at searching report) (λ v. step_number v.0) step) step
  pub mend-read : (bs : List ℕ) (at searching : ℕ) (report : List ℕ) (read : ℕ)
      → Keeps (mend_said bs at searching report) (left (mend_said bs at searching report) (λ v. on_of v.0 (length bs)) read) read
  pub mend-written : (bs : List ℕ) (at searching : ℕ) (report : List ℕ) (written : ℕ)
      → Keeps (mend_said bs at searching report) (left (mend_said bs at searching report) (λ v. v.1) written) written
  pub remainder : (window remainder : ℕ) → Keeps (remainder_said window) (left (remainder_said window) (λ k. k) remainder) remainder
  -- an entry as a row of bytes
  pub put-general : (entry : General) (lent : List ℕ) → Keeps (says_put (put_by entry-generals.row lent)) (row_after entry-generals.row entry lent) lent
  pub put-observation : (entry : Observation) (lent : List ℕ)
      → Keeps (says_put (put_by entry-observations.row lent)) (row_after entry-observations.row entry lent) lent
  pub put-correction : (entry : Correction) (lent : List ℕ)
      → Keeps (says_put (put_by (entry-corrections.row Gps) lent)) (row_after (entry-corrections.row Gps) entry lent) lent
  pub put-numbers : (numbers sizes lent : List ℕ) → Keeps (says_put (put_by (table_row sizes) lent)) (row_after (table_row sizes) numbers lent) lent
  -- a state as bytes
  pub put-start : (c : Candidate) (ended : Bool) (bytes : List ℕ) → Keeps (says_stored (stored_by c bytes)) (start_put c ended bytes) bytes
  pub put-state : (r : Reader) (bytes : List ℕ) → Keeps (says_stored (stored_by r.candidate bytes)) (state_put r bytes) bytes
