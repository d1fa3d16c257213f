-- DEMAND 1 of the library for C and Rust, call by call: states as bytes, and the functions of the library but for those of records. Assumes nothing.
use Rattle.std.specs.Prelude.{cond, List, ℕ, ℤ, length}
use Rattle.bits.specs.Bits.{val}
use Rattle.reader.specs.Reading.{fed_by}
use Rattle.reader.specs.Rows.{rows_to}
use Rattle.rtcm2_state.specs.Holding.{quiet_in}
use Rattle.rtcm2_state.specs.State.{state_size, holds_state, state_in, stored_by, start_put, state_put}
use Rattle.rtcm2.specs.Answer.{number_of, left}
use Rattle.rtcm2.specs.Line.{started_in, counts_in, fed_in, fed_all_in, rows_in, ended_in, taken_in}
use Rattle.journal.specs.Journal.{held_by}
use Rattle.rtcm2.specs.Send.{open_said, write_said, d29_after, d30_after, line_lent}
use Rattle.writer.specs.Answer.{opened_to}
use Rattle.rtcm2.specs.Frames.{frame_said, kept_to, keep_said, held_to, size_to, recall_said, kind_said}
use Rattle.rtcm2.specs.Frames.{station_said, z_count_said, sequence_said, health_said, n_said, length_said}
use Rattle.rtcm2.specs.Words.{words_kept, words_held, words_size, live_said, back_said, back_held, d29_back, d30_back, read_back, length_back}
use Rattle.rtcm2.specs.Header.{headed}
use Rattle.rtcm2.specs.Beacon.{profile_said, cut_said, kept_all, held_all, size_all}
use Rattle.rtcm2.specs.Values.{prc_said, stop_flag, exact_or0, rrc_said, stops_said, limit_said, limit_flag, limit_or0, strength_said, tracked_flag, db_hz_or0}
use Rattle.rtcm2.specs.Values.{letter_said}
use Rattle.rtcm2.specs.Window.{remainder_said}
use Rattle.bits.specs.Bits.{is_nonzero}
use Rattle.mender.specs.Run.{on_of}
use Rattle.mender.specs.Steps.{bytes_to, output_to}
use Rattle.rtcm2.specs.Mending.{step_number, mend_said}
use Rattle.rtcm2.specs.Send as send
use Rattle.rtcm2_state.proofs.holds_state
use Rattle.rtcm2_state.proofs.state_in
use Rattle.rtcm2_state.proofs.candidate_in
use Rattle.rtcm2_state.proofs.hold.hold
use Rattle.rtcm2_state.proofs.put_start
use Rattle.rtcm2_state.proofs.put_state
use Rattle.rtcm2.proofs.listening.rtcm2_state_size
use Rattle.rtcm2.proofs.listening.rtcm2_start
use Rattle.rtcm2.proofs.listening.rtcm2_feed
use Rattle.rtcm2.proofs.listening.rtcm2_feed_all
use Rattle.rtcm2.proofs.listening.rtcm2_counts
use Rattle.rtcm2.proofs.listening.rtcm2_end
use Rattle.rtcm2.proofs.listening.rtcm2_take
use Rattle.rtcm2.proofs.turns.rtcm2_read
use Rattle.rtcm2.proofs.send.rtcm2_open as rtcm2-open
use Rattle.rtcm2.proofs.send.rtcm2_write
use Rattle.rtcm2.proofs.frames.rtcm2_keep
use Rattle.rtcm2.proofs.frames.rtcm2_recall
use Rattle.rtcm2.proofs.words.rtcm2_keep_words
use Rattle.rtcm2.proofs.words.rtcm2_recall_words
use Rattle.rtcm2.proofs.beacon.rtcm2_check_profile
use Rattle.rtcm2.proofs.beacon.rtcm2_cut_corrections
use Rattle.rtcm2.proofs.values.rtcm2_prc_mm
use Rattle.rtcm2.proofs.values.rtcm2_rrc_mm_s
use Rattle.rtcm2.proofs.values.rtcm2_stops
use Rattle.rtcm2.proofs.values.rtcm2_udre_limit_mm
use Rattle.rtcm2.proofs.values.rtcm2_cn0_dbhz
use Rattle.rtcm2.proofs.values.rtcm2_letter_of
use Rattle.rtcm2.proofs.window.rtcm2_remainder
use Rattle.rtcm2.proofs.mending.rtcm2_mend
use Rattle.promises.specs.Answered.{Answered, AnsweredLent}

pub record LibraryCalls : Type 2 where
  -- rtcm2_state
  pub holds-state : Answered holds_state.Reads.Asked holds_state.Reads.Learnt holds_state.Statement.statement
      (λ κs (bytes, _). holds_state bytes.now)
  pub state-in : Answered state_in.Reads.Asked state_in.Reads.Learnt state_in.Statement.statement
      (λ κs (bytes, _). state_in bytes.now)
  pub candidate-in : Answered candidate_in.Reads.Asked candidate_in.Reads.Learnt candidate_in.Statement.statement
      (λ κs (bytes, _). (state_in bytes.now).candidate)
  pub hold : AnsweredLent hold.Reads.Asked hold.Reads.Learnt hold.Statement.statement
      (λ κs (byte, (bytes, _)). quiet_in bytes.now byte)
      (λ κs (_, (bytes, _)). bytes.now)
      (λ κs (byte, (bytes, _)). cond (quiet_in bytes.now byte) (state_put (fed_by (state_in bytes.now) byte).reader bytes.now) bytes.now)
  pub put-start : AnsweredLent put_start.Reads.Asked put_start.Reads.Learnt put_start.Statement.statement
      (λ κs (c, (_, (bytes, _))). stored_by c bytes.now)
      (λ κs (_, (_, (bytes, _))). bytes.now) (λ κs (c, (ended, (bytes, _))). start_put c ended bytes.now)
  pub put-state : AnsweredLent put_state.Reads.Asked put_state.Reads.Learnt put_state.Statement.statement
      (λ κs (reader, (bytes, _)). stored_by reader.candidate bytes.now)
      (λ κs (_, (bytes, _)). bytes.now) (λ κs (reader, (bytes, _)). state_put reader bytes.now)
  -- rtcm2::listening
  pub state-size : Answered rtcm2_state_size.Reads.Asked rtcm2_state_size.Reads.Learnt rtcm2_state_size.Statement.statement
      (λ κs a. state_size)
  pub start : AnsweredLent rtcm2_start.Reads.Asked rtcm2_start.Reads.Learnt rtcm2_start.Statement.statement
      (λ κs (state, _). number_of (started_in state.now))
      (λ κs (state, _). state.now) (λ κs (state, _). left (started_in state.now) (λ r. state_put r state.now) state.now)
  pub counts : AnsweredLent {B = ℕ × ℕ} rtcm2_counts.Reads.Asked rtcm2_counts.Reads.Learnt rtcm2_counts.Statement.statement
      (λ κs (state, _). number_of (counts_in state.now))
      (λ κs (_, (odd, (even, _))). (odd.now, even.now))
      (λ κs (state, (odd, (even, _))). let s = counts_in state.now in (left s (λ t. t.odd) odd.now, left s (λ t. t.even) even.now))
  pub feed : AnsweredLent rtcm2_feed.Reads.Asked rtcm2_feed.Reads.Learnt rtcm2_feed.Statement.statement
      (λ κs (state, (byte, _)). number_of (fed_in state.now byte))
      (λ κs (state, _). state.now)
      (λ κs (state, (byte, _)). left (fed_in state.now byte) (λ n. state_put n.reader state.now) state.now)
  pub feed-all : AnsweredLent {B = List ℕ × (ℕ × ℕ)} rtcm2_feed_all.Reads.Asked rtcm2_feed_all.Reads.Learnt rtcm2_feed_all.Statement.statement
      (λ κs (state, (bytes, _)). number_of (fed_all_in state.now bytes.now))
      (λ κs (state, (_, (used, (passed, _)))). (state.now, (used.now, passed.now)))
      (λ κs (state, (bytes, (used, (passed, _)))). let s = fed_all_in state.now bytes.now in
      (left s (λ f. state_put f.reader state.now) state.now, (left s (λ f. f.used) used.now, left s (λ f. f.passed) passed.now)))
  pub line_read : AnsweredLent {B = List ℕ × (List ℕ × (ℕ × (ℕ × ℕ)))} rtcm2_read.Reads.Asked rtcm2_read.Reads.Learnt rtcm2_read.Statement.statement
      (λ κs (state, (bytes, (rows, _))). number_of (rows_in state.now bytes.now rows.now))
      (λ κs (state, (_, (rows, (used, (passed, (count, _)))))). (state.now, (rows.now, (used.now, (passed.now, count.now)))))
      (λ κs (state, (bytes, (rows, (used, (passed, (count, _)))))). let s = rows_in state.now bytes.now rows.now in (
        left s (λ x. state_put x.reader state.now) state.now,
        (
          left s (λ x. rows_to (state_in state.now) bytes.now rows.now) rows.now,
          (left s (λ x. x.used) used.now, (left s (λ x. x.passed) passed.now, left s (λ x. x.count) count.now)),
        ),
      ))
  pub line-end : AnsweredLent rtcm2_end.Reads.Asked rtcm2_end.Reads.Learnt rtcm2_end.Statement.statement
      (λ κs (state, _). number_of (ended_in state.now))
      (λ κs (state, _). state.now)
      (λ κs (state, _). left (ended_in state.now) (λ n. start_put n.reader.candidate n.reader.ended state.now) state.now)
  pub line-take : AnsweredLent {B = List ℕ × (List ℕ × (ℕ × (ℕ × (ℕ × ℕ))))} rtcm2_take.Reads.Asked rtcm2_take.Reads.Learnt rtcm2_take.Statement.statement
      (λ κs (state, (frame, _)). number_of (taken_in state.now frame.now))
      (λ κs (state, (frame, (length, (at, (d29, (d30, _)))))). (state.now, (frame.now, (length.now, (at.now, (d29.now, d30.now))))))
      (λ κs (state, (frame, (length, (at, (d29, (d30, _)))))). let s = taken_in state.now frame.now in (
        left s (λ v. start_put v.1.reader.candidate v.1.reader.ended state.now) state.now,
        (
          left s (λ v. held_by v.1.frame frame.now) frame.now,
          (
            left s (λ v. v.0) length.now,
            (
              left s (λ v. v.1.at) at.now,
              (left s (λ v. v.1.frame.carried.d29) d29.now, left s (λ v. v.1.frame.carried.d30) d30.now),
            ),
          ),
        ),
      ))
  -- rtcm2::send
  pub line-open : AnsweredLent rtcm2-open.Reads.Asked rtcm2-open.Reads.Learnt rtcm2-open.Statement.statement
      (λ κs (line, _). number_of (open_said line.now))
      (λ κs (line, _). line.now) (λ κs (line, _). opened_to line.now)
  pub write : AnsweredLent {B = ℕ × (ℕ × (List ℕ × ℕ))} rtcm2_write.Reads.Asked rtcm2_write.Reads.Learnt rtcm2_write.Statement.statement
      (λ κs (frame, (d29, (d30, (line, _)))). number_of (write_said (frame_said frame.now) d29.now d30.now line.now))
      (λ κs (_, (d29, (d30, (line, (length, _))))). (d29.now, (d30.now, (line.now, length.now))))
      (λ κs (frame, (d29, (d30, (line, (length, _))))). let s = frame_said frame.now in (
        d29_after s d29.now d30.now line.now,
        (
          d30_after s d29.now d30.now line.now,
          (line_lent s d29.now d30.now line.now, send.count_after s d29.now d30.now line.now length.now),
        ),
      ))
  -- rtcm2::frames
  pub keep : AnsweredLent {B = List ℕ × ℕ} rtcm2_keep.Reads.Asked rtcm2_keep.Reads.Learnt rtcm2_keep.Statement.statement
      (λ κs (kind, (station, (z, (sequence, (health, (bytes, (frame, _))))))).
      number_of (kept_to (keep_said kind station z sequence health bytes.now) frame.now))
      (λ κs (_, (_, (_, (_, (_, (_, (frame, (length, _)))))))). (frame.now, length.now))
      (λ κs (kind, (station, (z, (sequence, (health, (bytes, (frame, (length, _)))))))). let s = keep_said kind station z sequence health bytes.now in
      (held_to s frame.now, size_to s frame.now length.now))
  pub recall : AnsweredLent {B = ℕ × (ℕ × (ℕ × (ℕ × (ℕ × (ℕ × ℕ)))))}
      rtcm2_recall.Reads.Asked rtcm2_recall.Reads.Learnt rtcm2_recall.Statement.statement
      (λ κs (frame, _). number_of (recall_said frame.now))
      (λ κs (_, (kind, (station, (z, (sequence, (health, (n, (length, _)))))))).
      (kind.now, (station.now, (z.now, (sequence.now, (health.now, (n.now, length.now)))))))
      (λ κs (frame, (kind, (station, (z, (sequence, (health, (n, (length, _)))))))). let s = recall_said frame.now in (
        left s kind_said kind.now,
        (
          left s station_said station.now,
          (
            left s z_count_said z.now,
            (left s sequence_said sequence.now, (left s health_said health.now, (left s n_said n.now, left s length_said length.now))),
          ),
        ),
      ))
  -- rtcm2::words
  pub keep-words : AnsweredLent {B = List ℕ × ℕ} rtcm2_keep_words.Reads.Asked rtcm2_keep_words.Reads.Learnt rtcm2_keep_words.Statement.statement
      (λ κs (frame, (d29, (d30, (words, _)))). number_of (words_kept (frame_said frame.now) d29 d30 words.now))
      (λ κs (_, (_, (_, (words, (length, _))))). (words.now, length.now))
      (λ κs (frame, (d29, (d30, (words, (length, _))))). let s = frame_said frame.now in
      (words_held s d29 d30 words.now, words_size s d29 d30 words.now length.now))
  pub recall-words : AnsweredLent {B = List ℕ × (ℕ × (ℕ × (ℕ × ℕ)))}
      rtcm2_recall_words.Reads.Asked rtcm2_recall_words.Reads.Learnt rtcm2_recall_words.Statement.statement
      (λ κs (words, (frame, _)). number_of (back_said (live_said words.now) frame.now))
      (λ κs (_, (frame, (d29, (d30, (read, (length, _)))))). (frame.now, (d29.now, (d30.now, (read.now, length.now)))))
      (λ κs (words, (frame, (d29, (d30, (read, (length, _)))))). let s = live_said words.now in let b = back_said s frame.now in
      (back_held s frame.now, (left b d29_back d29.now, (left b d30_back d30.now, (left b read_back read.now, left b length_back length.now)))))
  -- rtcm2::beacon
  pub check-profile : Answered rtcm2_check_profile.Reads.Asked rtcm2_check_profile.Reads.Learnt rtcm2_check_profile.Statement.statement
      (λ κs (frame, _). number_of (profile_said (frame_said frame.now)))
  pub cut-corrections : AnsweredLent {B = List ℕ × ℕ}
      rtcm2_cut_corrections.Reads.Asked rtcm2_cut_corrections.Reads.Learnt rtcm2_cut_corrections.Statement.statement
      (λ κs (kind, (station, (z, (sequence, (health, (rows, (frames, _))))))).
      number_of (kept_all (cut_said (headed kind station z sequence health) rows.now) frames.now))
      (λ κs (_, (_, (_, (_, (_, (_, (frames, (length, _)))))))). (frames.now, length.now))
      (λ κs (kind, (station, (z, (sequence, (health, (rows, (frames, (length, _)))))))).
      let s = cut_said (headed kind station z sequence health) rows.now in
      (held_all s frames.now, size_all s frames.now length.now))
  -- rtcm2::values
  pub prc-mm : AnsweredLent {B = ℕ × ℤ} rtcm2_prc_mm.Reads.Asked rtcm2_prc_mm.Reads.Learnt rtcm2_prc_mm.Statement.statement
      (λ κs (scale, (prc, _)). number_of (prc_said scale prc))
      (λ κs (_, (_, (stop, (mm, _)))). (stop.now, mm.now))
      (λ κs (scale, (prc, (stop, (mm, _)))). let s = prc_said scale prc in (left s stop_flag stop.now, left s exact_or0 mm.now))
  pub rrc-mm-s : AnsweredLent {B = ℕ × ℤ} rtcm2_rrc_mm_s.Reads.Asked rtcm2_rrc_mm_s.Reads.Learnt rtcm2_rrc_mm_s.Statement.statement
      (λ κs (scale, (rrc, _)). number_of (rrc_said scale rrc))
      (λ κs (_, (_, (stop, (rate, _)))). (stop.now, rate.now))
      (λ κs (scale, (rrc, (stop, (rate, _)))). let s = rrc_said scale rrc in (left s stop_flag stop.now, left s exact_or0 rate.now))
  pub stops : AnsweredLent rtcm2_stops.Reads.Asked rtcm2_stops.Reads.Learnt rtcm2_stops.Statement.statement
      (λ κs (prc, (rrc, _)). number_of (stops_said prc rrc))
      (λ κs (_, (_, (stop, _))). stop.now) (λ κs (prc, (rrc, (stop, _))). left (stops_said prc rrc) val stop.now)
  pub udre-limit-mm : AnsweredLent {B = ℕ × ℕ}
      rtcm2_udre_limit_mm.Reads.Asked rtcm2_udre_limit_mm.Reads.Learnt rtcm2_udre_limit_mm.Statement.statement
      (λ κs (health, (udre, _)). number_of (limit_said health udre))
      (λ κs (_, (_, (limited, (mm, _)))). (limited.now, mm.now))
      (λ κs (health, (udre, (limited, (mm, _)))). let s = limit_said health udre in
      (left s limit_flag limited.now, left s limit_or0 mm.now))
  pub cn0-dbhz : AnsweredLent {B = ℕ × ℕ} rtcm2_cn0_dbhz.Reads.Asked rtcm2_cn0_dbhz.Reads.Learnt rtcm2_cn0_dbhz.Statement.statement
      (λ κs (code, _). number_of (strength_said code))
      (λ κs (_, (tracked, (dbhz, _))). (tracked.now, dbhz.now))
      (λ κs (code, (tracked, (dbhz, _))). let s = strength_said code in (left s tracked_flag tracked.now, left s db_hz_or0 dbhz.now))
  pub letter-of : AnsweredLent rtcm2_letter_of.Reads.Asked rtcm2_letter_of.Reads.Learnt rtcm2_letter_of.Statement.statement
      (λ κs (code, _). number_of (letter_said code))
      (λ κs (_, (letter, _)). letter.now) (λ κs (code, (letter, _)). left (letter_said code) (λ k. k) letter.now)
  -- rtcm2::window
  pub remainder : AnsweredLent rtcm2_remainder.Reads.Asked rtcm2_remainder.Reads.Learnt rtcm2_remainder.Statement.statement
      (λ κs (window, _). number_of (remainder_said window))
      (λ κs (_, (remainder, _)). remainder.now) (λ κs (window, (remainder, _)). left (remainder_said window) (λ k. k) remainder.now)
  -- the mender
  pub mend : AnsweredLent {B = List ℕ × (List ℕ × (ℕ × (ℕ × ℕ)))} rtcm2_mend.Reads.Asked rtcm2_mend.Reads.Learnt rtcm2_mend.Statement.statement
      (λ κs (bytes, (at, (searching, (report, _)))). number_of (mend_said bytes.now at searching report.now))
      (λ κs (bytes, (_, (_, (report, (step, (read, (written, _))))))). (bytes.now, (report.now, (step.now, (read.now, written.now)))))
      (λ κs (bytes, (at, (searching, (report, (step, (read, (written, _))))))). let s = mend_said bytes.now at searching report.now in (
        bytes_to bytes.now (is_nonzero searching) report.now,
        (
          output_to bytes.now at (is_nonzero searching) report.now,
          (
            left s (λ v. step_number v.0) step.now,
            (left s (λ v. on_of v.0 (length bytes.now)) read.now, left s (λ v. v.1) written.now),
          ),
        ),
      ))
