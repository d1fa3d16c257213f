-- DEMAND 1 of the library for C and Rust, call by call: entries of records as bytes, and the functions that read and make records. Those of lists
-- stand in LibraryLists, those of general corrections in LibraryGenerals. Assumes nothing.
use Rattle.std.specs.Prelude.{List, ℕ, ℤ, length, take}
use Rattle.frame.specs.declared.System.TheVariants.{Gps}
use Rattle.record_fields.specs.Tables.{no_rows, put_rows}
use Rattle.rtcm2_rows.specs.Rows.{row_size, count_of, entries_from, put_by, row_after}
use Rattle.rtcm2_rows.specs.Tables.{table_row}
use Rattle.rtcm2.specs.Answer.{number_of, left}
use Rattle.rtcm2.specs.Frames.{frame_said, kept_to, held_to, size_to}
use Rattle.rtcm2.specs.Rows.{row_to, row_held}
use Rattle.rtcm2.specs.Header.{headed}
use Rattle.rtcm2.specs.Positions.{position_said, x_said, y_said, z_said}
use Rattle.rtcm2.specs.Nulls.{null_said}
use Rattle.rtcm2.specs.Texts.{text_said, text_after}
use Rattle.rtcm2_rows.specs.Corrections as entry-corrections
use Rattle.rtcm2_rows.specs.Observations as entry-observations
use Rattle.rtcm2.specs.Observations as observations
use Rattle.rtcm2.specs.Positions as positions
use Rattle.rtcm2.specs.Nulls as nulls
use Rattle.rtcm2.specs.Texts as texts
use Rattle.rtcm2_rows.proofs.row.count_of
use Rattle.rtcm2_rows.proofs.correction.corrections_in
use Rattle.rtcm2_rows.proofs.correction.put_correction
use Rattle.rtcm2_rows.proofs.observation.observations_in
use Rattle.rtcm2_rows.proofs.observation.put_observation
use Rattle.rtcm2_rows.proofs.table.rows_in
use Rattle.rtcm2_rows.proofs.table.put_numbers
use Rattle.rtcm2.proofs.observation.rtcm2_count_observations
use Rattle.rtcm2.proofs.observation.rtcm2_read_epoch
use Rattle.rtcm2.proofs.observation.rtcm2_observation_at
use Rattle.rtcm2.proofs.observation.rtcm2_make_observations
use Rattle.rtcm2.proofs.position.rtcm2_read_position
use Rattle.rtcm2.proofs.position.rtcm2_make_position
use Rattle.rtcm2.proofs.null.rtcm2_read_null
use Rattle.rtcm2.proofs.null.rtcm2_make_null
use Rattle.rtcm2.proofs.text.rtcm2_read_text
use Rattle.rtcm2.proofs.text.rtcm2_make_text
use Rattle.promises.specs.Answered.{Answered, AnsweredLent}

pub record LibraryRecords : Type 2 where
  -- rtcm2_rows::row
  pub count-of : Answered count_of.Reads.Asked count_of.Reads.Learnt count_of.Statement.statement
      (λ κs (size, (length, _)). count_of size length)
  -- rtcm2_rows::observation
  pub observations-in : Answered observations_in.Reads.Asked observations_in.Reads.Learnt observations_in.Statement.statement
      (λ κs (bytes, _). entries_from entry-observations.row 15 bytes.now)
  pub put-observation : AnsweredLent put_observation.Reads.Asked put_observation.Reads.Learnt put_observation.Statement.statement
      (λ κs (_, (bytes, _)). put_by entry-observations.row bytes.now)
      (λ κs (_, (bytes, _)). bytes.now) (λ κs (entry, (bytes, _)). row_after entry-observations.row entry bytes.now)
  -- rtcm2_rows::correction
  pub corrections-in : Answered corrections_in.Reads.Asked corrections_in.Reads.Learnt corrections_in.Statement.statement
      (λ κs (system, (bytes, _)). entries_from (entry-corrections.row system) 18 bytes.now)
  pub put-correction : AnsweredLent put_correction.Reads.Asked put_correction.Reads.Learnt put_correction.Statement.statement
      (λ κs (_, (bytes, _)). put_by (entry-corrections.row Gps) bytes.now)
      (λ κs (_, (bytes, _)). bytes.now) (λ κs (entry, (bytes, _)). row_after (entry-corrections.row Gps) entry bytes.now)
  -- rtcm2_rows::table
  pub rows-in : Answered rows_in.Reads.Asked rows_in.Reads.Learnt rows_in.Statement.statement
      (λ κs (limit, (sizes, (widths, (least, (most, (bytes, _)))))). put_rows widths.now least.now most.now
      (take (count_of (row_size (table_row sizes)) (length bytes.now)) (entries_from (table_row sizes) limit bytes.now)) no_rows)
  pub put-numbers : AnsweredLent put_numbers.Reads.Asked put_numbers.Reads.Learnt put_numbers.Statement.statement
      (λ κs (_, (sizes, (bytes, _))). put_by (table_row sizes) bytes.now)
      (λ κs (_, (_, (bytes, _))). bytes.now) (λ κs (numbers, (sizes, (bytes, _))). row_after (table_row sizes) numbers bytes.now)
  -- rtcm2::observation
  pub count-observations : AnsweredLent
      rtcm2_count_observations.Reads.Asked rtcm2_count_observations.Reads.Learnt rtcm2_count_observations.Statement.statement
      (λ κs (frame, _). number_of (observations.count_said (frame_said frame.now)))
      (λ κs (_, (count, _)). count.now) (λ κs (frame, (count, _)). left (observations.count_said (frame_said frame.now)) (λ k. k) count.now)
  pub read-epoch : AnsweredLent {B = ℕ × (ℕ × ℕ)}
      rtcm2_read_epoch.Reads.Asked rtcm2_read_epoch.Reads.Learnt rtcm2_read_epoch.Statement.statement
      (λ κs (frame, _). number_of (observations.epoch_said (frame_said frame.now)))
      (λ κs (_, (frequency, (smoothing, (time, _)))). (frequency.now, (smoothing.now, time.now)))
      (λ κs (frame, (frequency, (smoothing, (time, _)))). let s = observations.epoch_said (frame_said frame.now) in
      (left s observations.frequency_said frequency.now, (left s observations.smoothing_said smoothing.now, left s observations.time_said time.now)))
  pub observation-at : AnsweredLent rtcm2_observation_at.Reads.Asked rtcm2_observation_at.Reads.Learnt rtcm2_observation_at.Statement.statement
      (λ κs (edition, (frame, (index, (bytes, _)))).
      number_of (row_to entry-observations.row (observations.entry_said edition (frame_said frame.now) index) bytes.now))
      (λ κs (_, (_, (_, (bytes, _)))). bytes.now)
      (λ κs (edition, (frame, (index, (bytes, _)))).
      row_held entry-observations.row (observations.entry_said edition (frame_said frame.now) index) bytes.now)
  pub make-observations : AnsweredLent {B = List ℕ × ℕ}
      rtcm2_make_observations.Reads.Asked rtcm2_make_observations.Reads.Learnt rtcm2_make_observations.Statement.statement
      (λ κs (edition, (kind, (station, (z, (sequence, (health, (frequency, (smoothing, (time, (rows, (frame, _))))))))))).
      number_of (kept_to (observations.made_said edition (headed kind station z sequence health) frequency smoothing time rows.now) frame.now))
      (λ κs (_, (_, (_, (_, (_, (_, (_, (_, (_, (_, (frame, (length, _)))))))))))). (frame.now, length.now))
      (λ κs (edition, (kind, (station, (z, (sequence, (health, (frequency, (smoothing, (time, (rows, (frame, (length, _)))))))))))).
      let s = observations.made_said edition (headed kind station z sequence health) frequency smoothing time rows.now in
      (held_to s frame.now, size_to s frame.now length.now))
  -- rtcm2::position
  pub read-position : AnsweredLent {B = ℤ × (ℤ × ℤ)}
      rtcm2_read_position.Reads.Asked rtcm2_read_position.Reads.Learnt rtcm2_read_position.Statement.statement
      (λ κs (frame, _). number_of (position_said (frame_said frame.now)))
      (λ κs (_, (x_cm, (y_cm, (z_cm, _)))). (x_cm.now, (y_cm.now, z_cm.now)))
      (λ κs (frame, (x_cm, (y_cm, (z_cm, _)))). let s = position_said (frame_said frame.now) in
      (left s x_said x_cm.now, (left s y_said y_cm.now, left s z_said z_cm.now)))
  pub make-position : AnsweredLent {B = List ℕ × ℕ}
      rtcm2_make_position.Reads.Asked rtcm2_make_position.Reads.Learnt rtcm2_make_position.Statement.statement
      (λ κs (kind, (station, (z, (sequence, (health, (x_cm, (y_cm, (z_cm, (frame, _))))))))).
      number_of (kept_to (positions.make_said kind station z sequence health x_cm y_cm z_cm) frame.now))
      (λ κs (_, (_, (_, (_, (_, (_, (_, (_, (frame, (length, _)))))))))). (frame.now, length.now))
      (λ κs (kind, (station, (z, (sequence, (health, (x_cm, (y_cm, (z_cm, (frame, (length, _)))))))))).
      let s = positions.make_said kind station z sequence health x_cm y_cm z_cm in
      (held_to s frame.now, size_to s frame.now length.now))
  -- rtcm2::null
  pub read-null : AnsweredLent rtcm2_read_null.Reads.Asked rtcm2_read_null.Reads.Learnt rtcm2_read_null.Statement.statement
      (λ κs (frame, _). number_of (null_said (frame_said frame.now)))
      (λ κs (_, (n, _)). n.now) (λ κs (frame, (n, _)). left (null_said (frame_said frame.now)) (λ k. k) n.now)
  pub make-null : AnsweredLent {B = List ℕ × ℕ} rtcm2_make_null.Reads.Asked rtcm2_make_null.Reads.Learnt rtcm2_make_null.Statement.statement
      (λ κs (kind, (station, (z, (sequence, (health, (n, (frame, _))))))).
      number_of (kept_to (nulls.make_said kind station z sequence health n) frame.now))
      (λ κs (_, (_, (_, (_, (_, (_, (frame, (length, _)))))))). (frame.now, length.now))
      (λ κs (kind, (station, (z, (sequence, (health, (n, (frame, (length, _)))))))). let s = nulls.make_said kind station z sequence health n in
      (held_to s frame.now, size_to s frame.now length.now))
  -- rtcm2::text
  pub read-text : AnsweredLent {B = List ℕ × ℕ} rtcm2_read_text.Reads.Asked rtcm2_read_text.Reads.Learnt rtcm2_read_text.Statement.statement
      (λ κs (frame, (text, _)). number_of (text_said (frame_said frame.now) text.now))
      (λ κs (_, (text, (length, _))). (text.now, length.now))
      (λ κs (frame, (text, (length, _))). let s = frame_said frame.now in
      (text_after s text.now, texts.count_after s text.now length.now))
  pub make-text : AnsweredLent {B = List ℕ × ℕ} rtcm2_make_text.Reads.Asked rtcm2_make_text.Reads.Learnt rtcm2_make_text.Statement.statement
      (λ κs (kind, (station, (z, (sequence, (health, (text, (frame, _))))))).
      number_of (kept_to (texts.make_said kind station z sequence health text.now) frame.now))
      (λ κs (_, (_, (_, (_, (_, (_, (frame, (length, _)))))))). (frame.now, length.now))
      (λ κs (kind, (station, (z, (sequence, (health, (text, (frame, (length, _)))))))). let s = texts.make_said kind station z sequence health text.now in
      (held_to s frame.now, size_to s frame.now length.now))
