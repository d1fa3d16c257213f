-- DEMAND 1 of the library for C and Rust, call by call: general corrections, types 41 and 42, as bytes and in calls. Assumes nothing.
use Rattle.std.specs.Prelude.{List, ℕ, ℤ}
use Rattle.rtcm2_rows.specs.Rows.{entries_from, put_by, row_after}
use Rattle.rtcm2_rows.specs.Generals.{row}
use Rattle.rtcm2.specs.Answer.{number_of, left}
use Rattle.rtcm2.specs.Header.{headed}
use Rattle.rtcm2.specs.Frames.{frame_said, kept_to, held_to, size_to}
use Rattle.rtcm2.specs.Rows.{row_to, row_held}
use Rattle.rtcm2.specs.Generals.{count_said, head_said, system_said, signal_said, ephemeris_said, period_said, ionosphere_said, head_of, entry_said, made_said}
use Rattle.rtcm2.specs.Generals.{general_null_said, words_left, system_left, general_null_made}
use Rattle.rtcm2.specs.Values.{general_prc_said, stop_flag, exact_or0, delay_said, usable_flag, delay_or0, general_limit_said, limit_flag, limit_or0, seconds_said}
use Rattle.promises.specs.Answered.{Answered, AnsweredLent}
use Rattle.rtcm2_rows.proofs.general.generals_in
use Rattle.rtcm2_rows.proofs.general.put_general
use Rattle.rtcm2.proofs.general.rtcm2_count_generals
use Rattle.rtcm2.proofs.general.rtcm2_read_head
use Rattle.rtcm2.proofs.general.rtcm2_general_at
use Rattle.rtcm2.proofs.general.rtcm2_make_generals
use Rattle.rtcm2.proofs.general.rtcm2_read_general_null
use Rattle.rtcm2.proofs.general.rtcm2_make_general_null
use Rattle.rtcm2.proofs.values.rtcm2_general_prc_mm
use Rattle.rtcm2.proofs.values.rtcm2_delay_mm
use Rattle.rtcm2.proofs.values.rtcm2_general_udre
use Rattle.rtcm2.proofs.values.rtcm2_use_seconds

pub record LibraryGenerals : Type 2 where
  -- rtcm2_rows::general
  pub generals-in : Answered generals_in.Reads.Asked generals_in.Reads.Learnt generals_in.Statement.statement
      (λ κs (bytes, _). entries_from row 22 bytes.now)
  pub put-general : AnsweredLent put_general.Reads.Asked put_general.Reads.Learnt put_general.Statement.statement
      (λ κs (_, (bytes, _)). put_by row bytes.now)
      (λ κs (_, (bytes, _)). bytes.now) (λ κs (entry, (bytes, _)). row_after row entry bytes.now)
  -- rtcm2::general: the list
  pub count-generals : AnsweredLent rtcm2_count_generals.Reads.Asked rtcm2_count_generals.Reads.Learnt rtcm2_count_generals.Statement.statement
      (λ κs (frame, _). number_of (count_said (frame_said frame.now)))
      (λ κs (_, (count, _)). count.now) (λ κs (frame, (count, _)). left (count_said (frame_said frame.now)) (λ k. k) count.now)
  pub read-head : AnsweredLent {B = ℕ × (ℕ × (ℕ × (ℕ × ℕ)))}
      rtcm2_read_head.Reads.Asked rtcm2_read_head.Reads.Learnt rtcm2_read_head.Statement.statement
      (λ κs (frame, _). number_of (head_said (frame_said frame.now)))
      (λ κs (_, (system, (signal, (ephemeris, (period, (ionosphere, _)))))).
      (system.now, (signal.now, (ephemeris.now, (period.now, ionosphere.now)))))
      (λ κs (frame, (system, (signal, (ephemeris, (period, (ionosphere, _)))))). let s = head_said (frame_said frame.now) in (
        left s system_said system.now,
        (
          left s signal_said signal.now,
          (
            left s ephemeris_said ephemeris.now,
            (left s period_said period.now, left s ionosphere_said ionosphere.now),
          ),
        ),
      ))
  pub general-at : AnsweredLent rtcm2_general_at.Reads.Asked rtcm2_general_at.Reads.Learnt rtcm2_general_at.Statement.statement
      (λ κs (frame, (index, (bytes, _))). number_of (row_to row (entry_said (frame_said frame.now) index) bytes.now))
      (λ κs (_, (_, (bytes, _))). bytes.now)
      (λ κs (frame, (index, (bytes, _))). row_held row (entry_said (frame_said frame.now) index) bytes.now)
  pub make-generals : AnsweredLent {B = List ℕ × ℕ}
      rtcm2_make_generals.Reads.Asked rtcm2_make_generals.Reads.Learnt rtcm2_make_generals.Statement.statement
      (λ κs (kind, (station, (z, (sequence, (health, (system, (signal, (ephemeris, (period, (ionosphere, (rows, (frame, _)))))))))))).
      number_of (kept_to (made_said (headed kind station z sequence health) (head_of system signal ephemeris period ionosphere) rows.now) frame.now))
      (λ κs (_, (_, (_, (_, (_, (_, (_, (_, (_, (_, (_, (frame, (length, _))))))))))))). (frame.now, length.now))
      (λ κs (kind, (station, (z, (sequence, (health, (system, (signal, (ephemeris, (period, (ionosphere, (rows, (frame, (length, _))))))))))))).
      let s = made_said (headed kind station z sequence health) (head_of system signal ephemeris period ionosphere) rows.now in
      (held_to s frame.now, size_to s frame.now length.now))
  -- the null frame
  pub read-general-null : AnsweredLent {B = ℕ × ℕ}
      rtcm2_read_general_null.Reads.Asked rtcm2_read_general_null.Reads.Learnt rtcm2_read_general_null.Statement.statement
      (λ κs (frame, _). number_of (general_null_said (frame_said frame.now)))
      (λ κs (_, (n, (system, _))). (n.now, system.now))
      (λ κs (frame, (n, (system, _))). let s = general_null_said (frame_said frame.now) in (left s words_left n.now, left s system_left system.now))
  pub make-general-null : AnsweredLent {B = List ℕ × ℕ}
      rtcm2_make_general_null.Reads.Asked rtcm2_make_general_null.Reads.Learnt rtcm2_make_general_null.Statement.statement
      (λ κs (kind, (station, (z, (sequence, (health, (n, (system, (frame, _)))))))).
      number_of (kept_to (general_null_made (headed kind station z sequence health) n system) frame.now))
      (λ κs (_, (_, (_, (_, (_, (_, (_, (frame, (length, _))))))))). (frame.now, length.now))
      (λ κs (kind, (station, (z, (sequence, (health, (n, (system, (frame, (length, _))))))))).
      let s = general_null_made (headed kind station z sequence health) n system in (held_to s frame.now, size_to s frame.now length.now))
  -- rtcm2::values
  pub general-prc-mm : AnsweredLent {B = ℕ × ℤ}
      rtcm2_general_prc_mm.Reads.Asked rtcm2_general_prc_mm.Reads.Learnt rtcm2_general_prc_mm.Statement.statement
      (λ κs (prc, _). number_of (general_prc_said prc))
      (λ κs (_, (stop, (mm, _))). (stop.now, mm.now))
      (λ κs (prc, (stop, (mm, _))). let s = general_prc_said prc in (left s stop_flag stop.now, left s exact_or0 mm.now))
  pub delay-mm : AnsweredLent {B = ℕ × ℕ} rtcm2_delay_mm.Reads.Asked rtcm2_delay_mm.Reads.Learnt rtcm2_delay_mm.Statement.statement
      (λ κs (delay, _). number_of (delay_said delay))
      (λ κs (_, (usable, (mm, _))). (usable.now, mm.now))
      (λ κs (delay, (usable, (mm, _))). let s = delay_said delay in (left s usable_flag usable.now, left s delay_or0 mm.now))
  pub general-udre : AnsweredLent {B = ℕ × ℕ}
      rtcm2_general_udre.Reads.Asked rtcm2_general_udre.Reads.Learnt rtcm2_general_udre.Statement.statement
      (λ κs (health, (udre, _)). number_of (general_limit_said health udre))
      (λ κs (_, (_, (limited, (hundredths, _)))). (limited.now, hundredths.now))
      (λ κs (health, (udre, (limited, (hundredths, _)))). let s = general_limit_said health udre in
      (left s limit_flag limited.now, left s limit_or0 hundredths.now))
  pub use-seconds : AnsweredLent rtcm2_use_seconds.Reads.Asked rtcm2_use_seconds.Reads.Learnt rtcm2_use_seconds.Statement.statement
      (λ κs (code, _). number_of (seconds_said code))
      (λ κs (_, (seconds, _)). seconds.now) (λ κs (code, (seconds, _)). left (seconds_said code) (λ k. k) seconds.now)
