-- THE LISTS of the library for C and Rust, one for each plain list of the package, and DEMAND 1 of their calls, three for each. What is said of a
-- list stands over the list (CarriesItsNumber, ChangesNeither, ReadsBack). Assumes nothing.
use Rattle.std.specs.Prelude.{List, ℕ}
use Rattle.frame.specs.declared.System.TheVariants.{Gps}
use Rattle.rtcm2.specs.Answer.{number_of, left}
use Rattle.rtcm2.specs.Frames.{frame_said, kept_to, held_to, size_to}
use Rattle.rtcm2.specs.Header.{headed}
use Rattle.rtcm2.specs.Rows.{row_to, row_held}
use Rattle.rtcm2.specs.Lists.{LibraryList, count_said, entry_said, made_said}
use Rattle.rtcm2.specs.Corrections.{correction_list}
use Rattle.rtcm2.specs.Healths.{health_list}
use Rattle.rtcm2.proofs.correction.rtcm2_count_corrections
use Rattle.rtcm2.proofs.correction.rtcm2_correction_at
use Rattle.rtcm2.proofs.correction.rtcm2_make_corrections
use Rattle.rtcm2.proofs.health.rtcm2_count_healths
use Rattle.rtcm2.proofs.health.rtcm2_health_at
use Rattle.rtcm2.proofs.health.rtcm2_make_healths
use Rattle.promises.specs.Answered.{AnsweredLent}
use Rattle.promises.specs.RecordLayouts.{PlainList, of_corrections, of_healths}

-- the list of the library for each plain list of the package; this holds of each
abbrev pub library_list_of : PlainList → LibraryList
library_list_of of_corrections = correction_list
library_list_of of_healths = health_list

abbrev pub EachLibraryList : (LibraryList → Type 0) → Type 0
EachLibraryList Holds = (l : PlainList) → Holds (library_list_of l)

pub record LibraryLists : Type 2 where
  -- rtcm2::correction
  pub count-corrections : AnsweredLent
      rtcm2_count_corrections.Reads.Asked rtcm2_count_corrections.Reads.Learnt rtcm2_count_corrections.Statement.statement
      (λ κs (frame, _). number_of (count_said correction_list (frame_said frame.now)))
      (λ κs (_, (count, _)). count.now) (λ κs (frame, (count, _)). left (count_said correction_list (frame_said frame.now)) (λ k. k) count.now)
  pub correction-at : AnsweredLent rtcm2_correction_at.Reads.Asked rtcm2_correction_at.Reads.Learnt rtcm2_correction_at.Statement.statement
      (λ κs (frame, (index, (bytes, _))). number_of (row_to (correction_list.row Gps) (entry_said correction_list (frame_said frame.now) index) bytes.now))
      (λ κs (_, (_, (bytes, _))). bytes.now)
      (λ κs (frame, (index, (bytes, _))). row_held (correction_list.row Gps) (entry_said correction_list (frame_said frame.now) index) bytes.now)
  pub make-corrections : AnsweredLent {B = List ℕ × ℕ}
      rtcm2_make_corrections.Reads.Asked rtcm2_make_corrections.Reads.Learnt rtcm2_make_corrections.Statement.statement
      (λ κs (kind, (station, (z, (sequence, (health, (rows, (frame, _))))))).
      number_of (kept_to (made_said correction_list (headed kind station z sequence health) rows.now) frame.now))
      (λ κs (_, (_, (_, (_, (_, (_, (frame, (length, _)))))))). (frame.now, length.now))
      (λ κs (kind, (station, (z, (sequence, (health, (rows, (frame, (length, _)))))))).
      let s = made_said correction_list (headed kind station z sequence health) rows.now in
      (held_to s frame.now, size_to s frame.now length.now))
  -- rtcm2::health
  pub count-healths : AnsweredLent
      rtcm2_count_healths.Reads.Asked rtcm2_count_healths.Reads.Learnt rtcm2_count_healths.Statement.statement
      (λ κs (frame, _). number_of (count_said health_list (frame_said frame.now)))
      (λ κs (_, (count, _)). count.now) (λ κs (frame, (count, _)). left (count_said health_list (frame_said frame.now)) (λ k. k) count.now)
  pub health-at : AnsweredLent rtcm2_health_at.Reads.Asked rtcm2_health_at.Reads.Learnt rtcm2_health_at.Statement.statement
      (λ κs (frame, (index, (bytes, _))). number_of (row_to (health_list.row Gps) (entry_said health_list (frame_said frame.now) index) bytes.now))
      (λ κs (_, (_, (bytes, _))). bytes.now)
      (λ κs (frame, (index, (bytes, _))). row_held (health_list.row Gps) (entry_said health_list (frame_said frame.now) index) bytes.now)
  pub make-healths : AnsweredLent {B = List ℕ × ℕ}
      rtcm2_make_healths.Reads.Asked rtcm2_make_healths.Reads.Learnt rtcm2_make_healths.Statement.statement
      (λ κs (kind, (station, (z, (sequence, (health, (rows, (frame, _))))))).
      number_of (kept_to (made_said health_list (headed kind station z sequence health) rows.now) frame.now))
      (λ κs (_, (_, (_, (_, (_, (_, (frame, (length, _)))))))). (frame.now, length.now))
      (λ κs (kind, (station, (z, (sequence, (health, (rows, (frame, (length, _)))))))).
      let s = made_said health_list (headed kind station z sequence health) rows.now in
      (held_to s frame.now, size_to s frame.now length.now))
