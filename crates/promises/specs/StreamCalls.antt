-- DEMAND 1, call by call: reading, writing, keeping, printing and listing. Assumes nothing.
use Rattle.std.specs.Prelude.{◌++◌, length}
use Rattle.bits.specs.Bits.{bits}
use Rattle.word.specs.Word.{passes}
use Rattle.reader.specs.Reading.{started, past_of, fed_by, fed_all_by, ended_by, taken_by}
use Rattle.reader.specs.Rows.{rows_by, rows_to}
use Rattle.writer.specs.Answer.{opened_by, opened_to, written_by, written_to}
use Rattle.journal.specs.Journal.{recorded_by, recorded_to, kept_by, held_by, recalled_by}
use Rattle.printing.specs.Printing.{magnitude_of, decimal, printed_by, printed_to}
use Rattle.listing.specs.Listing.{begun, piece_by, piece_text, finish_by, finish_text, line_put, line_to}
use Rattle.reader.proofs.new as reader-new
use Rattle.reader.proofs.feed
use Rattle.reader.proofs.feed_all
use Rattle.reader.proofs.end as reader-end
use Rattle.reader.proofs.take as reader-take
use Rattle.reader.proofs.checks.past
use Rattle.reader.proofs.division.passes as word-passes
use Rattle.reader.proofs.rows.read_rows
use Rattle.writer.proofs.open as writer-open
use Rattle.writer.proofs.write
use Rattle.journal.proofs.put_frame
use Rattle.journal.proofs.keep
use Rattle.journal.proofs.recall
use Rattle.printing.proofs.magnitude
use Rattle.printing.proofs.put_number
use Rattle.printing.proofs.put_labelled
use Rattle.listing.proofs.new as listing-new
use Rattle.listing.proofs.list_piece
use Rattle.listing.proofs.put_line
use Rattle.listing.proofs.finish
use Rattle.promises.specs.Answered.{Answered, AnsweredLent}

pub record StreamCalls : Type 2 where
  -- reader
  pub reader-new : Answered reader-new.Reads.Asked reader-new.Reads.Learnt reader-new.Statement.statement
      (λ κs a. started)
  pub feed : Answered feed.Reads.Asked feed.Reads.Learnt feed.Statement.statement
      (λ κs (reader, (byte, _)). fed_by reader byte)
  pub feed-all : Answered feed_all.Reads.Asked feed_all.Reads.Learnt feed_all.Statement.statement
      (λ κs (reader, (bytes, _)). fed_all_by reader bytes.now)
  pub reader-end : Answered reader-end.Reads.Asked reader-end.Reads.Learnt reader-end.Statement.statement
      (λ κs (reader, _). ended_by reader)
  pub reader-take : Answered reader-take.Reads.Asked reader-take.Reads.Learnt reader-take.Statement.statement
      (λ κs (reader, _). taken_by reader)
  pub past : Answered past.Reads.Asked past.Reads.Learnt past.Statement.statement
      (λ κs (c, _). past_of c)
  pub word-passes : Answered word-passes.Reads.Asked word-passes.Reads.Learnt word-passes.Statement.statement
      (λ κs (window, _). passes (bits 32 window))
  pub read-rows : AnsweredLent read_rows.Reads.Asked read_rows.Reads.Learnt read_rows.Statement.statement
      (λ κs (reader, (bytes, (rows, _))). rows_by reader bytes.now rows.now)
      (λ κs (_, (_, (rows, _))). rows.now) (λ κs (reader, (bytes, (rows, _))). rows_to reader bytes.now rows.now)
  -- writer
  pub writer-open : AnsweredLent writer-open.Reads.Asked writer-open.Reads.Learnt writer-open.Statement.statement
      (λ κs (buffer, _). opened_by buffer.now)
      (λ κs (buffer, _). buffer.now) (λ κs (buffer, _). opened_to buffer.now)
  pub write : AnsweredLent write.Reads.Asked write.Reads.Learnt write.Statement.statement
      (λ κs (frame, (carried, (buffer, _))). written_by frame carried buffer.now)
      (λ κs (_, (_, (buffer, _))). buffer.now) (λ κs (frame, (carried, (buffer, _))). written_to frame carried buffer.now)
  -- journal
  pub put-frame : AnsweredLent put_frame.Reads.Asked put_frame.Reads.Learnt put_frame.Statement.statement
      (λ κs (frame, (buffer, _)). recorded_by frame buffer.now)
      (λ κs (_, (buffer, _)). buffer.now) (λ κs (frame, (buffer, _)). recorded_to frame buffer.now)
  pub keep : AnsweredLent keep.Reads.Asked keep.Reads.Learnt keep.Statement.statement
      (λ κs (frame, (buffer, _)). kept_by frame buffer.now)
      (λ κs (_, (buffer, _)). buffer.now) (λ κs (frame, (buffer, _)). held_by frame buffer.now)
  pub recall : Answered recall.Reads.Asked recall.Reads.Learnt recall.Statement.statement
      (λ κs (bytes, _). recalled_by bytes.now)
  -- printing
  pub magnitude : Answered magnitude.Reads.Asked magnitude.Reads.Learnt magnitude.Statement.statement
      (λ κs (z, _). magnitude_of z)
  pub put-number : AnsweredLent put_number.Reads.Asked put_number.Reads.Learnt put_number.Statement.statement
      (λ κs (n, (place, (buffer, _))). printed_by (decimal n) place buffer.now)
      (λ κs (_, (_, (buffer, _))). buffer.now) (λ κs (n, (place, (buffer, _))). printed_to (decimal n) place buffer.now)
  pub put-labelled : AnsweredLent put_labelled.Reads.Asked put_labelled.Reads.Learnt put_labelled.Statement.statement
      (λ κs (label, (n, (place, (buffer, _)))). printed_by (label.now ++ decimal n) place buffer.now)
      (λ κs (_, (_, (_, (buffer, _)))). buffer.now)
      (λ κs (label, (n, (place, (buffer, _)))). printed_to (label.now ++ decimal n) place buffer.now)
  -- listing
  pub listing-new : Answered listing-new.Reads.Asked listing-new.Reads.Learnt listing-new.Statement.statement
      (λ κs a. begun)
  pub list-piece : AnsweredLent list_piece.Reads.Asked list_piece.Reads.Learnt list_piece.Statement.statement
      (λ κs (listing, (input, (output, _))). piece_by listing input.now (length output.now))
      (λ κs (_, (_, (output, _))). output.now) (λ κs (listing, (input, (output, _))). piece_text listing input.now output.now)
  pub put-line : AnsweredLent put_line.Reads.Asked put_line.Reads.Learnt put_line.Statement.statement
      (λ κs (at, (frame, (output, _))). line_put at frame output.now)
      (λ κs (_, (_, (output, _))). output.now) (λ κs (at, (frame, (output, _))). line_to at frame output.now)
  pub finish : AnsweredLent finish.Reads.Asked finish.Reads.Learnt finish.Statement.statement
      (λ κs (listing, (output, _)). finish_by listing (length output.now))
      (λ κs (_, (output, _)). output.now) (λ κs (listing, (output, _)). finish_text listing output.now)
