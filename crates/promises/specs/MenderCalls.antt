-- DEMAND 1, call by call: mending a journal. Assumes nothing.
use Rattle.std.specs.Prelude.{List, ℕ}
use Rattle.mender_words.specs.Words.{mended_by, mended_to}
use Rattle.mender.specs.Steps.{mend_by, bytes_to, output_to}
use Rattle.mender.specs.Run.{next_of}
use Rattle.mender_words.proofs.mend_word
use Rattle.mender_words.proofs.mended
use Rattle.mender.proofs.mend
use Rattle.mender.proofs.next_of
use Rattle.promises.specs.Answered.{Answered, AnsweredLent}

pub record MenderCalls : Type 2 where
  -- mender_words
  pub mend-word : Answered mend_word.Reads.Asked mend_word.Reads.Learnt mend_word.Statement.statement
      (λ κs (window, _). mended_by window)
  pub mended : Answered mended.Reads.Asked mended.Reads.Learnt mended.Statement.statement
      (λ κs (window, _). mended_to window)
  -- mender
  pub mend : AnsweredLent {B = List ℕ × List ℕ} mend.Reads.Asked mend.Reads.Learnt mend.Statement.statement
      (λ κs (bytes, (at, (searching, (output, _)))). mend_by bytes.now at searching output.now)
      (λ κs (bytes, (_, (_, (output, _)))). (bytes.now, output.now))
      (λ κs (bytes, (at, (searching, (output, _)))). (bytes_to bytes.now searching output.now, output_to bytes.now at searching output.now))
  pub next-of : Answered next_of.Reads.Asked next_of.Reads.Learnt next_of.Statement.statement
      (λ κs (step, (left, _)). next_of step left)
