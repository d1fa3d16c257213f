-- DEMAND 1, call by call: the journal that keeps the words, records of either form, and moves between the two forms. Assumes nothing.
use Rattle.std.specs.Prelude.{length}
use Rattle.journal.specs.Words.{kept_words, held_words, recalled_words, recalled_either}
use Rattle.journal_moves.specs.Moving.{moved_by, moved_to, piece_by, piece_to}
use Rattle.journal_moves.specs.declared.Way.TheVariants.{New, Old}
use Rattle.journal.proofs.keep_words
use Rattle.journal.proofs.recall_words
use Rattle.journal.proofs.recall_either
use Rattle.journal_moves.proofs.renew
use Rattle.journal_moves.proofs.restore
use Rattle.journal_moves.proofs.move_all
use Rattle.promises.specs.Answered.{Answered, AnsweredLent}

pub record JournalCalls : Type 2 where
  -- journal
  pub keep-words : AnsweredLent keep_words.Reads.Asked keep_words.Reads.Learnt keep_words.Statement.statement
      (λ κs (frame, (buffer, _)). kept_words frame buffer.now)
      (λ κs (_, (buffer, _)). buffer.now) (λ κs (frame, (buffer, _)). held_words frame buffer.now)
  pub recall-words : Answered recall_words.Reads.Asked recall_words.Reads.Learnt recall_words.Statement.statement
      (λ κs (bytes, _). recalled_words bytes.now)
  pub recall-either : Answered recall_either.Reads.Asked recall_either.Reads.Learnt recall_either.Statement.statement
      (λ κs (bytes, _). recalled_either bytes.now)
  -- journal_moves
  pub renew : AnsweredLent renew.Reads.Asked renew.Reads.Learnt renew.Statement.statement
      (λ κs (bytes, (buffer, _)). moved_by New bytes.now (length buffer.now))
      (λ κs (_, (buffer, _)). buffer.now) (λ κs (bytes, (buffer, _)). moved_to New bytes.now buffer.now)
  pub restore : AnsweredLent restore.Reads.Asked restore.Reads.Learnt restore.Statement.statement
      (λ κs (bytes, (buffer, _)). moved_by Old bytes.now (length buffer.now))
      (λ κs (_, (buffer, _)). buffer.now) (λ κs (bytes, (buffer, _)). moved_to Old bytes.now buffer.now)
  pub move-all : AnsweredLent move_all.Reads.Asked move_all.Reads.Learnt move_all.Statement.statement
      (λ κs (way, (bytes, (buffer, _))). piece_by way bytes.now (length buffer.now))
      (λ κs (_, (_, (buffer, _))). buffer.now) (λ κs (way, (bytes, (buffer, _))). piece_to way bytes.now buffer.now)
