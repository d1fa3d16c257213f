-- Each contract is an equation, asks nothing, and was met as its crate was checked. Assumes nothing.
use Rattle.journal.proofs as journal
use Rattle.journal_moves.proofs as journal-moves
use Rattle.promises.specs.JournalCalls.{JournalCalls}

pub journal-calls : JournalCalls
journal-calls = record {
  keep-words = record { asks_nothing = λ κs a. tt; settles = λ κs a z e p. p.0; leaves = λ κs a z e p. p.1; ends = journal.keep_words.Met.met };
  recall-words = record { asks_nothing = λ κs a. tt; settles = λ κs a z e p. p; ends = journal.recall_words.Met.met };
  recall-either = record { asks_nothing = λ κs a. tt; settles = λ κs a z e p. p; ends = journal.recall_either.Met.met };
  renew = record { asks_nothing = λ κs a. tt; settles = λ κs a z e p. p.0; leaves = λ κs a z e p. p.1; ends = journal-moves.renew.Met.met };
  restore = record { asks_nothing = λ κs a. tt; settles = λ κs a z e p. p.0; leaves = λ κs a z e p. p.1; ends = journal-moves.restore.Met.met };
  move-all = record { asks_nothing = λ κs a. tt; settles = λ κs a z e p. p.0; leaves = λ κs a z e p. p.1.0; ends = journal-moves.move_all.Met.met };
}
