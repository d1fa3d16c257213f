-- Each contract is an equation, asks nothing, and was met as its crate was checked. Assumes nothing.
use Rattle.reader.proofs as reader
use Rattle.writer.proofs as writer
use Rattle.journal.proofs as journal
use Rattle.printing.proofs as printing
use Rattle.listing.proofs as listing
use Rattle.promises.specs.StreamCalls.{StreamCalls}

pub stream-calls : StreamCalls
stream-calls = record {
  reader-new = record { asks_nothing = λ κs a. tt; settles = λ κs a z e p. p; ends = reader.new.Met.met };
  feed = record { asks_nothing = λ κs a. tt; settles = λ κs a z e p. p; ends = reader.feed.Met.met };
  feed-all = record { asks_nothing = λ κs a. tt; settles = λ κs a z e p. p; ends = reader.feed_all.Met.met };
  reader-end = record { asks_nothing = λ κs a. tt; settles = λ κs a z e p. p; ends = reader.end.Met.met };
  reader-take = record { asks_nothing = λ κs a. tt; settles = λ κs a z e p. p; ends = reader.take.Met.met };
  past = record { asks_nothing = λ κs a. tt; settles = λ κs a z e p. p; ends = reader.checks.past.Met.met };
  word-passes = record { asks_nothing = λ κs a. tt; settles = λ κs a z e p. p; ends = reader.division.passes.Met.met };
  read-rows = record { asks_nothing = λ κs a. tt; settles = λ κs a z e p. p.0; leaves = λ κs a z e p. p.1; ends = reader.rows.read_rows.Met.met };
  writer-open = record { asks_nothing = λ κs a. tt; settles = λ κs a z e p. p.0; leaves = λ κs a z e p. p.1; ends = writer.open.Met.met };
  write = record { asks_nothing = λ κs a. tt; settles = λ κs a z e p. p.0; leaves = λ κs a z e p. p.1; ends = writer.write.Met.met };
  put-frame = record { asks_nothing = λ κs a. tt; settles = λ κs a z e p. p.0; leaves = λ κs a z e p. p.1; ends = journal.put_frame.Met.met };
  keep = record { asks_nothing = λ κs a. tt; settles = λ κs a z e p. p.0; leaves = λ κs a z e p. p.1; ends = journal.keep.Met.met };
  recall = record { asks_nothing = λ κs a. tt; settles = λ κs a z e p. p; ends = journal.recall.Met.met };
  magnitude = record { asks_nothing = λ κs a. tt; settles = λ κs a z e p. p; ends = printing.magnitude.Met.met };
  put-number = record { asks_nothing = λ κs a. tt; settles = λ κs a z e p. p.0; leaves = λ κs a z e p. p.1; ends = printing.put_number.Met.met };
  put-labelled = record { asks_nothing = λ κs a. tt; settles = λ κs a z e p. p.0; leaves = λ κs a z e p. p.1; ends = printing.put_labelled.Met.met };
  listing-new = record { asks_nothing = λ κs a. tt; settles = λ κs a z e p. p; ends = listing.new.Met.met };
  list-piece = record { asks_nothing = λ κs a. tt; settles = λ κs a z e p. p.0; leaves = λ κs a z e p. p.1.0; ends = listing.list_piece.Met.met };
  put-line = record { asks_nothing = λ κs a. tt; settles = λ κs a z e p. p.0; leaves = λ κs a z e p. p.1; ends = listing.put_line.Met.met };
  finish = record { asks_nothing = λ κs a. tt; settles = λ κs a z e p. p.0; leaves = λ κs a z e p. p.1.0; ends = listing.finish.Met.met };
}
