-- Each contract is an equation, asks nothing, and was met as its crate was checked. Assumes nothing.
use Rattle.answer.proofs as answer
use Rattle.line.proofs as line
use Rattle.word.proofs as word
use Rattle.frame.proofs as frame
use Rattle.promises.specs.PartCalls.{PartCalls}

pub part-calls : PartCalls
part-calls = record {
  refusal-number = record { asks_nothing = λ κs a. tt; settles = λ κs a z e p. p; ends = answer.Refusal.number.Met.met };
  six-of = record { asks_nothing = λ κs a. tt; settles = λ κs a z e p. p; ends = line.six_of.Met.met };
  byte-of = record { asks_nothing = λ κs a. tt; settles = λ κs a z e p. p; ends = line.byte_of.Met.met };
  data-of = record { asks_nothing = λ κs a. tt; settles = λ κs a z e p. p; ends = word.data_of.Met.met };
  word-remainder = record { asks_nothing = λ κs a. tt; settles = λ κs a z e p. p; ends = word.remainder.Met.met };
  word_test = record { asks_nothing = λ κs a. tt; settles = λ κs a z e p. p; ends = word.test.Met.met };
  word-of = record { asks_nothing = λ κs a. tt; settles = λ κs a z e p. p; ends = word.word_of.Met.met };
  state-of = record { asks_nothing = λ κs a. tt; settles = λ κs a z e p. p; ends = frame.state_of.Met.met };
  health-of = record { asks_nothing = λ κs a. tt; settles = λ κs a z e p. p; ends = frame.health_of.Met.met };
  header-of = record { asks_nothing = λ κs a. tt; settles = λ κs a z e p. p; ends = frame.header_of.Met.met };
  frame-built = record { asks_nothing = λ κs a. tt; settles = λ κs a z e p. p; ends = frame.built.Met.met };
  no-frame = record { asks_nothing = λ κs a. tt; settles = λ κs a z e p. p; ends = frame.no_frame.Met.met };
  n-of = record { asks_nothing = λ κs a. tt; settles = λ κs a z e p. p; ends = frame.n_of.Met.met };
  has-preamble = record { asks_nothing = λ κs a. tt; settles = λ κs a z e p. p; ends = frame.has_preamble.Met.met };
  header-widths = record { asks_nothing = λ κs a. tt; settles = λ κs a z e p. p; ends = frame.header_widths.Met.met };
  header-words = record { asks_nothing = λ κs a. tt; settles = λ κs a z e p. p; ends = frame.header_words.Met.met };
  frame-widths = record { asks_nothing = λ κs a. tt; settles = λ κs a z e p. p; ends = frame.frame_widths.Met.met };
  clock-of = record { asks_nothing = λ κs a. tt; settles = λ κs a z e p. p; ends = frame.clock_of.Met.met };
  layout-of = record { asks_nothing = λ κs a. tt; settles = λ κs a z e p. p; ends = frame.layout_of.Met.met };
  layout-number = record { asks_nothing = λ κs a. tt; settles = λ κs a z e p. p; ends = frame.layout_number.Met.met };
  system-of = record { asks_nothing = λ κs a. tt; settles = λ κs a z e p. p; ends = frame.system_of.Met.met };
}
