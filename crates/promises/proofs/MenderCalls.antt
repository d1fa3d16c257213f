-- Each contract is an equation, asks nothing, and was met as its crate was checked. Assumes nothing.
use Rattle.mender_words.proofs as mender_words
use Rattle.mender.proofs as mender
use Rattle.promises.proofs.Answered.{two-places}
use Rattle.promises.specs.MenderCalls.{MenderCalls}

pub mender-calls : MenderCalls
mender-calls = record {
  mend-word = record { asks_nothing = λ κs a. tt; settles = λ κs a z e p. p; ends = mender_words.mend_word.Met.met };
  mended = record { asks_nothing = λ κs a. tt; settles = λ κs a z e p. p; ends = mender_words.mended.Met.met };
  mend = record { asks_nothing = λ κs a. tt; settles = λ κs a z e p. p.0; leaves = λ κs a z e p. two-places p.1; ends = mender.mend.Met.met };
  next-of = record { asks_nothing = λ κs a. tt; settles = λ κs a z e p. p; ends = mender.next_of.Met.met };
}
