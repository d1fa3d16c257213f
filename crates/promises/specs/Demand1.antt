-- DEMAND 1, sentence by sentence. Assumes nothing.
use Rattle.reader.specs.declared.Reader.{Reader}
use Rattle.promises.specs.Answered.{SettledOnce}
use Rattle.promises.specs.PartCalls.{PartCalls}
use Rattle.promises.specs.StreamCalls.{StreamCalls}
use Rattle.promises.specs.RecordCalls.{RecordCalls}
use Rattle.promises.specs.GeneralCalls.{GeneralCalls}
use Rattle.promises.specs.JournalCalls.{JournalCalls}
use Rattle.promises.specs.MenderCalls.{MenderCalls}
use Rattle.promises.specs.SeasonCalls.{SeasonCalls}
use Rattle.promises.specs.CarriesItsNumber.{CarriesItsNumber}
use Rattle.promises.specs.ChangesNeither.{ChangesNeither, NumberAlone, OnlyItsBytes}
use Rattle.promises.specs.Demand3.{NextIsAccepted, TakesOnlyFrames}

pub record Demand1 : Type 2 where
  -- "Every byte sequence, frame and buffer gets a defined answer." "No call trusts its caller." "Every call ends.": of every public function the
  -- definition that its answer is, that it asks nothing, and that it returns
  pub parts : PartCalls
  pub streams : StreamCalls
  pub records : RecordCalls
  pub generals : GeneralCalls
  pub journals : JournalCalls
  pub menders : MenderCalls
  pub seasons : SeasonCalls
  pub once : SettledOnce
  -- "A refusal carries its number from the table .."
  pub carries : CarriesItsNumber
  -- ".. and changes neither state nor buffer."
  pub changes : ChangesNeither
  -- RULES 10: a refusal is its number and nothing more; a call changes no bytes of a buffer but those that it is for
  pub alone : NumberAlone
  pub own-bytes : OnlyItsBytes
  -- and a reader that is not refused with 5 is left as one that is not
  pub accepted : (r : Reader) → NextIsAccepted r
  -- and taking believes no state: what it hands out stands in the bits held
  pub taken : (r : Reader) → TakesOnlyFrames r
