-- Each contract of types 41 and 42 is an equation, asks nothing, and was met as its crate was checked. Assumes nothing.
use Rattle.record_fields.proofs as record-fields
use Rattle.record_generals.proofs as record-generals
use Rattle.record_values.proofs as record-values
use Rattle.promises.specs.GeneralCalls.{GeneralCalls}

pub general-calls : GeneralCalls
general-calls = record {
  signed14 = record { asks_nothing = λ κs a. tt; settles = λ κs a z e p. p; ends = record-fields.signed14.Met.met };
  code14 = record { asks_nothing = λ κs a. tt; settles = λ κs a z e p. p; ends = record-fields.code14.Met.met };
  count-generals = record { asks_nothing = λ κs a. tt; settles = λ κs a z e p. p; ends = record-generals.count_generals.Met.met };
  read-head = record { asks_nothing = λ κs a. tt; settles = λ κs a z e p. p; ends = record-generals.read_head.Met.met };
  general-at = record { asks_nothing = λ κs a. tt; settles = λ κs a z e p. p; ends = record-generals.general_at.Met.met };
  make-generals = record { asks_nothing = λ κs a. tt; settles = λ κs a z e p. p; ends = record-generals.make_generals.Met.met };
  read-general-null = record { asks_nothing = λ κs a. tt; settles = λ κs a z e p. p; ends = record-generals.read_general_null.Met.met };
  make-general-null = record { asks_nothing = λ κs a. tt; settles = λ κs a z e p. p; ends = record-generals.make_general_null.Met.met };
  general-prc-mm = record { asks_nothing = λ κs a. tt; settles = λ κs a z e p. p; ends = record-values.general.general_prc_mm.Met.met };
  delay-mm = record { asks_nothing = λ κs a. tt; settles = λ κs a z e p. p; ends = record-values.general.delay_mm.Met.met };
  general-udre = record { asks_nothing = λ κs a. tt; settles = λ κs a z e p. p; ends = record-values.general.general_udre.Met.met };
  use-seconds = record { asks_nothing = λ κs a. tt; settles = λ κs a z e p. p; ends = record-values.general.use_seconds.Met.met };
}
