-- Each contract is an equation for the answer and one for each lent place, asks nothing, and was met as its crate was checked. Assumes nothing.
use Rattle.rtcm2_rows.proofs as rtcm2_rows
use Rattle.rtcm2.proofs as rtcm2
use Rattle.promises.proofs.Answered.{two-places, three-places}
use Rattle.rtcm2_promises.specs.LibraryRecords.{LibraryRecords}

pub library-records : LibraryRecords
library-records = record {
  count-of = record { asks_nothing = λ κs a. tt; settles = λ κs a z e p. p; ends = rtcm2_rows.row.count_of.Met.met };
  observations-in = record { asks_nothing = λ κs a. tt; settles = λ κs a z e p. p; ends = rtcm2_rows.observation.observations_in.Met.met };
  put-observation = record {
    asks_nothing = λ κs a. tt;
    settles = λ κs a z e p. p.0;
    leaves = λ κs a z e p. p.1;
    ends = rtcm2_rows.observation.put_observation.Met.met;
  };
  corrections-in = record { asks_nothing = λ κs a. tt; settles = λ κs a z e p. p; ends = rtcm2_rows.correction.corrections_in.Met.met };
  put-correction = record {
    asks_nothing = λ κs a. tt;
    settles = λ κs a z e p. p.0;
    leaves = λ κs a z e p. p.1;
    ends = rtcm2_rows.correction.put_correction.Met.met;
  };
  rows-in = record { asks_nothing = λ κs a. tt; settles = λ κs a z e p. p; ends = rtcm2_rows.table.rows_in.Met.met };
  put-numbers = record {
    asks_nothing = λ κs a. tt;
    settles = λ κs a z e p. p.0;
    leaves = λ κs a z e p. p.1;
    ends = rtcm2_rows.table.put_numbers.Met.met;
  };
  count-observations = record {
    asks_nothing = λ κs a. tt;
    settles = λ κs a z e p. p.0;
    leaves = λ κs a z e p. p.1;
    ends = rtcm2.observation.rtcm2_count_observations.Met.met;
  };
  read-epoch = record {
    asks_nothing = λ κs a. tt;
    settles = λ κs a z e p. p.0;
    leaves = λ κs a z e p. three-places p.1;
    ends = rtcm2.observation.rtcm2_read_epoch.Met.met;
  };
  observation-at = record {
    asks_nothing = λ κs a. tt;
    settles = λ κs a z e p. p.0;
    leaves = λ κs a z e p. p.1;
    ends = rtcm2.observation.rtcm2_observation_at.Met.met;
  };
  make-observations = record {
    asks_nothing = λ κs a. tt;
    settles = λ κs a z e p. p.0;
    leaves = λ κs a z e p. two-places p.1;
    ends = rtcm2.observation.rtcm2_make_observations.Met.met;
  };
  read-position = record {
    asks_nothing = λ κs a. tt;
    settles = λ κs a z e p. p.0;
    leaves = λ κs a z e p. three-places p.1;
    ends = rtcm2.position.rtcm2_read_position.Met.met;
  };
  make-position = record {
    asks_nothing = λ κs a. tt;
    settles = λ κs a z e p. p.0;
    leaves = λ κs a z e p. two-places p.1;
    ends = rtcm2.position.rtcm2_make_position.Met.met;
  };
  read-null = record { asks_nothing = λ κs a. tt; settles = λ κs a z e p. p.0; leaves = λ κs a z e p. p.1; ends = rtcm2.null.rtcm2_read_null.Met.met };
  make-null = record {
    asks_nothing = λ κs a. tt;
    settles = λ κs a z e p. p.0;
    leaves = λ κs a z e p. two-places p.1;
    ends = rtcm2.null.rtcm2_make_null.Met.met;
  };
  read-text = record {
    asks_nothing = λ κs a. tt;
    settles = λ κs a z e p. p.0;
    leaves = λ κs a z e p. two-places p.1;
    ends = rtcm2.text.rtcm2_read_text.Met.met;
  };
  make-text = record {
    asks_nothing = λ κs a. tt;
    settles = λ κs a z e p. p.0;
    leaves = λ κs a z e p. two-places p.1;
    ends = rtcm2.text.rtcm2_make_text.Met.met;
  };
}
