-- Each contract of the calls on general corrections is an equation for the answer and one for each lent place, asks nothing, and was met as its
-- crate was checked. Assumes nothing.
use Rattle.rtcm2_rows.proofs as rtcm2_rows
use Rattle.rtcm2.proofs as rtcm2
use Rattle.promises.proofs.Answered.{place-and, two-places, four-places}
use Rattle.rtcm2_promises.specs.LibraryGenerals.{LibraryGenerals}

pub library-generals : LibraryGenerals
library-generals = record {
  generals-in = record { asks_nothing = λ κs a. tt; settles = λ κs a z e p. p; ends = rtcm2_rows.general.generals_in.Met.met };
  put-general = record {
    asks_nothing = λ κs a. tt;
    settles = λ κs a z e p. p.0;
    leaves = λ κs a z e p. p.1;
    ends = rtcm2_rows.general.put_general.Met.met;
  };
  count-generals = record {
    asks_nothing = λ κs a. tt;
    settles = λ κs a z e p. p.0;
    leaves = λ κs a z e p. p.1;
    ends = rtcm2.general.rtcm2_count_generals.Met.met;
  };
  read-head = record {
    asks_nothing = λ κs a. tt;
    settles = λ κs a z e p. p.0;
    leaves = λ κs a z e p. place-and p.1.0 (four-places p.1.1);
    ends = rtcm2.general.rtcm2_read_head.Met.met;
  };
  general-at = record {
    asks_nothing = λ κs a. tt;
    settles = λ κs a z e p. p.0;
    leaves = λ κs a z e p. p.1;
    ends = rtcm2.general.rtcm2_general_at.Met.met;
  };
  make-generals = record {
    asks_nothing = λ κs a. tt;
    settles = λ κs a z e p. p.0;
    leaves = λ κs a z e p. two-places p.1;
    ends = rtcm2.general.rtcm2_make_generals.Met.met;
  };
  read-general-null = record {
    asks_nothing = λ κs a. tt;
    settles = λ κs a z e p. p.0;
    leaves = λ κs a z e p. two-places p.1;
    ends = rtcm2.general.rtcm2_read_general_null.Met.met;
  };
  make-general-null = record {
    asks_nothing = λ κs a. tt;
    settles = λ κs a z e p. p.0;
    leaves = λ κs a z e p. two-places p.1;
    ends = rtcm2.general.rtcm2_make_general_null.Met.met;
  };
  general-prc-mm = record {
    asks_nothing = λ κs a. tt;
    settles = λ κs a z e p. p.0;
    leaves = λ κs a z e p. two-places p.1;
    ends = rtcm2.values.rtcm2_general_prc_mm.Met.met;
  };
  delay-mm = record {
    asks_nothing = λ κs a. tt;
    settles = λ κs a z e p. p.0;
    leaves = λ κs a z e p. two-places p.1;
    ends = rtcm2.values.rtcm2_delay_mm.Met.met;
  };
  general-udre = record {
    asks_nothing = λ κs a. tt;
    settles = λ κs a z e p. p.0;
    leaves = λ κs a z e p. two-places p.1;
    ends = rtcm2.values.rtcm2_general_udre.Met.met;
  };
  use-seconds = record {
    asks_nothing = λ κs a. tt;
    settles = λ κs a z e p. p.0;
    leaves = λ κs a z e p. p.1;
    ends = rtcm2.values.rtcm2_use_seconds.Met.met;
  };
}
