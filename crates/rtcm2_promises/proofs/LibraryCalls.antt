-- Each contract is an equation for the answer and one for each lent place, asks nothing, and was met as its crate was checked. Assumes nothing.
use Rattle.rtcm2_state.proofs as rtcm2_state
use Rattle.rtcm2.proofs as rtcm2
use Rattle.promises.proofs.Answered.{place-and, two-places, three-places, four-places}
use Rattle.rtcm2_promises.specs.LibraryCalls.{LibraryCalls}

pub library-calls : LibraryCalls
library-calls = record {
  holds-state = record { asks_nothing = λ κs a. tt; settles = λ κs a z e p. p; ends = rtcm2_state.holds_state.Met.met };
  state-in = record { asks_nothing = λ κs a. tt; settles = λ κs a z e p. p; ends = rtcm2_state.state_in.Met.met };
  candidate-in = record { asks_nothing = λ κs a. tt; settles = λ κs a z e p. p; ends = rtcm2_state.candidate_in.Met.met };
  hold = record { asks_nothing = λ κs a. tt; settles = λ κs a z e p. p.0; leaves = λ κs a z e p. p.1; ends = rtcm2_state.hold.hold.Met.met };
  put-start = record { asks_nothing = λ κs a. tt; settles = λ κs a z e p. p.0; leaves = λ κs a z e p. p.1; ends = rtcm2_state.put_start.Met.met };
  put-state = record { asks_nothing = λ κs a. tt; settles = λ κs a z e p. p.0; leaves = λ κs a z e p. p.1; ends = rtcm2_state.put_state.Met.met };
  state-size = record { asks_nothing = λ κs a. tt; settles = λ κs a z e p. p; ends = rtcm2.listening.rtcm2_state_size.Met.met };
  start = record { asks_nothing = λ κs a. tt; settles = λ κs a z e p. p.0; leaves = λ κs a z e p. p.1; ends = rtcm2.listening.rtcm2_start.Met.met };
  counts = record { asks_nothing = λ κs a. tt; settles = λ κs a z e p. p.0; leaves = λ κs a z e p. two-places p.1; ends = rtcm2.listening.rtcm2_counts.Met.met };
  feed = record { asks_nothing = λ κs a. tt; settles = λ κs a z e p. p.0; leaves = λ κs a z e p. p.1; ends = rtcm2.listening.rtcm2_feed.Met.met };
  feed-all = record {
    asks_nothing = λ κs a. tt;
    settles = λ κs a z e p. p.0;
    leaves = λ κs a z e p. three-places p.1;
    ends = rtcm2.listening.rtcm2_feed_all.Met.met;
  };
  line_read = record {
    asks_nothing = λ κs a. tt;
    settles = λ κs a z e p. p.0;
    leaves = λ κs a z e p. place-and p.1.0 (four-places p.1.1);
    ends = rtcm2.turns.rtcm2_read.Met.met;
  };
  line-end = record { asks_nothing = λ κs a. tt; settles = λ κs a z e p. p.0; leaves = λ κs a z e p. p.1; ends = rtcm2.listening.rtcm2_end.Met.met };
  line-take = record {
    asks_nothing = λ κs a. tt;
    settles = λ κs a z e p. p.0;
    leaves = λ κs a z e p. place-and p.1.0 (place-and p.1.1.0 (four-places p.1.1.1));
    ends = rtcm2.listening.rtcm2_take.Met.met;
  };
  line-open = record { asks_nothing = λ κs a. tt; settles = λ κs a z e p. p.0; leaves = λ κs a z e p. p.1; ends = rtcm2.send.rtcm2_open.Met.met };
  write = record { asks_nothing = λ κs a. tt; settles = λ κs a z e p. p.0; leaves = λ κs a z e p. four-places p.1; ends = rtcm2.send.rtcm2_write.Met.met };
  keep = record { asks_nothing = λ κs a. tt; settles = λ κs a z e p. p.0; leaves = λ κs a z e p. two-places p.1; ends = rtcm2.frames.rtcm2_keep.Met.met };
  recall = record {
    asks_nothing = λ κs a. tt;
    settles = λ κs a z e p. p.0;
    leaves =
        λ κs a z e p. place-and p.1.0 (place-and p.1.1.0 (place-and p.1.1.1.0 (four-places p.1.1.1.1)));
    ends = rtcm2.frames.rtcm2_recall.Met.met;
  };
  keep-words = record {
    asks_nothing = λ κs a. tt;
    settles = λ κs a z e p. p.0;
    leaves = λ κs a z e p. two-places p.1;
    ends = rtcm2.words.rtcm2_keep_words.Met.met;
  };
  recall-words = record {
    asks_nothing = λ κs a. tt;
    settles = λ κs a z e p. p.0;
    leaves = λ κs a z e p. place-and p.1.0 (four-places p.1.1);
    ends = rtcm2.words.rtcm2_recall_words.Met.met;
  };
  check-profile = record { asks_nothing = λ κs a. tt; settles = λ κs a z e p. p; ends = rtcm2.beacon.rtcm2_check_profile.Met.met };
  cut-corrections = record {
    asks_nothing = λ κs a. tt;
    settles = λ κs a z e p. p.0;
    leaves = λ κs a z e p. two-places p.1;
    ends = rtcm2.beacon.rtcm2_cut_corrections.Met.met;
  };
  prc-mm = record {
    asks_nothing = λ κs a. tt;
    settles = λ κs a z e p. p.0;
    leaves = λ κs a z e p. two-places p.1;
    ends = rtcm2.values.rtcm2_prc_mm.Met.met;
  };
  rrc-mm-s = record {
    asks_nothing = λ κs a. tt;
    settles = λ κs a z e p. p.0;
    leaves = λ κs a z e p. two-places p.1;
    ends = rtcm2.values.rtcm2_rrc_mm_s.Met.met;
  };
  stops = record { asks_nothing = λ κs a. tt; settles = λ κs a z e p. p.0; leaves = λ κs a z e p. p.1; ends = rtcm2.values.rtcm2_stops.Met.met };
  udre-limit-mm = record {
    asks_nothing = λ κs a. tt;
    settles = λ κs a z e p. p.0;
    leaves = λ κs a z e p. two-places p.1;
    ends = rtcm2.values.rtcm2_udre_limit_mm.Met.met;
  };
  cn0-dbhz = record {
    asks_nothing = λ κs a. tt;
    settles = λ κs a z e p. p.0;
    leaves = λ κs a z e p. two-places p.1;
    ends = rtcm2.values.rtcm2_cn0_dbhz.Met.met;
  };
  letter-of = record { asks_nothing = λ κs a. tt; settles = λ κs a z e p. p.0; leaves = λ κs a z e p. p.1; ends = rtcm2.values.rtcm2_letter_of.Met.met };
  remainder = record { asks_nothing = λ κs a. tt; settles = λ κs a z e p. p.0; leaves = λ κs a z e p. p.1; ends = rtcm2.window.rtcm2_remainder.Met.met };
  mend = record {
    asks_nothing = λ κs a. tt;
    settles = λ κs a z e p. p.0;
    leaves = λ κs a z e p. place-and p.1.0 (four-places p.1.1);
    ends = rtcm2.mending.rtcm2_mend.Met.met;
  };
}
