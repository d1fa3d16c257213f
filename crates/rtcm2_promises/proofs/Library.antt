-- The demands hold of the library. Assumes nothing.
use Rattle.rtcm2_promises.specs.Library.{Library}
use Rattle.rtcm2_promises.proofs.LibraryCalls.{library-calls}
use Rattle.rtcm2_promises.proofs.LibraryRecords.{library-records}
use Rattle.rtcm2_promises.proofs.LibraryLists.{library-lists}
use Rattle.rtcm2_promises.proofs.LibraryGenerals.{library-generals}
use Rattle.rtcm2_promises.proofs.CarriesItsNumber.{library-numbers}
use Rattle.rtcm2_promises.proofs.ChangesNeither.{library-keeps}
use Rattle.rtcm2_promises.proofs.ReadsBack.{library-reads-back}
use Rattle.rtcm2_promises.proofs.KeptAgain.{kept_again}
use Rattle.rtcm2_promises.proofs.Demand3.{takes-its-record, library-demand-3}
use Rattle.rtcm2_promises.proofs.LineRows.{library-rows}
use Rattle.rtcm2_promises.proofs.Counters.{library-counters}
use Rattle.rtcm2_promises.proofs.LineBack.{line-gives-back}
use Rattle.rtcm2_promises.proofs.CutsBack.{library-cuts-back}
use Rattle.rtcm2_promises.proofs.SeasonCalls.{season-answered, season-numbers, season-keeps}
use Rattle.rtcm2_promises.proofs.SeasonRuns.{library-season}
use Rattle.rtcm2_promises.proofs.LateJoiners.{library-late-joiners}

pub library : Library
library = record {
  calls = library-calls;
  records = library-records;
  lists = library-lists;
  generals = library-generals;
  carries = library-numbers;
  changes = library-keeps;
  reads-back = library-reads-back;
  kept_again = kept_again;
  cuts_back = library-cuts-back;
  season-calls = season-answered;
  season-carries = season-numbers;
  season-changes = season-keeps;
  season = library-season;
  third = library-demand-3;
  takes-record = takes-its-record;
  rows = library-rows;
  counters = library-counters;
  late = library-late-joiners;
  line-back = line-gives-back;
}
