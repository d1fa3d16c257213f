-- THE DEMANDS of the library for C and Rust, sentence by sentence. Assumes nothing.
use Rattle.std.specs.Prelude.{List, ℕ, ◌≤◌, length}
use Rattle.rtcm2_state.specs.State.{state_size}
use Rattle.rtcm2_promises.specs.LibraryCalls.{LibraryCalls}
use Rattle.rtcm2_promises.specs.LibraryRecords.{LibraryRecords}
use Rattle.rtcm2_promises.specs.LibraryLists.{LibraryLists}
use Rattle.rtcm2_promises.specs.LibraryGenerals.{LibraryGenerals}
use Rattle.rtcm2_promises.specs.CarriesItsNumber.{LibraryNumbers}
use Rattle.rtcm2_promises.specs.ChangesNeither.{LibraryKeeps}
use Rattle.rtcm2_promises.specs.Demand3.{TakesItsRecord, LibraryDemand3}
use Rattle.rtcm2_promises.specs.LineRows.{LibraryRows}
use Rattle.rtcm2_promises.specs.Counters.{LibraryCounters}
use Rattle.rtcm2_promises.specs.LateJoiners.{LibraryLateJoiners}
use Rattle.rtcm2_promises.specs.ReadsBack.{LibraryReadsBack, KeptAgain}
use Rattle.rtcm2_promises.specs.LineBack.{LineGivesBack}
use Rattle.rtcm2_promises.specs.CutsBack.{LibraryCutsBack}
use Rattle.rtcm2_promises.specs.SeasonCalls.{SeasonAnswered, SeasonNumbers, SeasonKeeps}
use Rattle.rtcm2_promises.specs.SeasonBack.{LibrarySeason}

pub record Library : Type 2 where
  -- "Every byte sequence, frame and buffer gets a defined answer." "No call trusts its caller." "Every call ends."
  pub calls : LibraryCalls
  pub records : LibraryRecords
  pub lists : LibraryLists
  pub generals : LibraryGenerals
  -- "A refusal carries its number from the table .."
  pub carries : LibraryNumbers
  -- ".. and changes neither state nor buffer."
  pub changes : LibraryKeeps
  -- "A record we write reads back equal."
  pub reads-back : (kind station z sequence code : ℕ) → LibraryReadsBack kind station z sequence code
  pub kept_again : KeptAgain
  -- of the small-beacon profile: the records that are cut recall, one after the other, to frames that are the list cut well
  pub cuts_back : LibraryCutsBack
  -- the calls on reports of a season, by the same three sentences; what they put reads back, is never 5, and adds up
  pub season-calls : SeasonAnswered
  pub season-carries : SeasonNumbers
  pub season-changes : SeasonKeeps
  pub season : LibrarySeason
  -- demand 3, of every state's bytes with room; a frame that is taken is the one whose record comes
  pub third : (state : List ℕ) → state_size ≤ length state → LibraryDemand3 state
  pub takes-record : TakesItsRecord
  -- and rtcm2_read is feeding and taking in turns
  pub rows : (state : List ℕ) → state_size ≤ length state → LibraryRows state
  -- how words failed, told after any calls
  pub counters : (state : List ℕ) → state_size ≤ length state → LibraryCounters state
  -- two readers of one line, each in a state's bytes with room, agree behind a common frame
  pub late : (state late : List ℕ) → state_size ≤ length state → state_size ≤ length late → LibraryLateJoiners state late
  -- and what is written comes back from the line
  pub line-back : (state : List ℕ) → state_size ≤ length state → LineGivesBack state
