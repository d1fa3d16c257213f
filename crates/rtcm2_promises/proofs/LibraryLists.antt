-- The lists of the library, one by one: the contracts of their calls, and what each owes. What is promised of a list follows from what it owes.
-- Assumes nothing.
use mathlib.Core.Path.{◌≡◌, refl}
use mathlib.Core.List.{List}
use Prim.Native.Nat.{ℕ, ◌+◌, ◌*◌, ◌≤◌, ◌<◌}
use native.Mathlib.Omega.{arith}
use lib.ListN.{length, take, get_or}
use Rattle.bits.specs.Fields.{AreBytes}
use Rattle.bits.proofs.FieldLaws.{fit-take}
use Rattle.bits.proofs.SignedLaws.{mag-signed}
use Rattle.frame.specs.declared.System.{System}
use Rattle.frame.specs.declared.System.TheVariants.{Gps, Glonass}
use Rattle.record_corrections.specs.Corrections as correction
use Rattle.record_corrections.specs.Issues.{issue_of, issue_in, IssueTyped}
use Rattle.rtcm2_rows.specs.Rows.{row_size, entry_of}
use Rattle.rtcm2_rows.specs.Corrections as correction-bytes
use Rattle.rtcm2_rows.proofs.Trips.{byte_small, row-again}
use Rattle.rtcm2_rows.proofs.CorrectionRows as correction-rows
use Rattle.rtcm2.specs.Lists.{LibraryList}
use Rattle.rtcm2.specs.Healths as health-bytes
use Rattle.rtcm2.proofs as rtcm2
use Rattle.rtcm2.proofs.HealthRows as health-rows
use Rattle.record_laws.proofs.PlainLists.{OwedList}
use Rattle.promises.specs.RecordLayouts.{PlainList, of_corrections, of_healths}
use Rattle.promises.proofs.Answered.{two-places}
use Rattle.promises.proofs.RecordLayouts.{owed-of}
use Rattle.rtcm2_promises.specs.LibraryLists.{library_list_of, EachLibraryList, LibraryLists}

-- ---- their calls

pub library-lists : LibraryLists
library-lists = record {
  count-corrections = record {
    asks_nothing = λ κs a. tt;
    settles = λ κs a z e p. p.0;
    leaves = λ κs a z e p. p.1;
    ends = rtcm2.correction.rtcm2_count_corrections.Met.met;
  };
  correction-at = record {
    asks_nothing = λ κs a. tt;
    settles = λ κs a z e p. p.0;
    leaves = λ κs a z e p. p.1;
    ends = rtcm2.correction.rtcm2_correction_at.Met.met;
  };
  make-corrections = record {
    asks_nothing = λ κs a. tt;
    settles = λ κs a z e p. p.0;
    leaves = λ κs a z e p. two-places p.1;
    ends = rtcm2.correction.rtcm2_make_corrections.Met.met;
  };
  count-healths = record {
    asks_nothing = λ κs a. tt;
    settles = λ κs a z e p. p.0;
    leaves = λ κs a z e p. p.1;
    ends = rtcm2.health.rtcm2_count_healths.Met.met;
  };
  health-at = record { asks_nothing = λ κs a. tt; settles = λ κs a z e p. p.0; leaves = λ κs a z e p. p.1; ends = rtcm2.health.rtcm2_health_at.Met.met };
  make-healths = record {
    asks_nothing = λ κs a. tt;
    settles = λ κs a z e p. p.0;
    leaves = λ κs a z e p. two-places p.1;
    ends = rtcm2.health.rtcm2_make_healths.Met.met;
  };
}

-- ---- WHAT A LIST OWES

pub record Owed (L : LibraryList) : Type 0 where
  -- what its layout owes
  pub plain : OwedList L.plain
  -- what is put does not look at the system, and a row that is read and put again is its own bytes
  pub puts : (s : System) → L.row s ≡ record { widths = (L.row Gps).widths; meant = (L.row s).meant; codes = (L.row Gps).codes }
  pub again : (s : System) (bs : List ℕ) → AreBytes bs → row_size (L.row s) ≤ length bs
      → (L.row s).codes (entry_of (L.row s) bs) ≡ take (row_size (L.row s)) bs
  -- what bytes say has the types of the fields
  pub typed : (s : System) (bs : List ℕ) → AreBytes bs → L.plain.Typed (entry_of (L.row s) bs)

-- ---- corrections: what bytes say

issue-typed : (s : System) (v : ℕ) → v < 256 → IssueTyped (issue_in s v)
unfolding issue_of
issue-typed Gps v h = omega arith
issue-typed Glonass v h = (omega arith, omega arith)

pub correction-typed : (s : System) (bs : List ℕ) → AreBytes bs → correction.Typed (entry_of (correction-bytes.row s) bs)
correction-typed s bs b =
    let vs = take (row_size (correction-bytes.row s)) bs in
    let f = fit-take (row_size (correction-bytes.row s)) bs b in
    let low = byte_small vs 3 f in
    let high = byte_small vs 4 f in
    record {
      prc = mag-signed 15 (get_or vs 3 0 + 256 * get_or vs 4 0) (omega (arith, low, high));
      rrc = mag-signed 7 (get_or vs 5 0) (byte_small vs 5 f);
      issue = issue-typed s (get_or vs 6 0) (byte_small vs 6 f);
    }

pub library-owed : (l : PlainList) → Owed (library_list_of l)
library-owed of_corrections = record {
  plain = owed-of of_corrections;
  puts = λ s. refl;
  again = λ s. row-again (correction-bytes.row s) (correction-bytes.Typed s) (correction-rows.faithful s) refl;
  typed = correction-typed;
}
library-owed of_healths = record {
  plain = owed-of of_healths;
  puts = λ s. refl;
  again = λ s. row-again (health-bytes.row s) (health-rows.Typed s) (health-rows.faithful s) refl;
  typed = λ s bs b. tt;
}

-- ---- EACH LIST has what follows from what it owes

pub each-list : {Holds : LibraryList → Type 0} → ((L : LibraryList) → Owed L → Holds L) → EachLibraryList Holds
each-list holds l = holds (library_list_of l) (library-owed l)
