-- THE SMALL-BEACON PROFILE of the library for C and Rust: what rtcm2_cut_corrections puts into the bytes lent to it are the records of frames that are
-- cut well, one after the other. Assumes nothing.
use Rattle.std.specs.Prelude.{◌≡◌, List, [], ◌∷◌, ◌++◌, ℕ, ◌+◌, ◌*◌, length, take, drop}
use Rattle.answer.specs.Order.{answers}
use Rattle.bits.specs.Fields.{AreBytes}
use Rattle.frame.specs.declared.Frame.{Frame}
use Rattle.frame.specs.declared.System.TheVariants.{Gps}
use Rattle.profile.specs.Cutting.{CutWell}
use Rattle.rtcm2_rows.specs.Rows.{row_size, count_of, entries_from}
use Rattle.rtcm2_rows.specs.Corrections.{row}
use Rattle.rtcm2.specs.Header.{headed}
use Rattle.rtcm2.specs.Frames.{recall_said}
use Rattle.rtcm2.specs.Beacon.{cut_said, kept_all, held_all}
use Rattle.rtcm2.specs.Orders.{header_with}

-- bytes that give these frames: each is recalled where the one before it ends
abbrev pub RecallsAll : List Frame → List ℕ → Type 0
RecallsAll [] bytes = Unit {0}
RecallsAll (f ∷ fs) bytes = (recall_said bytes ≡ answers (3 * f.n + 9, f)) × RecallsAll fs (drop (3 * f.n + 9) bytes)

-- the rows' corrections, cut well, whatever follows their records
pub record CutBack (kind station z sequence code : ℕ) (rows bytes : List ℕ) : Type 0 where
  pub frames : List Frame
  pub recalls : RecallsAll frames bytes
  pub well : CutWell (header_with kind station z sequence code) (take (count_of (row_size (row Gps)) (length rows)) (entries_from (row Gps) 18 rows)) frames

abbrev pub LibraryCutsBack : Type 0
LibraryCutsBack = (kind station z sequence code : ℕ) (rows lent rest : List ℕ) (size : ℕ) → AreBytes rows
    → let said = cut_said (headed kind station z sequence code) rows in
    kept_all said lent ≡ answers size → CutBack kind station z sequence code rows (take size (held_all said lent) ++ rest)
