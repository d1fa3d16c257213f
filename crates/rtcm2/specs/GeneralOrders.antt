-- The refusals of the calls on general corrections, types 41 and 42, in the order that include/rtcm2.h gives: whether each applies, and its
-- number. Assumes nothing.
use Rattle.std.specs.Prelude.{◌||◌, List, [], ◌∷◌, ◌++◌, ℕ, ◌+◌, ltb, leb, length, take}
use Rattle.answer.specs.Order.{Check}
use Rattle.frame.specs.Widths.{any_of, header_outside, late}
use Rattle.frame.specs.declared.Frame.{Frame}
use Rattle.frame.specs.declared.Header.{Header}
use Rattle.frame.specs.declared.Layout.TheVariants as layout
use Rattle.journal.specs.Journal.{recall_order}
use Rattle.record_fields.specs.Coding.{frame_after}
use Rattle.record_stages.specs.Stages.{misfit_after, wrong_count, wrong_size}
use Rattle.record_generals.specs.Generals as general
use Rattle.record_generals.specs.GeneralNulls as general-null
use Rattle.record_generals.specs.declared.GeneralHead.{GeneralHead}
use Rattle.record_generals.specs.declared.General.{General}
use Rattle.rtcm2_rows.specs.Rows.{row_size, count_of, entries_from}
use Rattle.rtcm2_rows.specs.Generals as general-bytes
use Rattle.rtcm2.specs.Orders.{frame_from, short_for, record_checks, header_with, made_order}

-- ---- a frame comes in: 14, 15, 16, 15, 16, and no 5 for the frame

-- A LIST: 6, 7, 8 for N 0 and for type 41 with N 1, 23 for another system, 8 for an N that its layout doesn't give, then its own
abbrev pub general_checks : Frame → List Check → List Check
general_checks f more =
    record_checks layout.General f (general.too_short f.header.kind f.n)
    ((general.other_system (general.head_in f).system, 23) ∷ (misfit_after 13 (32 + general.delay_in f) f.n, 8) ∷ more)

-- COUNT, HEAD: then 6, 7, 8, 23, 8
abbrev pub generals_order : List ℕ → List Check
generals_order bs = recall_order bs ++ general_checks (frame_from bs) []

-- SATELLITE: then 6, 7, 8, 23, 8, 9, 10 for satellite 0, and 13 for its row
abbrev pub entry_checks : Frame → ℕ → List Check
entry_checks f i = general_checks f ((leb (general.generals_held f) i, 9) ∷ (general.no_satellite (general.general_in f i), 10) ∷ [])

abbrev pub general_order : List ℕ → ℕ → List ℕ → List Check
general_order bs i lent = (recall_order bs ++ entry_checks (frame_from bs) i) ++ ((ltb (length lent) (row_size general-bytes.row), 13) ∷ [])

-- NULL of type 42: then 6, 7, 8, 23
abbrev pub null_checks : Frame → List Check
null_checks f =
    (general-null.other_than_null f.header.kind, 6) ∷ (late f.header.z, 7) ∷ (wrong_size 1 f.n, 8)
    ∷ (general.other_system (general-null.system_in f), 23) ∷ []

abbrev pub general_null_order : List ℕ → List Check
general_null_order bs = recall_order bs ++ null_checks (frame_from bs)

-- ---- a frame goes out: 5 first, 13 last

module _ (kind station z sequence code : ℕ) where
  abbrev H : Header
  H = header_with kind station z sequence code

  -- MAKING: 5, 6, 7, 23, 12, 10, 13
  module _ (a : GeneralHead) (bs : List ℕ) where
    -- the width of a delay
    abbrev pub delay_bits : ℕ
    delay_bits = general.delay_width a.ionosphere

    abbrev pub general_rows : List General
    general_rows = entries_from general-bytes.row 22 bs

    abbrev pub general_count : ℕ
    general_count = count_of (row_size general-bytes.row) (length bs)

    abbrev pub generals_frame : Frame
    generals_frame = frame_after (general.head_bits a) general.fill (general.coding delay_bits) H (take general_count general_rows)

    abbrev pub generals_own : List Check
    generals_own =
        (general.other_system a.system, 23) ∷ (wrong_count (general.most_generals delay_bits) general_count, 12)
        ∷ (general.head_out a || any_of (general.out_of_range delay_bits) (take general_count general_rows), 10) ∷ []

    abbrev pub generals_made_order : List ℕ → List Check
    generals_made_order buffer = made_order kind station z sequence code layout.General generals_own generals_frame buffer

  -- MAKING the null frame of type 42: 5, 6, 7, 23, 12, 13
  module _ (n system : ℕ) where
    abbrev pub general_null_frame : Frame
    general_null_frame = frame_after (general-null.system_bits system) general.fill (general.coding 0) H []

    abbrev pub general_null_own : List Check
    general_null_own =
        (header_outside H, 5) ∷ (general-null.other_than_null kind, 6) ∷ (late z, 7) ∷ (general.other_system system, 23) ∷ (wrong_size 1 n, 12) ∷ []

    abbrev pub general_null_made_order : List ℕ → List Check
    general_null_made_order buffer = (ltb 7 code, 5) ∷ (general_null_own ++ (short_for general_null_frame buffer ∷ []))

-- ---- UDRE: 5 for a health over 7, 10
abbrev pub general_limit_order : ℕ → ℕ → List Check
general_limit_order health udre = (ltb 7 health, 5) ∷ (ltb 15 udre, 10) ∷ []
