-- The refusals of the three calls on a list, in the order that include/rtcm2.h gives: whether each applies, and its number. Assumes nothing.
use Rattle.std.specs.Prelude.{List, [], ◌∷◌, ◌++◌, ℕ, ltb, leb, length, take}
use Rattle.answer.specs.Order.{Check}
use Rattle.frame.specs.Layout.{system_of}
use Rattle.frame.specs.Widths.{any_of}
use Rattle.frame.specs.declared.Frame.{Frame}
use Rattle.frame.specs.declared.Header.{Header}
use Rattle.frame.specs.declared.System.{System}
use Rattle.frame.specs.declared.System.TheVariants.{Gps}
use Rattle.journal.specs.Journal.{recall_order}
use Rattle.record_fields.specs.Coding.{frame_with}
use Rattle.record_stages.specs.Stages.{wrong_count, entries_held, misfit}
use Rattle.record_stages.specs.Lists.{coding_of, width_of, range_order}
use Rattle.rtcm2_rows.specs.Rows.{row_size, count_of, entries_from}
use Rattle.rtcm2.specs.Lists.{LibraryList}
use Rattle.rtcm2.specs.Orders.{frame_from, record_checks, header_with, made_order}

module _ (L : LibraryList) where
  -- ---- a frame comes in: 14, 15, 16, 15, 16

  module _ (bs : List ℕ) where
    abbrev width : ℕ
    width = width_of L.plain (frame_from bs).header

    -- 6, 7, 8, then these
    abbrev list_checks : List Check → List Check
    list_checks more = record_checks L.plain.asked (frame_from bs) (misfit width (frame_from bs).n) more

    -- COUNT: then 6, 7, 8
    abbrev pub count_order : List Check
    count_order = recall_order bs ++ list_checks []

    -- ENTRY: then 6, 7, 8, 9, 10 where reading has it, and 13 for its row
    abbrev pub entry_checks : ℕ → List Check
    entry_checks i = (leb (entries_held width (frame_from bs).n) i, 9) ∷ range_order L.plain (frame_from bs) i

    abbrev pub entry_order : ℕ → List ℕ → List Check
    entry_order i lent = (recall_order bs ++ list_checks (entry_checks i)) ++ ((ltb (length lent) (row_size (L.row Gps)), 13) ∷ [])

  -- ---- a frame goes out, of the rows of its type's system

  module _ (kind station z sequence code : ℕ) (bs : List ℕ) where
    abbrev H : Header
    H = header_with kind station z sequence code

    abbrev S : System
    S = system_of kind

    abbrev pub rows_from : List L.plain.Entry
    rows_from = entries_from (L.row S) L.plain.most bs

    abbrev pub row_count : ℕ
    row_count = count_of (row_size (L.row S)) (length bs)

    -- its own: 12, 10
    abbrev pub own_checks : List Check
    own_checks = (wrong_count L.plain.most row_count, 12) ∷ (any_of (L.plain.out S) (take row_count rows_from), 10) ∷ []

    abbrev pub list_frame : Frame
    list_frame = frame_with L.plain.pattern (coding_of L.plain H) H (take row_count rows_from)

    -- MAKING: 5, a health over 7 too, 6, 7, 12, 10, 13
    abbrev pub list_order : List ℕ → List Check
    list_order buffer = made_order kind station z sequence code L.plain.asked own_checks list_frame buffer
