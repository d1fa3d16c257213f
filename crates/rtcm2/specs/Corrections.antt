-- Corrections, types 1, 9, 31 and 34, as a list of the library. Assumes nothing.
use Rattle.record_corrections.specs.Corrections.{correction_layout}
use Rattle.rtcm2_rows.specs.Corrections.{row}
use Rattle.rtcm2.specs.Lists.{LibraryList}

abbrev pub correction_list : LibraryList
correction_list = record { plain = correction_layout; row = row }
