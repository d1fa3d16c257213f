-- `put_rows` meets its contract: by a loop that puts a row where the one before it ends. Assumes nothing.
use mathlib.Core.Path.{◌≡◌}
use Prim.Native.Nat.{◌+◌, ◌*◌, ◌≤◌}
use lib.ListN.{length, drop}
use lib.Seq.{sets}
use Rattle.rtcm2_rows.specs.Rows.{row_bytes}
use Rattle.rtcm2_season.specs.Rows.{report_row}
use Rattle.rtcm2_season.proofs.put_rows.Given as goal

-- putting the rows that are left from here on is putting all of them
abbrev pub invariant-loop-i : goal.invariant-loop-i
invariant-loop-i l =
    (sets l.initial.bytes 4 (row_bytes report_row l.rows) ≡ sets l.bytes (4 + l.i * 29) (row_bytes report_row (drop l.i l.rows))) × ((l.i ≤ 512) × (length l.bytes ≡ length l.initial.bytes))
