-- `put_lines` meets its contract: by a loop that feeds, takes and writes a line. Assumes nothing.
use Rattle.std.proofs.Common.{◌≡◌, ◌-◌, ◌*◌, ◌≤◌, length, drop}
use Rattle.listing.specs.Listing.{lines_of, line_room}
use Rattle.listing.proofs.LinesLaws.{Far}
use Rattle.listing.proofs.put_lines.Given as goal

-- the lines from here on, after what was used and written
abbrev pub invariant-loop : goal.invariant-loop
invariant-loop l =
    Far (lines_of l.lines l.initial.state l.input) l.initial.output l.output l.used l.written (lines_of (l.lines - l.counter) l.state (drop l.used l.input))
    × (l.used ≤ length l.input) × (l.written ≤ line_room * l.counter) × (length l.output ≡ length l.initial.output)
