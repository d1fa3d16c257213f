-- `totals_of` meets its contract: the totals of the rows so far, each of which adds no more than its numbers hold. Assumes nothing.
use Rattle.std.proofs.Common.{◌≡◌, ◌*◌, ◌^◌, ◌≤◌, take}
use Rattle.season.specs.Sums.{usable_in, stops_in, above_in, below_in}
use Rattle.season.proofs.sums.totals_of.Given as goal

abbrev pub invariant-loop-i : goal.invariant-loop-i
invariant-loop-i l =
    ((l.i ≤ 512) × ((l.totals.usable ≤ l.i * 2 ^ 32) × (l.totals.stops ≤ l.i * 2 ^ 32)))
    × ((l.totals.above ≤ l.i * 2 ^ 63) × (l.totals.below ≤ l.i * 2 ^ 63))
    × ((l.totals.usable ≡ usable_in (take l.i l.report.rows)) × (l.totals.stops ≡ stops_in (take l.i l.report.rows)))
    × ((l.totals.above ≡ above_in (take l.i l.report.rows)) × (l.totals.below ≡ below_in (take l.i l.report.rows)))
