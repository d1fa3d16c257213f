-- At each head the hunt from here, with the positions counted so far, is the hunt from the start.
use Rattle.std.proofs.Common.{◌≡◌, ◌-◌, ◌<◌, ◌≤◌, false, eqb, length}
use Rattle.reader.specs.Hunting.{hunt_of, Passing, Remembered}
use Rattle.reader.proofs.hunt.hunt.Given as goal

abbrev pub invariant-loop-good : goal.invariant-loop-good
invariant-loop-good l =
    (l.left ≡ l.initial.left) × (0 < l.left) × (l.left ≤ l.held) × (l.good ≤ 32) × (hunt_of l.cells l.end l.initial.left l.initial.good l.ended l.initial.count ≡ hunt_of l.cells l.end l.left l.good l.ended l.count)
    × (l.fails ≡ l.initial.fails) × (eqb l.left l.held ≡ false → Passing l.cells (l.end - l.left) l.good)

abbrev pub decreases-loop-good : goal.decreases-loop-good
decreases-loop-good l = 33 - l.good

abbrev pub invariant-position : goal.invariant-position
invariant-position l =
    (l.left ≤ l.held) × (l.good ≤ 32) × (hunt_of l.cells l.end l.held l.words l.ended l.initial.count ≡ hunt_of l.cells l.end l.left l.good l.ended l.count)
    × (length l.fails ≡ 30) × Remembered l.cells l.end (l.end - l.left) l.fails × (eqb l.left l.held ≡ false → Passing l.cells (l.end - l.left) l.good)

abbrev pub decreases-position : goal.decreases-position
decreases-position l = l.left
