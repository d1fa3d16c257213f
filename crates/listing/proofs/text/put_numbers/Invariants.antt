-- `put_numbers` meets its contract: by a loop that stores a number and the space after it. Assumes nothing.
use Rattle.std.proofs.Common.{◌≡◌, ◌+◌, ◌*◌, ◌≤◌, length, drop}
use lib.Seq.{sets}
use Rattle.listing.specs.Text.{spaced}
use Rattle.listing.proofs.text.put_numbers.Given as goal

-- storing the numbers that are left from here on is storing the whole line
abbrev pub invariant-loop-number : goal.invariant-loop-number
invariant-loop-number l =
    (sets l.initial.buffer l.place (spaced l.numbers) ≡ sets l.buffer l.next (spaced (drop l.number-index l.numbers)))
    × (l.place + length (spaced l.numbers) ≡ l.next + length (spaced (drop l.number-index l.numbers)))
    × (l.next ≤ l.place + 21 * l.number-index) × (length l.buffer ≡ length l.initial.buffer)
