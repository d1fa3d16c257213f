-- `put_digits` meets its contract: by a loop that stores the last of the digits left. Assumes nothing.
use mathlib.Core.Path.{◌≡◌}
use mathlib.Core.List.{◌++◌}
use lib.ListN.{length, drop}
use Rattle.printing.specs.Printing.{last_digits}
use Rattle.printing.proofs.put_digits.Given as goal

-- the digits that are left and those stored are all of them
abbrev pub invariant-loop-i : goal.invariant-loop-i
invariant-loop-i l = last_digits (length l.fn.digits) l.n ≡ last_digits l.i l.left ++ drop l.i l.digits
