-- The last eight bits of a correction, the only ones in which the systems differ: a bit and seven more. GPS sends an issue of data in
-- all eight; GLONASS the change bit and tb, half minutes from the full hour. Assumes nothing.
use Rattle.std.specs.Prelude.{Bool, false, ℕ, ◌+◌, ◌*◌, ◌/◌, ◌%◌, ◌^◌, ◌≤◌, ◌<◌, ltb}
use Rattle.frame.specs.declared.System.{System}
use Rattle.frame.specs.declared.System.TheVariants.{Gps, Glonass}
use Rattle.record_corrections.specs.declared.Issue.{Issue}
use Rattle.record_corrections.specs.declared.Issue.TheVariants.{Iod, Age}

-- what the bit and the seven say
unfoldable pub issue_of : System → ℕ → ℕ → Issue
issue_of Gps first others = Iod (first * 128 + others)
issue_of Glonass first others = Age first others

abbrev pub issue_in : System → ℕ → Issue
issue_in s last = issue_of s (last / 128) (last % 128)

-- the numbers of the two fields; for the other system's issue a first number that one bit can't hold
unfoldable pub issue_first : System → Issue → ℕ
issue_first Gps (Iod v) = v / 128
issue_first Gps (Age change tb) = 2
issue_first Glonass (Iod v) = 2
issue_first Glonass (Age change tb) = change

unfoldable pub issue_others : System → Issue → ℕ
issue_others Gps (Iod v) = v % 128
issue_others Gps (Age change tb) = 0
issue_others Glonass (Iod v) = 0
issue_others Glonass (Age change tb) = tb

-- THE MOST of the seven bits: tb is 0 to 119, an IOD has all numbers
unfoldable pub last_most : System → ℕ
last_most Gps = 127
last_most Glonass = 119

-- tb past the hour: all that refuses an entry which is read
abbrev pub late_tb : Issue → Bool
late_tb (Iod v) = false
late_tb (Age change tb) = ltb 119 tb

-- what the types of the fields say
abbrev pub IssueTyped : Issue → Type 0
IssueTyped (Iod v) = v < 2 ^ 8
IssueTyped (Age change tb) = (change < 2 ^ 8) × (tb < 2 ^ 8)

-- IN RANGE: a system's own issue; any IOD, a change bit of 0 or 1 and a tb of 0 to 119
abbrev pub IssueInRange : System → Issue → Type 0
IssueInRange Gps (Iod v) = Unit {0}
IssueInRange Gps (Age change tb) = ⊥
IssueInRange Glonass (Iod v) = ⊥
IssueInRange Glonass (Age change tb) = (change ≤ 1) × (tb ≤ 119)
