-- A STEP of the mender at the start of the bytes, searching for a mark or not: what it finds, the bytes after it, and its report. Refusal: 13.
-- Assumes nothing.
use Rattle.std.specs.Prelude.{ℕ, ◌+◌, ◌*◌, Bool, true, false, cond, List, [], ◌∷◌, ◌++◌, length, drop, ◌==◌, nat_lt, Result, Ok, Err}
use Rattle.std.proofs.lemmas.List.Edits.{sets}
use Rattle.answer.specs.Order.{Says, refuses, answers, Check, in_order}
use Rattle.journal.specs.Forms.{unmarked}
use Rattle.mender.specs.Records.{count_of, extent_of, record_for, whole}
use Rattle.mender.specs.Report.{changes_from, change_lines, lost_line}
use Rattle.mender.specs.declared.record.NoEnd.{NoEnd}
use Rattle.mender.specs.declared.record.NoEnd.TheVariants as none
use Rattle.mender.specs.declared.Answer.{Answer}
use Rattle.mender.specs.declared.Answer.TheVariants as answer
use Rattle.mender.specs.declared.Mended.{Mended}
use Rattle.mender.specs.declared.Step.{Step}
use Rattle.mender.specs.declared.Step.TheVariants.{End, Whole, Lost, Cut, Numberless, Passed}

-- THE RECORD AT A MARK, by where it ends: whole, or lost
abbrev pub judged_at : Result ℕ NoEnd → List ℕ → Step
judged_at (Ok n) bs = cond (whole n bs) (Whole (4 * n + 11)) (Lost (4 * n + 11))
judged_at (Err none.Cut) bs = Cut
judged_at (Err none.Numberless) bs = Numberless

-- searching, a record that is not whole is passed over
abbrev pub or_passed : Step → Step
or_passed (Whole size) = Whole size
or_passed (Lost size) = Passed
or_passed Cut = Passed
or_passed Numberless = Passed
or_passed Passed = Passed
or_passed End = Passed

abbrev pub sought : Bool → Step → Step
sought false step = step
sought true step = or_passed step

-- WHAT A STEP FINDS: without a mark, or without a whole record while searching, it passes over a byte
unfoldable pub step_by : Bool → List ℕ → Step
step_by searching bs = cond (length bs == 0) End (cond (unmarked 0x34 bs) Passed (sought searching (judged_at (extent_of bs) bs)))

-- THE BYTES AFTER IT: those of a whole record are mended, all others stay
abbrev pub bytes_after : Step → List ℕ → List ℕ
bytes_after (Whole size) bs = record_for (count_of bs) bs ++ drop size bs
bytes_after (Lost size) bs = bs
bytes_after Cut bs = bs
bytes_after Numberless bs = bs
bytes_after Passed bs = bs
bytes_after End bs = bs

-- ITS REPORT at the offset `at`: each change, or that the record is lost
abbrev pub report_of : ℕ → Step → List ℕ → List ℕ
report_of at (Whole size) bs = change_lines (changes_from at bs (record_for (count_of bs) bs))
report_of at (Lost size) bs = lost_line at
report_of at Cut bs = lost_line at
report_of at Numberless bs = lost_line at
report_of at Passed bs = []
report_of at End bs = []

-- ---- the call

-- room for the report of any record: a line of at most 29 bytes for each of 33 words and for N
abbrev pub report_room : ℕ
report_room = 34 * 29

-- 13
abbrev pub mend_order : List ℕ → List Check
mend_order output = (nat_lt (length output) report_room, 13) ∷ []

abbrev pub refused_mend : ℕ → Mended
refused_mend number = record { answer = answer.Refused number; step = End; written = 0 }

abbrev pub done_mend : Step → ℕ → Mended
done_mend step written = record { answer = answer.Done; step = step; written = written }

-- a step, and how long its report is
abbrev pub found_by : Step → ℕ → List ℕ → Mended
found_by step at bs = done_mend step (length (report_of at step bs))

-- a record that is not whole: reported lost, or passed over while searching
abbrev pub missed_text : ℕ → Bool → List ℕ
missed_text at true = []
missed_text at false = lost_line at

abbrev pub missed_by : Step → ℕ → Bool → Mended
missed_by step at true = done_mend Passed 0
missed_by step at false = done_mend step (length (lost_line at))

-- MEND: what the step found, and how long its report is
abbrev pub mend_by : List ℕ → ℕ → Bool → List ℕ → Mended
mend_by bs at searching output = in_order (mend_order output) refused_mend (found_by (step_by searching bs) at bs)

-- what the bytes then are
abbrev pub bytes_to : List ℕ → Bool → List ℕ → List ℕ
bytes_to bs searching output = in_order (mend_order output) (λ n. bs) (bytes_after (step_by searching bs) bs)

-- what the output then holds: the report, and past it what it held before
abbrev pub output_to : List ℕ → ℕ → Bool → List ℕ → List ℕ
output_to bs at searching output = in_order (mend_order output) (λ n. output) (sets output 0 (report_of at (step_by searching bs) bs))

-- in the table's terms
abbrev pub says_mend : Answer → Step → ℕ → Says (Step × ℕ)
says_mend answer.Done step written = answers (step, written)
says_mend (answer.Refused number) step written = refuses number

abbrev pub says_mended : Mended → Says (Step × ℕ)
says_mended m = says_mend m.answer m.step m.written
