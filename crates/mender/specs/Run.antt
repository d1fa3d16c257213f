-- THE RUN over a whole journal: step after step, each where the one before it ended. Assumes nothing.
use Rattle.std.specs.Prelude.{ℕ, zero, suc, ◌-◌, Bool, true, false, List, [], ◌∷◌, ◌++◌, length, take}
use Rattle.mender.specs.Records.{count_of, record_for}
use Rattle.mender.specs.Report.{Change, changes_from}
use Rattle.mender.specs.Steps.{step_by}
use Rattle.mender.specs.declared.Next.{Next}
use Rattle.mender.specs.declared.Step.{Step}
use Rattle.mender.specs.declared.Step.TheVariants.{End, Whole, Lost, Cut, Numberless, Passed}

-- a record that is lost: its offset, and how many bytes count as its own
pub record LostAt : Type 0 where
  pub offset : ℕ
  pub size : ℕ

-- what a run gives: the journal after it, the changes, the offsets of the whole records, the lost ones, the offsets of the bytes passed over
pub record MendedJournal : Type 0 where
  pub bytes : List ℕ
  pub changes : List Change
  pub whole : List ℕ
  pub lost : List LostAt
  pub passed : List ℕ

abbrev pub nothing_mended : MendedJournal
nothing_mended = record { bytes = []; changes = []; whole = []; lost = []; passed = [] }

-- WHERE THE NEXT STEP IS: so many bytes on, where `left` are left
abbrev pub on_of : Step → ℕ → ℕ
on_of (Whole size) left = size
on_of (Lost size) left = size
on_of Cut left = left
on_of Numberless left = 1
on_of Passed left = 1
on_of End left = 0

-- whether it searches for a mark
abbrev pub searches_after : Step → Bool
searches_after (Whole size) = false
searches_after (Lost size) = false
searches_after Cut = false
searches_after Numberless = true
searches_after Passed = true
searches_after End = false

-- whether there is none
abbrev pub ends_at : Step → Bool
ends_at (Whole size) = false
ends_at (Lost size) = false
ends_at Cut = true
ends_at Numberless = false
ends_at Passed = false
ends_at End = true

abbrev pub ahead_by : ℕ → Bool → Bool → Next
ahead_by on searching ended = record { on = on; searching = searching; ended = ended }

abbrev pub next_of : Step → ℕ → Next
next_of step left = ahead_by (on_of step left) (searches_after step) (ends_at step)

-- the bytes behind the first one that a step deals with
abbrev pub skip_of : Step → ℕ
skip_of step = on_of step 0 - 1

-- a step at the offset `at` and the run from the next one on. A record cut short ends the run. One that has no N counts as its mark and N byte alone.
abbrev pub joined : Step → ℕ → List ℕ → MendedJournal → MendedJournal
joined (Whole size) at bs next = record {
  bytes = record_for (count_of bs) bs ++ next.bytes;
  changes = changes_from at bs (record_for (count_of bs) bs) ++ next.changes;
  whole = at ∷ next.whole;
  lost = next.lost;
  passed = next.passed;
}
joined (Lost size) at bs next = record {
  bytes = take size bs ++ next.bytes;
  changes = next.changes;
  whole = next.whole;
  lost = record { offset = at; size = size } ∷ next.lost;
  passed = next.passed;
}
joined Cut at bs next = record { bytes = bs; changes = []; whole = []; lost = record { offset = at; size = length bs } ∷ []; passed = [] }
joined Numberless at bs next = record {
  bytes = take 1 bs ++ next.bytes;
  changes = next.changes;
  whole = next.whole;
  lost = record { offset = at; size = 3 } ∷ next.lost;
  passed = next.passed;
}
joined Passed at bs next = record {
  bytes = take 1 bs ++ next.bytes;
  changes = next.changes;
  whole = next.whole;
  lost = next.lost;
  passed = at ∷ next.passed;
}
joined End at bs next = next

-- FROM A PLACE ON, searching or not: `skip` bytes, which the step before dealt with, and then step after step
unfoldable pub mended_from : Bool → ℕ → ℕ → List ℕ → MendedJournal
mended_from searching skip at [] = nothing_mended
mended_from searching (suc skip) at (b ∷ bs) = mended_from searching skip (suc at) bs
mended_from searching zero at (b ∷ bs) =
    let step = step_by searching (b ∷ bs) in
    joined step at (b ∷ bs) (mended_from (searches_after step) (skip_of step) (suc at) bs)

-- THE RUN
abbrev pub mended_journal : List ℕ → MendedJournal
mended_journal journal = mended_from false 0 0 journal
