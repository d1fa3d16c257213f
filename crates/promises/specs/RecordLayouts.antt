-- WHICH TYPES HAVE A RECORD, and which of their layouts are plain lists. Such a layout is a value (`ListLayout`, record_stages/specs/Lists): what is
-- promised of lists is said once, and holds of each of these. Assumes nothing.
use Rattle.std.specs.Prelude.{List, [], ◌∷◌, ℕ}
use Rattle.record_stages.specs.Lists.{ListLayout}
use Rattle.record_corrections.specs.Corrections.{correction_layout}
use Rattle.record_healths.specs.Healths.{health_layout}

-- THE TYPES that have a record
abbrev pub record_types : List ℕ
record_types = 1 ∷ 9 ∷ 31 ∷ 34 ∷ 3 ∷ 32 ∷ 5 ∷ 33 ∷ 6 ∷ 16 ∷ 36 ∷ 18 ∷ 19 ∷ 41 ∷ 42 ∷ []

-- THE PLAIN LISTS
pub data PlainList : Type 0 where
  -- types 1, 9, 31 and 34
  of_corrections : PlainList
  -- types 5 and 33
  of_healths : PlainList

abbrev pub list_of : PlainList → ListLayout
list_of of_corrections = correction_layout
list_of of_healths = health_layout

-- this holds of each
abbrev pub EachList : (ListLayout → Type 0) → Type 0
EachList Holds = (l : PlainList) → Holds (list_of l)
